use Rattle.sg_json.proofs.OneObject.{json-one_answer}
use Rattle.sg_json.proofs.law.objects_have_one_answer.Goals as goal

pub returns : goal.returns
returns c = λ bytes. json-one_answer bytes
