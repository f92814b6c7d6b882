use Rattle.sg_graph_text.proofs.OneNetwork.{network-one_answer}
use Rattle.sg_graph_text.proofs.law.networks_have_one_answer.Goals as goal

pub returns : goal.returns
returns c = λ terms bytes. network-one_answer terms bytes
