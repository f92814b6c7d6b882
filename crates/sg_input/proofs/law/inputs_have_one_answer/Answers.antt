use Rattle.sg_input.proofs.OneInput.{input-one_answer, proof-given, proof-one_answer, text-given}
use Rattle.sg_input.proofs.law.inputs_have_one_answer.Goals as goal

pub returns-clause-fit : goal.returns-clause-fit
returns-clause-fit c = λ bytes. input-one_answer bytes

pub returns-clause-instance : goal.returns-clause-instance
returns-clause-instance c = λ bytes inst given. text-given bytes inst given.gives

pub returns-clause-judged : goal.returns-clause-judged
returns-clause-judged c = λ bytes inst stated given. proof-given bytes inst stated given

pub returns-clause-proof : goal.returns-clause-proof
returns-clause-proof c = λ bytes. proof-one_answer bytes
