use Rattle.sg_draws.proofs.OneReply.{law-one}
use Rattle.sg_draws.proofs.law.drawings_have_one_reply.Goals as goal

pub returns : goal.returns
returns c = λ drawing law text line first second p q. law-one drawing law text line first second p q
