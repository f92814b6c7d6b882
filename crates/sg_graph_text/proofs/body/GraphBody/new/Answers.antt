use Rattle.std.proofs.Common.{refl}
use Rattle.sg_graph_text.proofs.BodyLaws.{holds-none}
use Rattle.sg_graph_text.proofs.body.GraphBody.new.Goals as goal

pub returns-clause-holds : goal.returns-clause-holds
returns-clause-holds c = holds-none _ c.requires.some c.requires.few c.new.ensures refl
