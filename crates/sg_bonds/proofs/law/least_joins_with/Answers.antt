use Rattle.sg_bonds.proofs.EdgeJoins.{least_with_edge}
use Rattle.sg_bonds.proofs.law.least_joins_with.Goals as goal

pub returns : goal.returns
returns c = λ g terminals edges k has inside bare least. least_with_edge g k inside least.0 terminals has edges least.1 bare
