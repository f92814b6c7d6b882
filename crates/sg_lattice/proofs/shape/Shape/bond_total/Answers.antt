use Rattle.std.proofs.Common.{rules}
use Rattle.sg_lattice.proofs.shape.Shape.bond_total.Goals as goal

pub returns-in-Triangular : goal.returns-in-Triangular
returns-in-Triangular c = search rules
