use Rattle.std.proofs.Common.{rules}
use Rattle.sg_lattice.proofs.shape.Shape.neighbour.Goals as goal

pub returns-in-Cylinder : goal.returns-in-Cylinder
returns-in-Cylinder c = search rules
