use Rattle.std.proofs.Common.{arith}
use Rattle.sg_lattice.proofs.LatticeSizes.{some_spins}
use Rattle.sg_lattice.proofs.shape.Shape.spins.Goals as goal

pub returns-clause-some : goal.returns-clause-some
returns-clause-some c =
    omega (arith, some_spins c.args.self.kind c.args.self.rows c.args.self.cols c.args.self.size)
