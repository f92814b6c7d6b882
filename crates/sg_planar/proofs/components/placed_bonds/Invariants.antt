use Rattle.std.proofs.Common.{◌≡◌, map, take}
use Rattle.sg_model.specs.Ising.{bond_at}
use Rattle.sg_planar.specs.Splitting.{placed_bond}
use Rattle.sg_planar.proofs.components.placed_bonds.Given as goal

abbrev pub invariant-loop-k : goal.invariant-loop-k
invariant-loop-k l = l.bonds ≡ map (λ k. placed_bond l.places (bond_at l.inst k)) (take l.k-index l.list)
