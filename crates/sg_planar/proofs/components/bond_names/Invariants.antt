use Rattle.std.proofs.Common.{◌≡◌, map, take, slice_index}
use Rattle.sg_planar.proofs.components.bond_names.Given as goal

abbrev pub invariant-loop-bond : goal.invariant-loop-bond
invariant-loop-bond l = l.labels.items ≡ map (λ b. slice_index l.names b.u) (take l.bond-index l.bonds)
