use Rattle.std.proofs.Common.{◌≡◌, map, take}
use Rattle.sg_model.specs.Broken.{is_negative}
use Rattle.sg_planar.proofs.assignment.negative_bonds.Given as goal

abbrev pub invariant-loop-bond : goal.invariant-loop-bond
invariant-loop-bond l = l.marks.items ≡ map is_negative (take l.bond-index l.bonds)
