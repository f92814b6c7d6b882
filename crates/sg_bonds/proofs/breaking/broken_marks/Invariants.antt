use Rattle.std.proofs.Common.{◌≡◌, map, take}
use Rattle.sg_model.specs.Broken.{is_broken}
use Rattle.sg_bonds.proofs.breaking.broken_marks.Given as goal

abbrev pub invariant-loop-bond : goal.invariant-loop-bond
invariant-loop-bond l = l.marks.items ≡ map (is_broken l.spins) (take l.bond-index l.bonds)
