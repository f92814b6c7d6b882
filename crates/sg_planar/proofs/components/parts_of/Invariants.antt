use Rattle.std.proofs.Common.{slice_index}
use Rattle.std.specs.List.{AllZip}
use Rattle.sg_planar.specs.Parts.{IsPart}
use Rattle.sg_planar.specs.Splitting.{own_names}
use Rattle.sg_planar.proofs.components.parts_of.Given as goal

-- the parts of the least spins before the next
abbrev pub invariant-loop-spin : goal.invariant-loop-spin
invariant-loop-spin l = AllZip (IsPart l.planar.instance) (own_names (slice_index l.names) l.spin) l.parts
