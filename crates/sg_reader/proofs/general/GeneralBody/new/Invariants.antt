use Rattle.std.proofs.Common.{◌≡◌, [], map}
use Rattle.std.specs.List.{range_with_len}
use Rattle.sg_reader.specs.Body.{rot_in}
use Rattle.sg_reader.proofs.general.GeneralBody.new.Given as goal

-- no darts for each spin so far
abbrev pub invariant-loop-spin : goal.invariant-loop-spin
invariant-loop-spin l = l.rotation ≡ map (rot_in []) (range_with_len 0 l._spin)
