-- No copy is left of the edges passed over.
use Rattle.std.proofs.Common.{length, ◌-◌, ◌≡◌, ℕ, ◌<◌, ◌≤◌, slice_index}
use Rattle.sg_postman.specs.Tracing.{left_of}
use Rattle.sg_postman.proofs.hierholzer.open_place.Given as goal

abbrev pub invariant-loop-place : goal.invariant-loop-place
invariant-loop-place l = (k : ℕ) → l.from ≤ k → k < l.place → left_of l.left (slice_index l.edges k) ≡ 0

abbrev pub decreases-loop-place : goal.decreases-loop-place
decreases-loop-place l = length l.edges - l.place
