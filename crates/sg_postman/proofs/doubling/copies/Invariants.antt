-- The edges of the join so far have two copies.
use Rattle.std.proofs.Common.{◌≡◌, ℕ, ◌+◌, ◌<◌, cond, length, take}
use Rattle.sg_base.specs.Sets.{holds}
use Rattle.sg_postman.specs.Tracing.{left_of}
use Rattle.sg_postman.proofs.doubling.copies.Given as goal

abbrev pub invariant-loop-edge : goal.invariant-loop-edge
invariant-loop-edge l = record {
  count : length l.copies.items ≡ l.count;
  copies : (e : ℕ) → e < l.count → left_of l.copies.items e ≡ 1 + cond (holds (take l.edge-index l.join) e) 1 0;
}
