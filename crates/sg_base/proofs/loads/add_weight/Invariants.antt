use Rattle.std.proofs.Common.{◌≡◌, ℕ, ◌+◌, ◌<◌, cond, take, length, get_or}
use Rattle.sg_base.specs.Sets.{holds}
use Rattle.sg_base.proofs.loads.add_weight.Given as goal

abbrev pub invariant-loop-k : goal.invariant-loop-k
invariant-loop-k l =
    (k : ℕ) → k < length l.loads → get_or l.loads k 0 ≡ get_or l.initial.loads k 0 + cond (holds (take l.k-index l.list) k) l.weight 0
