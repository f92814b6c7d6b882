-- A weight added at each place of a rising list.
use Rattle.std.proofs.lemmas.Grind.{common_steps}
use Rattle.std.proofs.Common.{◌≡◌, ℕ, ◌+◌, ◌<◌, cond, List, take, set, arith, length, get_or}
use Rattle.std.specs.List.Sorted.{IsStrictlyIncreasing}
use Rattle.sg_base.specs.Sets.{holds}
use Rattle.sg_base.proofs.OneMore.{rising_is_new}

-- one place more of the list
pub added_more : (list loads old : List ℕ) (j w : ℕ) → IsStrictlyIncreasing list → j < length list → get_or list j 0 < length loads →
    ((k : ℕ) → k < length loads → get_or loads k 0 ≡ get_or old k 0 + cond (holds (take j list) k) w 0) →
    (k : ℕ) → k < length loads →
    get_or (set loads (get_or list j 0) (get_or loads (get_or list j 0) 0 + w)) k 0 ≡ get_or old k 0 + cond (holds (take (j + 1) list) k) w 0
added_more list loads old j w up low fits was k l = grind (arith, common_steps, rising_is_new)
