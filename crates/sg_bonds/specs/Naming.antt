-- The rigid bonds as a set.
use Rattle.std.specs.Prelude.{◌≡◌, ◌↔◌, ℕ, ◌<◌, ℤ, pos, ◌<ℤ◌, Bool, true, List, length, slice_index_or}
use Rattle.sg_planar.specs.Walk.{has}

-- of the costs before `stop`, the set holds `true` at those above 0
pub record ShowsRigid (costs : List ℤ) (set : List Bool) (stop : ℕ) : Type 0 where
  pub count : length set ≡ stop
  pub shown : (b : ℕ) → b < stop → (has set b ≡ true) ↔ (pos 0 <ℤ slice_index_or costs b (pos 0))
