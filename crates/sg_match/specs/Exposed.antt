-- The unpaired tops.
use Rattle.std.specs.Prelude.{◌≡◌, ◌≢◌, ℕ, ◌+◌, ◌<◌, List, length, slice_index, Option, None, Some, ◌%◌, ◌⊎◌}
use Rattle.sg_arena.specs.Family.{Family, IsTop}
use Rattle.sg_base.specs.Sets.{Differ, Stands}
use Rattle.sg_match.specs.Pairs.{pair_of}
use Rattle.sg_match.specs.declared.Edge.{Edge}

-- how many roots there are
abbrev pub root_count : Option ℕ → ℕ
root_count None = 0
root_count (Some root) = 1

-- the unpaired tops are the root and these, an even number together
pub record IsExposed (f : Family) (pairs : List (Option Edge)) (root : Option ℕ) (exposed : List ℕ) : Type 0 where
  pub tops : (i : ℕ) → i < length exposed → IsTop f (slice_index exposed i)
  pub unpaired : (i : ℕ) → i < length exposed → pair_of pairs (slice_index exposed i) ≡ None
  pub differ : Differ exposed
  pub rootless : (i : ℕ) → i < length exposed → root ≢ Some (slice_index exposed i)
  pub every : (t : ℕ) → IsTop f t → pair_of pairs t ≡ None → (root ≡ Some t) ⊎ Stands exposed t
  pub even : (length exposed + root_count root) % 2 ≡ 0
