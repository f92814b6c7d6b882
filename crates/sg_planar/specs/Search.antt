-- A breadth-first search from a spin: one visit, and the visits so far.
use Rattle.std.specs.Prelude.{◌≡◌, ◌≢◌, ◌⊎◌, ℕ, ◌+◌, ◌/◌, ◌<◌, ◌≤◌, Bool, true, false, not, List, length, slice_index, All, count_by}
use Rattle.sg_base.specs.Sets.{is_marked, IsMarked, Stands}
use Rattle.sg_model.specs.Ising.{Ising}
use Rattle.sg_model.specs.Rotation.{darts_of, head_of}
use Rattle.sg_model.specs.Connected.{JoinedBy, Reached}
use Rattle.sg_planar.specs.Walk.{IsFoundFrom}

-- how many spins are not marked
abbrev pub unmarked_count : List Bool → ℕ
unmarked_count marks = count_by not marks

-- if the dart is of the set, it leads to a marked spin
abbrev pub IsSeen : Ising → (ℕ → Bool) → List Bool → ℕ → Type 0
IsSeen inst set marks d = set (d / 2) ≡ true → IsMarked marks (head_of inst d)

-- what a visit of some darts of one spin changes: the spins that those of the set lead to are marked,
-- and those that were not are noted after the others
pub record Visits (inst : Ising) (set : ℕ → Bool) (spin : ℕ) (darts : List ℕ)
    (old now : List Bool) (before after : List ℕ) : Type 0 where
  pub lengths : length now ≡ length old
  pub kept : (x : ℕ) → IsMarked old x → IsMarked now x
  pub heads : All (IsSeen inst set now) darts
  pub longer : length before ≤ length after
  pub stays : (k : ℕ) → k < length before → slice_index after k ≡ slice_index before k
  pub found : (x : ℕ) → IsMarked now x → IsMarked old x ⊎ Stands after x
  pub sound : (k : ℕ) → length before ≤ k → k < length after → IsMarked now (slice_index after k)
  pub fresh : (k : ℕ) → length before ≤ k → k < length after → is_marked old (slice_index after k) ≡ false
  pub joined : (k : ℕ) → length before ≤ k → k < length after → JoinedBy inst set spin (slice_index after k)
  pub once : (j k : ℕ) → length before ≤ j → j < k → k < length after →
      slice_index after j ≢ slice_index after k
  pub count : unmarked_count now + length after ≡ unmarked_count old + length before

-- after the visits of the first `next` spins of the order, from marks that were there before
pub record SearchedTo (inst : Ising) (set : ℕ → Bool) (root : ℕ) (base marks : List Bool)
    (order : List ℕ) (next : ℕ) : Type 0 where
  pub lengths : length marks ≡ length base
  pub kept : (x : ℕ) → IsMarked base x → IsMarked marks x
  pub root_marked : IsMarked marks root
  pub sound : (k : ℕ) → k < length order → IsMarked marks (slice_index order k)
  pub fresh : (k : ℕ) → k < length order → is_marked base (slice_index order k) ≡ false
  pub reached : (k : ℕ) → k < length order → Reached inst set root (slice_index order k)
  pub root_first : (0 < length order) × (slice_index order 0 ≡ root)
  pub found_from : (k : ℕ) → 0 < k → k < length order → IsFoundFrom inst set order k
  pub noted : (x : ℕ) → IsMarked marks x → IsMarked base x ⊎ Stands order x
  pub once : (j k : ℕ) → j < k → k < length order → slice_index order j ≢ slice_index order k
  pub done : (k : ℕ) → k < next → All (IsSeen inst set marks) (darts_of inst (slice_index order k))
  pub count : unmarked_count marks + length order ≡ unmarked_count base
  pub at_most : next ≤ length order
