-- What a walk over a set of bonds leaves: which spins are marked, and the list of those that it found.
use Rattle.std.specs.Prelude.{◌≡◌, ◌≢◌, ◌⊎◌, ℕ, ◌<◌, Bool, false, List, length, slice_index}
use Rattle.sg_base.specs.Sets.{is_marked, IsMarked, Stands}
use Rattle.sg_model.specs.Ising.{Ising}
use Rattle.sg_model.specs.Connected.{JoinedBy, Reached}

-- whether bond b is in the set
abbrev pub has : List Bool → ℕ → Bool
has set b = is_marked set b

-- a bond of the set connects a marked spin only with marked ones
abbrev pub IsClosed : Ising → (ℕ → Bool) → List Bool → Type 0
IsClosed inst set marks = (a b : ℕ) → JoinedBy inst set a b → IsMarked marks a → IsMarked marks b

-- a bond of the set connects the spin at place k with an earlier one
abbrev pub IsFoundFrom : Ising → (ℕ → Bool) → List ℕ → ℕ → Type 0
IsFoundFrom inst set order k = (j : ℕ) × (j < k) × JoinedBy inst set (slice_index order j) (slice_index order k)

-- the list has, each once, the spins that the root reaches, none of which was marked before: the root first, and each
-- other one after a neighbour of it;
-- they and the old ones are marked, and no others
pub record IsWalked (inst : Ising) (set : ℕ → Bool) (root : ℕ) (old now : List Bool)
    (order : List ℕ) : Type 0 where
  pub lengths : length now ≡ length old
  pub kept : (x : ℕ) → IsMarked old x → IsMarked now x
  pub root_marked : IsMarked now root
  pub noted : (x : ℕ) → IsMarked now x → IsMarked old x ⊎ Stands order x
  pub marked : (k : ℕ) → k < length order → IsMarked now (slice_index order k)
  pub fresh : (k : ℕ) → k < length order → is_marked old (slice_index order k) ≡ false
  pub reached : (k : ℕ) → k < length order → Reached inst set root (slice_index order k)
  pub root_first : (0 < length order) × (slice_index order 0 ≡ root)
  pub found_from : (k : ℕ) → 0 < k → k < length order → IsFoundFrom inst set order k
  pub once : (j k : ℕ) → j < k → k < length order → slice_index order j ≢ slice_index order k
  pub closed : IsClosed inst set now
