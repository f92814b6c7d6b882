-- Darts and rotations (Heffter 1891, Edmonds 1960): a bond seen from each of its ends, and the cyclic order
-- of the darts that leave a spin.
use Rattle.std.specs.Prelude.{◌≡◌, ℕ, ◌+◌, ◌-◌, ◌*◌, ◌/◌, ◌%◌, ◌<◌, ◌==◌, ◌&&◌, Bool, cond, nat_lt, if◌then◌else◌, List, [], length, slice_index, slice_index_or, count_by}
use Rattle.std.specs.List.{position_or_len}
use Rattle.sg_model.specs.Ising.{Ising, bond_at, bond_count}

-- two for each bond
abbrev pub dart_count : Ising → ℕ
dart_count inst = 2 * bond_count inst

-- the other dart of the same bond: dart 2k leaves the first end of bond k, and dart 2k + 1 the second
unfoldable pub rev : ℕ → ℕ
rev d = if d % 2 == 0 then d + 1 else (d - 1)

-- the spin that dart d leaves
unfoldable pub tail : Ising → ℕ → ℕ
tail inst d = if d % 2 == 0 then (bond_at inst (d / 2)).u else (bond_at inst (d / 2)).v

-- the spin that dart d leads to
abbrev pub head_of : Ising → ℕ → ℕ
head_of inst d = tail inst (rev d)

-- whether d is a dart that leaves spin i
abbrev pub is_dart_of : Ising → ℕ → ℕ → Bool
is_dart_of inst i d = nat_lt d (dart_count inst) && (tail inst d == i)

-- the list of spin i
abbrev pub darts_of : Ising → ℕ → List ℕ
darts_of inst i = slice_index_or inst.rotation i []

-- a list for each spin, which holds each dart that leaves it once and nothing else
pub record IsRotation (inst : Ising) : Type 0 where
  pub lists : length inst.rotation ≡ inst.n
  pub each_once : (i d : ℕ) → i < inst.n →
      count_by (λ x. x == d) (darts_of inst i) ≡ cond (is_dart_of inst i d) 1 0

-- the entry after d; after the last comes the first
unfoldable pub following : List ℕ → ℕ → ℕ
following xs d = slice_index xs ((position_or_len (λ x. x == d) xs + 1) % length xs)

-- the dart after d in the list of the spin that it leaves
unfoldable pub next : Ising → ℕ → ℕ
next inst d = following (darts_of inst (tail inst d)) d
