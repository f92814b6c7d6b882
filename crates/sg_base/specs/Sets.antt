-- Sets of numbers as rising lists.
use Rattle.std.specs.Prelude.{◌≡◌, ℕ, ◌==◌, ◌<◌, Bool, true, false, List, [], ◌∷◌, filter, slice_index_or, ◌≤◌, length, count_by, slice_index}
use Rattle.std.specs.List.{range_with_len, list_any}

-- whether the list holds the number
abbrev pub holds : List ℕ → ℕ → Bool
holds xs x = list_any (λ y. y == x) xs

-- the numbers below n that pass, rising
abbrev pub chosen_below : (ℕ → Bool) → ℕ → List ℕ
chosen_below p n = filter p (range_with_len 0 n)

-- whether place i is marked
abbrev pub is_marked : List Bool → ℕ → Bool
is_marked marks i = slice_index_or marks i false

-- place i is marked
abbrev pub IsMarked : List Bool → ℕ → Type 0
IsMarked marks i = is_marked marks i ≡ true

-- the entries rise, each above the last, all of them above a
abbrev pub RisesOver : ℕ → List ℕ → Type 0
RisesOver a [] = Unit {0}
RisesOver a (x ∷ xs) = (a < x) × RisesOver x xs

-- the number is in the list: `holds`, with its place
abbrev pub Stands : List ℕ → ℕ → Type 0
Stands xs x = (k : ℕ) × (k < length xs) × (slice_index xs k ≡ x)

-- no number is in the list twice: entries at two places differ
abbrev pub Differ : List ℕ → Type 0
Differ xs = (i j : ℕ) → i < length xs → j < length xs → slice_index xs i ≡ slice_index xs j → i ≡ j

-- no number is in the list twice: each is counted at most once
abbrev pub DifferByCount : List ℕ → Type 0
DifferByCount xs = (x : ℕ) → count_by (λ y. y == x) xs ≤ 1
