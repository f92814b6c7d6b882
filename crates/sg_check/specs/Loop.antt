-- Frustrated loops (Toulouse 1977): bonds that no assignment satisfies all at once.
use Rattle.std.specs.Prelude.{◌≡◌, ℕ, ◌%◌, ◌<◌, ◌==◌, ◌||◌, Bool, List, length, All, count_by}
use Rattle.std.specs.List.Sorted.{IsStrictlyIncreasing}
use Rattle.sg_model.specs.declared.bond.Bond.{Bond}
use Rattle.sg_model.specs.Broken.{is_negative}
use Rattle.sg_model.specs.Ising.{Ising, bond_at, bond_count}

-- spin i is an end of the bond
abbrev pub is_end_of : Bond → ℕ → Bool
is_end_of b i = (b.u == i) || (b.v == i)

-- how many bonds of the list meet spin i
abbrev pub degree : Ising → List ℕ → ℕ → ℕ
degree inst bonds i = count_by (λ k. is_end_of (bond_at inst k) i) bonds

-- how many bonds of the list are negative
abbrev pub negative_count : Ising → List ℕ → ℕ
negative_count inst bonds = count_by (λ k. is_negative (bond_at inst k)) bonds

-- a set of bonds, at least one, as a rising list
pub record IsBondSet (inst : Ising) (bonds : List ℕ) : Type 0 where
  pub not_empty : 0 < length bonds
  pub rising : IsStrictlyIncreasing bonds
  pub below : All (λ k. k < bond_count inst) bonds

-- an even number of the bonds meet spin i
abbrev pub IsEvenAt : Ising → List ℕ → ℕ → Type 0
IsEvenAt inst bonds i = degree inst bonds i % 2 ≡ 0

-- an even number of the bonds meet each spin
abbrev pub IsEven : Ising → List ℕ → Type 0
IsEven inst bonds = (i : ℕ) → i < inst.n → IsEvenAt inst bonds i

-- an odd number of the bonds are negative
abbrev pub IsOddlyNegative : Ising → List ℕ → Type 0
IsOddlyNegative inst bonds = negative_count inst bonds % 2 ≡ 1

-- a set of bonds that meets each spin evenly and has an odd number of negative ones
pub record IsFrustratedLoop (inst : Ising) (bonds : List ℕ) : Type 0 where
  pub set : IsBondSet inst bonds
  pub even : IsEven inst bonds
  pub odd : IsOddlyNegative inst bonds
