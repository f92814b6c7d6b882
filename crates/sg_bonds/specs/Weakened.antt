-- Weakened couplings: at each bond some amount is taken from the coupling, in the direction that spins satisfy.
use Rattle.std.specs.Prelude.{◌⊎◌, ℕ, ◌+◌, ◌*◌, ◌≤◌, ℤ, pos, neg_ℤ, ◌-ℤ◌, ◌*ℤ◌, ◌<ℤ◌, Bool, cond, List, map, slice_index_or}
use Rattle.std.specs.Ordering.{int_eq}
use Rattle.std.specs.List.{range_with_len}
use Rattle.sg_base.specs.Limits.{forced_limit}
use Rattle.sg_base.specs.Sums.{sum_below}
use Rattle.sg_model.specs.declared.bond.Bond.{Bond}
use Rattle.sg_model.specs.Ising.{Ising, bond_at, bond_count}
use Rattle.sg_model.specs.Energy.{IsGroundState, energy, product, weight}
use Rattle.sg_model.specs.Changes.{with_couplings}
use Rattle.sg_ground.specs.Allowance.{TablesExceed}
use Rattle.sg_bonds.specs.declared.weaken.Weakened.{Weakened}
use Rattle.sg_bonds.specs.declared.weaken.Weakened.TheVariants.{Least, Other}

-- the coupling times the scale, less the amount times the product of the two spins: weaker if they satisfy the
-- bond, and stronger if they break it
abbrev pub weakened_coupling : ℕ → List ℤ → Bond → ℕ → ℤ
weakened_coupling scale s b amount = (pos scale *ℤ b.j) -ℤ (pos amount *ℤ product s b)

-- the weakened couplings of the first bonds
abbrev pub weakened_couplings : Ising → ℕ → List ℤ → (ℕ → ℕ) → ℕ → List ℤ
weakened_couplings inst scale s amount count =
    map (λ k. weakened_coupling scale s (bond_at inst k) (amount k)) (range_with_len 0 count)

-- the instance whose couplings are all times the scale, and weakened by these amounts at the bonds
abbrev pub weakened : Ising → ℕ → List ℤ → (ℕ → ℕ) → Ising
weakened inst scale s amount =
    with_couplings inst
    (map (λ k. weakened_coupling scale s (bond_at inst k) (amount k)) (range_with_len 0 (bond_count inst)))

-- whether t flips the bond: it has the other product there than s
abbrev pub turns : List ℤ → List ℤ → Bond → Bool
turns s t b = int_eq (product t b) (neg_ℤ (product s b))

-- the sum of the amounts at the bonds that t flips
abbrev pub turned_amount : Ising → List ℤ → List ℤ → (ℕ → ℕ) → ℕ
turned_amount inst s t amount = sum_below (λ k. cond (turns s t (bond_at inst k)) (amount k) 0) (bond_count inst)

-- the amount at bond k, from a list
abbrev pub amount_at : List ℕ → ℕ → ℕ
amount_at amounts k = slice_index_or amounts k 0

-- the sizes of the weakened couplings add up to no more than a solver takes
abbrev pub FitsWeakened : Ising → ℕ → (ℕ → ℕ) → Type 0
FitsWeakened inst scale amount = scale * weight inst + sum_below amount (bond_count inst) ≤ forced_limit

-- what is said of the weakened instance is true: s is a ground state there, or another state has less energy
abbrev pub IsWeakened : Ising → ℕ → List ℤ → (ℕ → ℕ) → Weakened → Type 0
IsWeakened inst scale s amount Least = IsGroundState (weakened inst scale s amount) s
IsWeakened inst scale s amount (Other t) = IsGroundState (weakened inst scale s amount) t
    × (energy (weakened inst scale s amount) t <ℤ energy (weakened inst scale s amount) s)

-- of the instance, or of it with weakened couplings, the tables of the matching fallback take more bytes than that
abbrev pub WeakenedTablesExceed : ℕ → Ising → Type 0
WeakenedTablesExceed most inst = TablesExceed most inst
    ⊎ ((scale : ℕ) × (s : List ℤ) × (amount : ℕ → ℕ) × TablesExceed most (weakened inst scale s amount))
