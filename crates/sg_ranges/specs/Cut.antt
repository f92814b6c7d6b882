-- Cuts: the bonds between the spins that are up and those that are down, each of which counts its coupling.
use Rattle.std.specs.Prelude.{◌≡◌, ℤ, pos, ◌+ℤ◌, ◌≤ℤ◌, Bool, not, if◌then◌else◌, List, fold}
use Rattle.std.specs.Ordering.{int_eq}
use Rattle.sg_model.specs.declared.bond.Bond.{Bond}
use Rattle.sg_model.specs.Ising.{Ising}
use Rattle.sg_model.specs.Spins.{IsAssignment, spin}

-- the two spins of the bond have different values
abbrev pub is_cut : List ℤ → Bond → Bool
is_cut s b = not (int_eq (spin s b.u) (spin s b.v))

-- the sum of the couplings of the bonds that are cut
abbrev pub cut_weight : Ising → List ℤ → ℤ
cut_weight inst s = fold (λ total b. total +ℤ (if is_cut s b then b.j else pos 0)) (pos 0) inst.bonds

-- the sum of all couplings
abbrev pub coupling_sum : Ising → ℤ
coupling_sum inst = fold (λ total b. total +ℤ b.j) (pos 0) inst.bonds

-- an assignment of this cut weight, and none has more
pub record IsLargestCut (inst : Ising) (s : List ℤ) (x : ℤ) : Type 0 where
  pub assignment : IsAssignment inst s
  pub weight : cut_weight inst s ≡ x
  pub largest : (t : List ℤ) → IsAssignment inst t → cut_weight inst t ≤ℤ x
