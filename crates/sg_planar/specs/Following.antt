-- Spins that follow the bonds: which bonds are to join opposite spins, and how a walk gives the spins their values.
use Rattle.std.specs.Prelude.{◌≡◌, ℕ, ◌<◌, ℤ, pos, negsuc, Bool, false, cond, List, length, slice_index, All}
use Rattle.sg_base.specs.Parity.{xor}
use Rattle.sg_base.specs.Sets.{holds, is_marked, Stands}
use Rattle.sg_model.specs.Ising.{Ising, bond_at, bond_count}
use Rattle.sg_model.specs.Rotation.{darts_of, head_of}
use Rattle.sg_model.specs.Broken.{is_negative}
use Rattle.sg_model.specs.Connected.{all_bonds}
use Rattle.sg_planar.specs.Walk.{IsFoundFrom}

-- a bond joins opposite spins if it is negative or broken, and not both
abbrev pub is_unlike : Ising → List ℕ → ℕ → Bool
is_unlike inst broken k = xor (is_negative (bond_at inst k)) (holds broken k)

-- spin 0 is up, and the two ends differ on exactly the bonds that pass; `down` tells which spins are down
pub record FollowsBonds (inst : Ising) (unlike down : ℕ → Bool) : Type 0 where
  pub first_up : down 0 ≡ false
  pub across : (k : ℕ) → k < bond_count inst →
      unlike k ≡ xor (down (bond_at inst k).u) (down (bond_at inst k).v)

-- the value of a spin
abbrev pub value_of : Bool → ℤ
value_of down = cond down (negsuc 0) (pos 1)

-- all spins in the order of a walk: spin 0 first, and each other one after a neighbour
pub record IsWalkOrder (inst : Ising) (order : List ℕ) : Type 0 where
  pub root_first : (0 < length order) × (slice_index order 0 ≡ 0)
  pub below : (k : ℕ) → k < length order → slice_index order k < inst.n
  pub found_from : (k : ℕ) → 0 < k → k < length order → IsFoundFrom inst all_bonds order k
  pub complete : (x : ℕ) → x < inst.n → Stands order x

-- the mark of spin x is what t says
abbrev pub IsRight : (ℕ → Bool) → List Bool → ℕ → Type 0
IsRight t down x = is_marked down x ≡ t x

-- the heads of the darts are right
abbrev pub HeadsRight : Ising → (ℕ → Bool) → List Bool → List ℕ → Type 0
HeadsRight inst t down darts = All (λ d. IsRight t down (head_of inst d)) darts

-- after the heads of some darts are set: what was right stays so, and the heads are right
pub record SetsHeads (inst : Ising) (t : ℕ → Bool) (darts : List ℕ) (old now : List Bool) : Type 0 where
  pub kept : (x : ℕ) → IsRight t old x → IsRight t now x
  pub heads : HeadsRight inst t now darts

-- the heads of some darts of a spin are set as the bonds require, whatever assignment follows them
pub record HeadsSet (inst : Ising) (unlike : ℕ → Bool) (spin : ℕ) (darts : List ℕ)
    (old now : List Bool) : Type 0 where
  pub lengths : length now ≡ length old
  pub sets : (t : ℕ → Bool) → FollowsBonds inst unlike t → IsRight t old spin → SetsHeads inst t darts old now

-- the same for the darts of the first `next` spins of the order
pub record SetTo (inst : Ising) (unlike : ℕ → Bool) (order : List ℕ) (next : ℕ)
    (down : List Bool) : Type 0 where
  pub lengths : length down ≡ inst.n
  pub first : (t : ℕ → Bool) → FollowsBonds inst unlike t → IsRight t down 0
  pub heads : (t : ℕ → Bool) → FollowsBonds inst unlike t → (k : ℕ) → k < next →
      HeadsRight inst t down (darts_of inst (slice_index order k))

-- the marks are those of each assignment that follows the bonds
pub record TellsDown (inst : Ising) (unlike : ℕ → Bool) (down : List Bool) : Type 0 where
  pub lengths : length down ≡ inst.n
  pub right : (t : ℕ → Bool) → FollowsBonds inst unlike t → (x : ℕ) → x < inst.n → IsRight t down x
