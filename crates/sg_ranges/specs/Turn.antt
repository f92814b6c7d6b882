-- Turning couplings: how far a coupling may move before the ground states change.
use Rattle.std.specs.Prelude.{◌≡◌, ℕ, ◌*◌, ◌<◌, ◌≤◌, ℤ, pos, negsuc, ◌<ℤ◌, List, length, slice_index_or}
use Rattle.sg_model.specs.Ising.{Ising, bond_at, bond_count}
use Rattle.sg_model.specs.Spins.{IsUpOrDown}
use Rattle.sg_model.specs.Energy.{IsGroundState, product}
use Rattle.sg_model.specs.Changes.{with_coupling}
use Rattle.sg_bonds.specs.Cost.{IsLeastWith}

-- with the coupling t at bond k, and nothing else changed, the least energies with equal and with opposite spins there
-- are the same
pub record IsTurn (inst : Ising) (k : ℕ) (t : ℤ) : Type 0 where
  pub level : ℤ
  pub like : IsLeastWith (with_coupling inst k t) k (pos 1) level
  pub unlike : IsLeastWith (with_coupling inst k t) k (negsuc 0) level

-- a turning coupling for each bond
pub record AreTurns (inst : Ising) (turns : List ℤ) : Type 0 where
  pub count : length turns ≡ bond_count inst
  pub each : (k : ℕ) → k < bond_count inst → IsTurn inst k (slice_index_or turns k (pos 0))

-- the coupling t parts the ground states by their product at bond k: with any coupling above it each of them has equal
-- spins there, with any below it opposite ones, and with t itself there is one of each
pub record IsTurningPoint (inst : Ising) (k : ℕ) (t : ℤ) : Type 0 where
  pub above : (z : ℤ) → t <ℤ z → (s : List ℤ) → IsGroundState (with_coupling inst k z) s
      → product s (bond_at inst k) ≡ pos 1
  pub below : (z : ℤ) → z <ℤ t → (s : List ℤ) → IsGroundState (with_coupling inst k z) s
      → product s (bond_at inst k) ≡ negsuc 0
  pub both : (p : ℤ) → IsUpOrDown p
      → (s : List ℤ) × IsGroundState (with_coupling inst k t) s × (product s (bond_at inst k) ≡ p)

-- so at each bond
abbrev pub AreTurningPoints : Ising → List ℤ → Type 0
AreTurningPoints inst turns = (k : ℕ) → k < bond_count inst → IsTurningPoint inst k (slice_index_or turns k (pos 0))

-- an even number: twice a natural number that is at most so large
abbrev pub IsDouble : ℕ → ℤ → Type 0
IsDouble most c = (half : ℕ) × (half ≤ most) × (c ≡ pos (2 * half))
