-- The first fault of a rotation.
use Rattle.std.specs.Prelude.{◌≡◌, ◌⊎◌, ℕ, ◌<◌, ◌==◌, ◌&&◌, Bool, true, false, cond, not, count_by}
use Rattle.sg_model.specs.Ising.{Ising}
use Rattle.sg_model.specs.Rotation.{darts_of, is_dart_of}
use Rattle.sg_base.specs.Sets.{holds}
use Rattle.sg_model.specs.Misplaced.{IsInPlace, IsFirstMisplaced}

-- whether the list of spin i lacks its dart d
abbrev pub is_missing : Ising → ℕ → ℕ → Bool
is_missing inst i d = is_dart_of inst i d && not (holds (darts_of inst i) d)

-- no entry of the list of spin i is misplaced, and d is the least dart that it lacks
pub record IsLeastMissing (inst : Ising) (i d : ℕ) : Type 0 where
  pub in_place : IsInPlace (is_dart_of inst i) (darts_of inst i)
  pub missing : is_missing inst i d ≡ true
  pub least : (e : ℕ) → e < d → is_missing inst i e ≡ false

-- the least spin whose list is not its darts, each once; and the dart that shows it: the first that is misplaced,
-- else the least that is missing
pub record IsBadRotation (inst : Ising) (spin dart : ℕ) : Type 0 where
  pub below : spin < inst.n
  pub earlier : (i d : ℕ) → i < spin →
      count_by (λ x. x == d) (darts_of inst i) ≡ cond (is_dart_of inst i d) 1 0
  pub shown : IsFirstMisplaced (is_dart_of inst spin) (darts_of inst spin) dart ⊎ IsLeastMissing inst spin dart
