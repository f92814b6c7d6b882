-- Spins that are divided into parts, and how far an assignment lies above them that flips one part.
use Rattle.std.specs.Prelude.{◌≡◌, ℕ, ◌==◌, ◌<◌, ℤ, pos, neg_ℤ, ◌+ℤ◌, if◌then◌else◌, All, List, length, map, slice_index, slice_index_or}
use Rattle.std.specs.List.{range_with_len}
use Rattle.sg_model.specs.Ising.{Ising}
use Rattle.sg_model.specs.Spins.{spin}
use Rattle.sg_model.specs.Energy.{energy}
use Rattle.sg_bonds.specs.declared.flipping.Parts.{Parts}

-- the spins, with those of one part flipped
abbrev pub with_part_flipped : List ℤ → List ℕ → ℕ → List ℤ
with_part_flipped s parts part =
    map (λ i. if slice_index parts i == part then neg_ℤ (spin s i) else spin s i) (range_with_len 0 (length s))

-- for each part what is gained by flipping it
abbrev pub AreGains : Ising → List ℤ → List ℕ → List ℤ → Type 0
AreGains inst s parts gains = (part : ℕ) → part < inst.n →
    energy inst (with_part_flipped s parts part) ≡ energy inst s +ℤ slice_index_or gains part (pos 0)

-- for each spin the name of a part, below the number of spins
pub record ArePartNames (inst : Ising) (names : List ℕ) : Type 0 where
  pub count : length names ≡ inst.n
  pub within : All (λ part. part < inst.n) names

-- a name for each spin, and a gain for each name
pub record AreNamedParts (inst : Ising) (parts : Parts) : Type 0 where
  pub names : ArePartNames inst parts.names.items
  pub gains : length parts.gains.items ≡ inst.n
