-- An instance of the Ising model without a field, as contracts see it.
use Rattle.std.specs.Prelude.{◌≢◌, ℕ, ◌^◌, ◌<◌, pos, List, length, slice_index_or, unsigned_abs}
use Rattle.sg_model.specs.declared.bond.Bond.{Bond}

-- `n` spins, numbered from 0; the bonds, numbered in their order; for each spin the cyclic list of its darts;
-- the seam, a list of bonds
pub record Ising : Type 0 where
  pub n : ℕ
  pub bonds : List Bond
  pub rotation : List (List ℕ)
  pub seam : List ℕ

-- the number of bonds
abbrev pub bond_count : Ising → ℕ
bond_count inst = length inst.bonds

-- bond k, and a bond without a coupling past the last
abbrev pub bond_at : Ising → ℕ → Bond
bond_at inst k = slice_index_or inst.bonds k (record { u = 0; v = 0; j = pos 0 })

-- a bond of n spins: it connects two different ones, with a coupling whose size fits
pub record IsBond (n : ℕ) (b : Bond) : Type 0 where
  pub first_end : b.u < n
  pub second_end : b.v < n
  pub ends_differ : b.u ≢ b.v
  pub size : unsigned_abs b.j < 2 ^ 63
