-- The couplings and bonds that an input may have.
use Rattle.std.specs.Prelude.{ℕ, ℤ, pos, ◌^◌, ◌<◌, ◌==◌, ◌&&◌, Bool, nat_lt, unsigned_abs, Option, option_map, find, List, length, slice_index_or}
use Rattle.std.specs.List.{range_with_len}
use Rattle.sg_model.specs.declared.bond.Bond.{Bond}
use Rattle.sg_model.specs.declared.refusal.Refusal.{Refusal}
use Rattle.sg_model.specs.declared.refusal.Refusal.TheVariants.{SelfBond}

-- a coupling is a number of 64 bits, and not the least of them
abbrev pub IsCoupling : ℤ → Type 0
IsCoupling j = unsigned_abs j < 2 ^ 63

-- whether a number may be a coupling: its size is below 2^63
abbrev pub is_coupling : ℤ → Bool
is_coupling j = nat_lt (unsigned_abs j) (2 ^ 63)

-- both ends are among n spins, and the coupling is one
pub record IsAmong (n : ℕ) (b : Bond) : Type 0 where
  pub first_end : b.u < n
  pub second_end : b.v < n
  pub size : IsCoupling b.j

-- whether a bond connects two of n spins by an allowed coupling
abbrev pub is_among : ℕ → Bond → Bool
is_among n b = nat_lt b.u n && (nat_lt b.v n && is_coupling b.j)

-- bond k, and one without ends past the last
abbrev pub listed_bond : List Bond → ℕ → Bond
listed_bond bonds k = slice_index_or bonds k (record { u = 0; v = 0; j = pos 0 })

-- the first bond between a spin and itself
abbrev pub is_self_bond : Bond → Bool
is_self_bond b = b.u == b.v

-- the first bond whose two ends are one spin
abbrev pub first_self : List Bond → Option ℕ
first_self bonds = find (λ k. is_self_bond (listed_bond bonds k)) (range_with_len 0 (length bonds))

-- no bond connects a spin to itself
abbrev pub self_fault : List Bond → Option Refusal
self_fault bonds = option_map (λ k. SelfBond k) (first_self bonds)
