-- Instances that differ from another one in couplings alone.
use Rattle.std.specs.Prelude.{◌≡◌, ℕ, ℤ, pos, ◌^◌, ◌<◌, neg_ℤ, if◌then◌else◌, List, length, map, slice_index_or, slice_set, unsigned_abs, All}
use Rattle.std.specs.List.{range_with_len}
use Rattle.sg_model.specs.declared.bond.Bond.{Bond}
use Rattle.sg_model.specs.Ising.{Ising, bond_at, bond_count}
use Rattle.sg_base.specs.Sets.{holds}

-- the bond with the sign of its coupling changed
abbrev pub opposite : Bond → Bond
opposite b = record { u = b.u; v = b.v; j = neg_ℤ b.j }

-- bond k with another coupling
abbrev pub recoupled : Bond → ℤ → Bond
recoupled b z = record { u = b.u; v = b.v; j = z }

-- other bonds, and nothing else
abbrev pub with_bonds : Ising → List Bond → Ising
with_bonds inst bonds = record { n = inst.n; bonds = bonds; rotation = inst.rotation; seam = inst.seam }

-- another seam, and nothing else
abbrev pub with_seam : Ising → List ℕ → Ising
with_seam inst seam = record { n = inst.n; bonds = inst.bonds; rotation = inst.rotation; seam = seam }

-- bond k, with its sign changed if it is on the seam
abbrev pub flipped_at : Ising → ℕ → Bond
flipped_at inst k = if holds inst.seam k then opposite (bond_at inst k) else bond_at inst k

-- the signs of the seam's couplings changed, and nothing else
abbrev pub with_seam_flipped : Ising → Ising
with_seam_flipped inst = with_bonds inst (map (flipped_at inst) (range_with_len 0 (bond_count inst)))

-- the sign of every coupling changed, and nothing else
abbrev pub negated : Ising → Ising
negated inst = with_bonds inst (map opposite inst.bonds)

-- the coupling of bond k changed, and nothing else
abbrev pub with_coupling : Ising → ℕ → ℤ → Ising
with_coupling inst k z = with_bonds inst (slice_set inst.bonds k (recoupled (bond_at inst k) z))

-- bond k of the list, with the coupling at its place
abbrev pub coupled_at : List Bond → List ℤ → ℕ → Bond
coupled_at bonds couplings k =
    recoupled (slice_index_or bonds k (record { u = 0; v = 0; j = pos 0 })) (slice_index_or couplings k (pos 0))

-- each bond of the list with its coupling
abbrev pub coupled_bonds : List Bond → List ℤ → List Bond
coupled_bonds bonds couplings = map (coupled_at bonds couplings) (range_with_len 0 (length bonds))

-- these couplings, in the order of the bonds, and nothing else changed
abbrev pub with_couplings : Ising → List ℤ → Ising
with_couplings inst couplings = with_bonds inst (coupled_bonds inst.bonds couplings)

-- the bonds differ from those of the instance in their couplings alone, whose sizes fit
pub record HasSameEnds (inst : Ising) (bonds : List Bond) : Type 0 where
  pub count : length bonds ≡ bond_count inst
  pub first : (k : ℕ) → (bond_at (with_bonds inst bonds) k).u ≡ (bond_at inst k).u
  pub second : (k : ℕ) → (bond_at (with_bonds inst bonds) k).v ≡ (bond_at inst k).v
  pub sizes : All (λ (b : Bond). unsigned_abs b.j < 2 ^ 63) bonds

-- another instance with the same drawing: it differs from this one in its couplings alone
pub record HasSameDrawing (inst other : Ising) : Type 0 where
  pub ends : HasSameEnds inst other.bonds
  pub kept : other ≡ with_bonds inst other.bonds
