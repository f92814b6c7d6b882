-- What an input says of an instance before it is judged: its first fault, or the instance that it says.
use Rattle.std.specs.Prelude.{◌≡◌, ◌⊎◌, ℕ, ℤ, List, [], ◌∷◌, Option, Some, None, unwrap_or}
use Rattle.sg_model.specs.declared.bond.Bond.{Bond}
use Rattle.sg_model.specs.declared.refusal.Refusal.{Refusal}
use Rattle.sg_model.specs.Changes.{with_seam}
use Rattle.sg_model.specs.Faults.{IsRefusalOf}
use Rattle.sg_model.specs.Ising.{Ising}
use Rattle.sg_model.specs.WellFormed.{IsInstance}
use Rattle.sg_lattice.specs.declared.kind.Kind.{Kind}
use Rattle.sg_lattice.specs.Tables.{bond_total, lattice}
use Rattle.sg_draft.specs.declared.limits.Limits.{Limits}
use Rattle.sg_draft.specs.declared.member.Member.TheVariants as member
use Rattle.sg_draft.specs.declared.read.Read.{Read}
use Rattle.sg_draft.specs.Tests.{first_of}
use Rattle.sg_draft.specs.Reads.{read_length, member_fault, value_or, wrong_entry}
use Rattle.sg_draft.specs.Bonds.{self_fault}
use Rattle.sg_draft.specs.Numbers.{bond_count_fault, coupling_count_fault, lattice_size_fault, spin_count_fault}

-- a lattice: its numbers of rows and columns if they are given, its couplings in the order of its bonds, and
-- another seam if one is given
pub record LatticeDraft : Type 0 where
  pub kind : Kind
  pub rows : Option ℕ
  pub cols : Option ℕ
  pub couplings : Read (List ℤ)
  pub seam : Read (Option (List ℕ))

-- a general instance: its number of spins if it is given, its bonds among these spins, the darts of each spin, and
-- its seam if one is given
pub record GeneralDraft : Type 0 where
  pub spins : Option ℕ
  pub bonds : Read (List Bond)
  pub rotation : Read (List (List ℕ))
  pub seam : Read (Option (List ℕ))

-- what an input says of its instance before it is tested: a lattice, or a general one
pub data Draft : Type 0 where
  OfLattice : LatticeDraft → Draft
  OfGeneral : GeneralDraft → Draft

-- the tests of a lattice: its size, its lists, and how many couplings it has
abbrev pub lattice_draft_fault : Limits → Kind → Option ℕ → Option ℕ → Read ℕ → Option ℕ
    → Option Refusal
lattice_draft_fault most kind rows cols couplings wrong_seam = first_of (
    lattice_size_fault most kind rows cols
    ∷ member_fault member.Couplings (wrong_entry couplings)
    ∷ member_fault member.Seam wrong_seam
    ∷ coupling_count_fault (value_or 0 couplings) (bond_total kind (unwrap_or rows 0) (unwrap_or cols 0))
    ∷ [])

-- the tests of a general instance before those of each bond: its number of spins, its lists, and how many bonds it has
abbrev pub general_draft_fault : Limits → Option ℕ → Read ℕ → Option ℕ → Option ℕ → Option Refusal
general_draft_fault most spins bonds wrong_rotation wrong_seam = first_of (
    spin_count_fault most spins
    ∷ member_fault member.Bonds (wrong_entry bonds)
    ∷ member_fault member.Rotation wrong_rotation
    ∷ member_fault member.Seam wrong_seam
    ∷ bond_count_fault most (value_or 0 bonds)
    ∷ [])

-- the first fault of a draft within the limits
abbrev pub draft_fault : Limits → Draft → Option Refusal
draft_fault most (OfLattice d) =
    lattice_draft_fault most d.kind d.rows d.cols (read_length d.couplings) (wrong_entry d.seam)
draft_fault most (OfGeneral d) = first_of (
    general_draft_fault most d.spins (read_length d.bonds) (wrong_entry d.rotation) (wrong_entry d.seam)
    ∷ self_fault (value_or [] d.bonds)
    ∷ [])

-- the instance with another seam, if there is one
abbrev pub reseamed : Option (List ℕ) → Ising → Ising
reseamed None inst = inst
reseamed (Some seam) inst = with_seam inst seam

-- the instance that a draft says
abbrev pub drafted : Draft → Ising
drafted (OfLattice d) = reseamed (value_or None d.seam)
    (lattice d.kind (unwrap_or d.rows 0) (unwrap_or d.cols 0) (value_or [] d.couplings))
drafted (OfGeneral d) = record {
  n = unwrap_or d.spins 0;
  bonds = value_or [] d.bonds;
  rotation = value_or [] d.rotation;
  seam = unwrap_or (value_or None d.seam) [];
}

-- the instance that a draft gives: the draft passes its tests, and what it says is an instance
pub record IsDrafted (most : Limits) (draft : Draft) (inst : Ising) : Type 0 where
  pub passes : draft_fault most draft ≡ None
  pub value : inst ≡ drafted draft
  pub instance : IsInstance inst

-- the refusal of a failed check, or, if it passes, that of the instance, whose rotation or seam is wrong
abbrev pub IsFirstFault : Option Refusal → Ising → Refusal → Type 0
IsFirstFault test inst refusal = (test ≡ Some refusal) ⊎ ((test ≡ None) × IsRefusalOf inst refusal)

-- the refusal of a draft
abbrev pub IsDraftRefusal : Limits → Draft → Refusal → Type 0
IsDraftRefusal most draft refusal = IsFirstFault (draft_fault most draft) (drafted draft) refusal
