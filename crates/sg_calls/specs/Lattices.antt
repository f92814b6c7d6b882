-- Lattices by numbers: which numbers give one, what is wrong with others, and the tables by which one is a graph.
use Rattle.std.specs.Prelude.{◌≡◌, ℕ, ℤ, ◌≤◌, min, ◌==◌, not, if◌then◌else◌, Option, Some, None, List, [], ◌∷◌, length, position}
use Rattle.sg_base.specs.Limits.{large_bond_limit, large_spin_limit}
use Rattle.sg_model.specs.Ising.{Ising, bond_count}
use Rattle.sg_model.specs.Faults.{OrNoMemory}
use Rattle.sg_model.specs.declared.refusal.Fault.{Fault}
use Rattle.sg_model.specs.declared.refusal.Refusal.{Refusal}
use Rattle.sg_lattice.specs.declared.kind.Kind.{Kind}
use Rattle.sg_lattice.specs.declared.kind.Kind.TheVariants.{Square, Triangular, Hexagonal, Cylinder}
use Rattle.sg_lattice.specs.Tables.{bond_total, lattice}
use Rattle.sg_draft.specs.declared.limits.Limits.{Limits}
use Rattle.sg_draft.specs.declared.member.Member.TheVariants as member
use Rattle.sg_draft.specs.Bonds.{is_coupling}
use Rattle.sg_draft.specs.Members.{bad_member}
use Rattle.sg_draft.specs.Numbers.{coupling_count_fault, lattice_size_fault}
use Rattle.sg_draft.specs.Reads.{member_fault}
use Rattle.sg_draft.specs.Tests.{first_of, Refuses}
use Rattle.sg_calls.specs.declared.tables.TableNumbers.{TableNumbers}
use Rattle.sg_calls.specs.Crossing.{Shows}
use Rattle.sg_calls.specs.Graphs.{IsGraph, numbers}

-- the kinds by their numbers
abbrev pub kind_numbered : ℕ → Option Kind
kind_numbered number =
    if number == 0 then Some Square else
    (if number == 1 then Some Triangular else
    (if number == 2 then Some Hexagonal else
    (if number == 3 then Some Cylinder else None)))

-- the first coupling that is the least number of 64 bits
abbrev pub first_out : List ℤ → Option ℕ
first_out couplings = position (λ number. not (is_coupling number)) couplings

-- the tests: the kind, the size of a lattice of that kind, the number of its couplings, and each of them
abbrev pub lattice_numbers_fault : Limits → Option Kind → ℕ → ℕ → List ℤ → Option Refusal
lattice_numbers_fault most None R C couplings = Some (bad_member member.Kind)
lattice_numbers_fault most (Some kind) R C couplings = first_of (
    lattice_size_fault most kind (Some R) (Some C)
    ∷ coupling_count_fault (length couplings) (bond_total kind R C)
    ∷ member_fault member.Couplings (first_out couplings)
    ∷ [])

-- the limits of a call that takes so many spins, at most those of large instances
abbrev pub limits_of : ℕ → Limits
limits_of spins = record { spins = min spins large_spin_limit; bonds = large_bond_limit }

-- the lattice of these numbers, within the limits
pub record IsLattice (most : Limits) (number R C : ℕ) (couplings : List ℤ) (inst : Ising) : Type 0 where
  pub kind : Kind
  pub named : kind_numbered number ≡ Some kind
  pub passes : lattice_numbers_fault most (kind_numbered number) R C couplings ≡ None
  pub is : inst ≡ lattice kind R C couplings

-- the first thing that is wrong with these numbers
abbrev pub IsLatticeFault : Limits → ℕ → ℕ → ℕ → List ℤ → Fault → Type 0
IsLatticeFault most number R C couplings fault =
    OrNoMemory (Refuses (lattice_numbers_fault most (kind_numbered number) R C couplings)) fault

-- four lists: two ends for each bond, the darts of each spin from its start on, and the bonds of the seam
pub record TableLists : Type 0 where
  pub ends : List ℕ
  pub starts : List ℕ
  pub darts : List ℕ
  pub seam : List ℕ

-- the tables of a lattice by their four lists
abbrev pub table_lists : List ℕ → List ℕ → List ℕ → List ℕ → TableLists
table_lists ends starts darts seam = record { ends = ends; starts = starts; darts = darts; seam = seam }

-- the lists are the tables of the instance: with its couplings they give it as a graph within all limits that it keeps,
-- and so no other one
abbrev pub AreTables : TableLists → List ℤ → Ising → Type 0
AreTables lists couplings inst = (most : Limits) → inst.n ≤ most.spins → bond_count inst ≤ most.bonds
    → IsGraph most (numbers inst.n lists.ends couplings lists.starts lists.darts lists.seam) inst

-- the tables have crossed into places of a caller, with the number of entries of each
pub record HandsTables (couplings : List ℤ) (before after : TableLists) (counts : TableNumbers) (inst : Ising)
    : Type 0 where
  pub lists : TableLists
  pub tables : AreTables lists couplings inst
  pub shows_ends : Shows lists.ends before.ends after.ends
  pub shows_starts : Shows lists.starts before.starts after.starts
  pub shows_darts : Shows lists.darts before.darts after.darts
  pub shows_seam : Shows lists.seam before.seam after.seam
  pub counts_ends : counts.ends ≡ length lists.ends
  pub counts_starts : counts.starts ≡ length lists.starts
  pub counts_darts : counts.darts ≡ length lists.darts
  pub counts_seam : counts.seam ≡ length lists.seam
