-- Why a study has no answer: a solver's error, and which graphs may have tables that exceed what is allowed.
use Rattle.std.proofs.Common.{inl, inr, ◌≡◌, ◌⊎◌, ℕ, ◌<◌, ◌≤◌, None, Some, Option, [], length, refl, ap, ◌∙◌, arith, length-set}
use Rattle.std.proofs.lemmas.Bool.{cases_lt}
use Rattle.std.proofs.lemmas.List.FromFn.{length-map-range_with_len}
use Rattle.sg_base.specs.Limits.{bond_limit, spin_limit, table_limit}
use Rattle.sg_model.specs.Changes.{flipped_at, recoupled, with_coupling, with_seam_flipped}
use Rattle.sg_model.specs.Ising.{Ising, bond_at, bond_count}
use Rattle.sg_model.proofs.Recoupled.{all_long}
use Rattle.sg_model.specs.declared.refusal.Fault.{Fault}
use Rattle.sg_model.specs.declared.refusal.Fault.TheVariants.{NoMemory}
use Rattle.sg_draft.specs.Limits.{large_limits}
use Rattle.sg_draft.specs.Reads.{unless, value_or}
use Rattle.sg_tjoin.specs.Allowance.{IfTooLarge}
use Rattle.sg_tjoin.specs.declared.allowance.Unproved.{Unproved}
use Rattle.sg_tjoin.specs.declared.allowance.Unproved.TheVariants as unproved
use Rattle.sg_ground.specs.Allowance.{TablesExceed}
use Rattle.sg_ground.proofs.Allowed.{program_fits}
use Rattle.sg_wall.specs.Wall.{WallTablesExceed}
use Rattle.sg_bonds.specs.Bounds.{ForcedTablesExceed}
use Rattle.sg_bonds.specs.Weakened.{WeakenedTablesExceed, weakened, weakened_couplings}
use Rattle.sg_calls.specs.Graphs.{bond_by, bonds_by, IsFitGraph, IsTooLarge, IsUnanswered, Numbers, unanswered_by, wrong_bond}

-- an instance of as many spins and bonds, of which the tables exceed what is allowed
pub record IsExceeded (inst : Ising) : Type 0 where
  pub other : Ising
  pub spins : other.n ≡ inst.n
  pub bonds : bond_count other ≡ bond_count inst
  pub exceed : TablesExceed table_limit other

-- in each study there is one
pub exceeded : (inst : Ising) → TablesExceed table_limit inst → IsExceeded inst
exceeded inst exceed = record { other = inst; spins = refl; bonds = refl; exceed = exceed }

pub wall_exceeded : (inst : Ising) → WallTablesExceed table_limit inst → IsExceeded inst
wall_exceeded inst (inl exceed) = exceeded inst exceed
wall_exceeded inst (inr exceed) = record {
  other = with_seam_flipped inst;
  spins = refl;
  bonds = length-map-range_with_len (flipped_at inst) 0 (bond_count inst);
  exceed = exceed;
}

pub weakened_exceeded : (inst : Ising) → WeakenedTablesExceed table_limit inst → IsExceeded inst
weakened_exceeded inst (inl exceed) = exceeded inst exceed
weakened_exceeded inst (inr (scale, s, amount, exceed)) = record {
  other = weakened inst scale s amount;
  spins = refl;
  bonds = all_long inst (weakened_couplings inst scale s amount (bond_count inst));
  exceed = exceed;
}

pub forced_exceeded : (inst : Ising) → ForcedTablesExceed table_limit inst → IsExceeded inst
forced_exceeded inst (inl exceed) = exceeded inst exceed
forced_exceeded inst (inr (k, j, exceed)) = record {
  other = with_coupling inst k j;
  spins = refl;
  bonds = length-set inst.bonds k (recoupled (bond_at inst k) j);
  exceed = exceed;
}

module _ (g : Numbers) where
  bonds_within : (wrong : Option ℕ) → length (value_or [] (unless wrong (bonds_by g.ends g.couplings))) ≤ length g.couplings
  bonds_within None = omega (arith, length-map-range_with_len (bond_by g.ends g.couplings) 0 (length g.couplings))
  bonds_within (Some k) = omega arith

  -- within the limits of the program no tables exceed what is allowed
  large : (inst : Ising) → IsFitGraph large_limits g inst → IsExceeded inst → (spin_limit < g.n) ⊎ (bond_limit < length g.couplings)
  large inst fit much =
      let spins : much.other.n ≡ g.n = much.spins ∙ ap (λ (i : Ising). i.n) fit.given.value in
      let bonds : bond_count much.other ≤ length g.couplings =
      omega (arith, much.bonds, ap bond_count fit.given.value, bonds_within (wrong_bond g.n g.ends g.couplings)) in
      elim (cases_lt spin_limit g.n) [
        | inl more ↦ inl more
        | inr few ↦ elim (cases_lt bond_limit (length g.couplings)) [
          | inl more ↦ inr more
          | inr less ↦ absurd (program_fits much.other (omega (arith, spins, few)) (omega (arith, bonds, less)) much.exceed)
        ]
      ]

  -- a solver's error, where a fault may be that no memory was left
  pub by_solver : (inst : Ising) → IsFitGraph large_limits g inst → (Owed : Fault → Type 0) → Owed NoMemory → (Exceed : Ising → Type 0)
      → ((i : Ising) → Exceed i → IsExceeded i) → (e : Unproved) → IfTooLarge (Exceed inst) e
      → IsUnanswered Owed (IsTooLarge g Exceed) (unanswered_by e)
  by_solver inst given Owed free Exceed much unproved.NoMemory h = free
  by_solver inst given Owed free Exceed much unproved.TablesTooLarge h =
      record { exceed = record { instance = inst; given = given; study = h }; large = large inst given (much inst h) }
