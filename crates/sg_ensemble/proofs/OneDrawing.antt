-- One drawing with other couplings: a lattice stays a lattice.
use Rattle.std.proofs.Common.{◌≡◌, inl, inr, ℕ, ℤ, pos, ◌≤◌, List, length, map, get_or, sym, ◌∙◌, ap, arith, ◌^◌, All}
use Rattle.std.specs.List.{range_with_len}
use Rattle.std.proofs.lemmas.Bool.{cases_lt}
use Rattle.std.proofs.lemmas.List.{get_or_past}
use Rattle.std.proofs.lemmas.List.FromFn.{get_or-map-range_with_len, length-map-range_with_len}
use Rattle.sg_model.specs.declared.bond.Bond.{Bond}
use Rattle.sg_model.specs.Ising.{Ising, bond_count}
use Rattle.sg_model.specs.Energy.{weight}
use Rattle.sg_model.specs.Changes.{coupled_at, coupled_bonds, recoupled, with_bonds, with_couplings}
use Rattle.sg_laws.specs.Stream.{IsDraw}
use Rattle.sg_lattice.specs.declared.kind.Kind.{Kind}
use Rattle.sg_lattice.specs.declared.kind.Kind.TheVariants.{Cylinder}
use Rattle.sg_lattice.specs.Tables.{bonds_between, coupled_bond, bond_ends, ends_of, lattice}
use Rattle.sg_lattice.proofs.LatticeBonds.{bond_count_is}
use Rattle.sg_ensemble.specs.Samples.{IsCylinder, IsStudied, draw_count}
use Rattle.sg_ensemble.proofs.DrawnCylinders.{drawn_weight, studied_size}

abbrev no_bond : Bond
no_bond = record { u = 0; v = 0; j = pos 0 }

-- the bonds of a lattice, with other couplings put in
module _ (kind : Kind) (rows cols : ℕ) (old new : List ℤ) where
  abbrev bond_of : List ℤ → ℕ → Bond
  bond_of couplings k = coupled_bond (bond_ends (ends_of kind rows cols) k) (get_or couplings k (pos 0))

  count_is : length (bonds_between (ends_of kind rows cols) old) ≡ length (ends_of kind rows cols)
  count_is = length-map-range_with_len (bond_of old) 0 (length (ends_of kind rows cols))

  each : (k : ℕ) → coupled_at (bonds_between (ends_of kind rows cols) old) new k ≡ bond_of new k
  each k = elim (cases_lt k (length (ends_of kind rows cols))) [
    | inl inside ↦
        ap (λ (b : Bond). recoupled b (get_or new k (pos 0)))
        (get_or-map-range_with_len (bond_of old) 0 (length (ends_of kind rows cols)) k k no_bond inside (omega arith))
    | inr past ↦
        ap (λ (b : Bond). recoupled b (get_or new k (pos 0))) (get_or_past (bonds_between (ends_of kind rows cols) old) k no_bond (omega (arith, count_is)))
        ∙ sym (ap (λ e. coupled_bond e (get_or new k (pos 0))) (get_or_past (ends_of kind rows cols) k (record { u = 0; v = 0 }) past))
  ]

  coupled_again : coupled_bonds (bonds_between (ends_of kind rows cols) old) new ≡ bonds_between (ends_of kind rows cols) new
  coupled_again =
      ap (λ n. map (coupled_at (bonds_between (ends_of kind rows cols) old) new) (range_with_len 0 n)) count_is
      ∙ ap (λ (f : ℕ → Bond). map f (range_with_len 0 (length (ends_of kind rows cols)))) (λ i k. each k i)

-- a lattice with other couplings put in is the lattice with these
pub lattice_again : (kind : Kind) (rows cols : ℕ) (old new : List ℤ) → with_couplings (lattice kind rows cols old) new ≡ lattice kind rows cols new
lattice_again kind rows cols old new = ap (with_bonds (lattice kind rows cols old)) (coupled_again kind rows cols old new)

-- so is a cylinder
module _ (rows cols : ℕ) (inst : Ising) (h : IsCylinder rows cols inst) where
  -- with other couplings it is the lattice of these
  pub cylinder_again : (draws : List ℤ) → with_couplings inst draws ≡ lattice Cylinder rows cols draws
  cylinder_again draws = ap (λ (i : Ising). with_couplings i draws) h.drawn ∙ lattice_again Cylinder rows cols h.couplings draws

  -- it has as many bonds as a sample has draws
  pub cylinder_bonds : IsStudied rows cols → bond_count inst ≡ draw_count rows cols
  cylinder_bonds size = ap bond_count h.drawn ∙ bond_count_is Cylinder rows cols (studied_size rows cols size) h.couplings

  -- with draws of a law as couplings it weighs at most 2^32
  pub cylinder_light : IsStudied rows cols → (draws : List ℤ) → length draws ≡ draw_count rows cols → All IsDraw draws
      → weight (with_couplings inst draws) ≤ 2 ^ 32
  cylinder_light size draws count range = omega (arith, ap weight (cylinder_again draws), drawn_weight rows cols size draws count range)
