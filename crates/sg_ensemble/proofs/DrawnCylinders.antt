-- Cylinders whose couplings are drawn: their sum is small, and they are drawn on a sphere as those with other couplings are.
use Rattle.std.proofs.Common.{◌≡◌, inl, inr, ℕ, ℤ, pos, negsuc, ◌-◌, ◌*◌, ◌<◌, ◌≤◌, ◌^◌, ◌-ℤ◌, ◌≤ℤ◌, List, length, get_or, refl, sym, ◌∙◌, ap, subst, arith, All}
use Rattle.std.specs.Prelude.{unsigned_abs}
use Rattle.std.proofs.lemmas.Int.{ints}
use Rattle.std.proofs.lemmas.Bool.{cases_lt}
use Rattle.std.proofs.lemmas.List.{get_or_past}
use Rattle.std.proofs.lemmas.List.Elements.{All-from_get_or}
use Rattle.std.proofs.lemmas.List.Sums.{sum_by-le}
use Rattle.std.proofs.Math.Nat.{mul-le-mul_right}
use Rattle.sg_model.specs.declared.bond.Bond.{Bond}
use Rattle.sg_model.specs.declared.refusal.Fault.{Fault}
use Rattle.sg_model.specs.declared.refusal.Fault.TheVariants.{Refused}
use Rattle.sg_model.specs.declared.refusal.Refusal.{Refusal}
use Rattle.sg_model.specs.Ising.{Ising, bond_at, bond_count}
use Rattle.sg_model.specs.Energy.{weight}
use Rattle.sg_model.specs.Changes.{HasSameEnds, with_seam_flipped}
use Rattle.sg_model.proofs.EnergyBounds.{energy_size}
use Rattle.sg_model.proofs.Recoupled.{flipped_ends}
use Rattle.sg_model.proofs.SameEnds.{recoupled_instance}
use Rattle.sg_model.specs.WellFormed.{IsInstance}
use Rattle.sg_laws.specs.Stream.{IsDraw}
use Rattle.sg_lattice.specs.declared.kind.Kind.TheVariants.{Cylinder}
use Rattle.sg_lattice.specs.Tables.{IsSize, bond_total, coupled_bond, bond_ends, ends_of, lattice}
use Rattle.sg_lattice.proofs.LatticeBonds.{bond_count_is, bond_is, length-ends_of}
use Rattle.sg_faces.proofs.SameFaces.{is_euler_same}
use Rattle.sg_planar.proofs.OneFitness.{fit_not_unfit}
use Rattle.sg_planar.proofs.OtherCouplings.{weight_flipped}
use Rattle.sg_wall.specs.Wall.{IsWall}
use Rattle.sg_planar.specs.Fit.{IsFit, IsUnfit}
use Rattle.sg_ensemble.specs.Samples.{IsSpherical, IsStudied, draw_count}
use Rattle.sg_model.specs.Faults.{OrNoMemory}

abbrev no_bond : Bond
no_bond = record { u = 0; v = 0; j = pos 0 }

-- what is studied is a size of a cylinder
pub studied_size : (rows cols : ℕ) → IsStudied rows cols → IsSize Cylinder rows cols
studied_size rows cols h = record { rows = h.has_row; cols = h.closes; few = omega (arith, h.few) }

-- a draw is small
pub draw_size : (z : ℤ) → IsDraw z → unsigned_abs z ≤ 2 ^ 20
draw_size z h = bounded z h.low h.high
  where
    bounded : (z : ℤ) → negsuc 1048575 ≤ℤ z → z ≤ℤ pos 1048576 → unsigned_abs z ≤ 2 ^ 20
    bounded z l m = omega (arith, ints)

module _ (rows cols : ℕ) (size : IsStudied rows cols) (j : List ℤ) (count : length j ≡ draw_count rows cols) (range : All IsDraw j) where
  is_size : IsSize Cylinder rows cols
  is_size = studied_size rows cols size

  few_bonds : bond_count (lattice Cylinder rows cols j) ≤ 2 ^ 12
  few_bonds =
      let less : (rows - 1) * cols ≤ rows * cols = mul-le-mul_right cols (let l : rows - 1 ≤ rows = omega arith in l) in
      omega (arith, bond_count_is Cylinder rows cols is_size j, less, size.few)

  coupling_at : (k : ℕ) → k < bond_count (lattice Cylinder rows cols j) → (bond_at (lattice Cylinder rows cols j) k).j ≡ get_or j k (pos 0)
  coupling_at k l =
      ap (λ (b : Bond). b.j) (bond_is Cylinder rows cols is_size j k
      (omega (arith, length-ends_of Cylinder rows cols is_size, bond_count_is Cylinder rows cols is_size j)))

  coupling_size : (k : ℕ) → k < bond_count (lattice Cylinder rows cols j) → unsigned_abs (bond_at (lattice Cylinder rows cols j) k).j ≤ 2 ^ 20
  coupling_size k l =
      omega (
        arith,
        ap unsigned_abs (coupling_at k l),
        draw_size (get_or j k (pos 0))
            (range k (pos 0) (omega (arith, count, bond_count_is Cylinder rows cols is_size j))),
      )

  -- the couplings of a sample weigh at most 2^32 together
  pub drawn_weight : weight (lattice Cylinder rows cols j) ≤ 2 ^ 32
  drawn_weight =
      let all = sum_by-le (λ (b : Bond). unsigned_abs b.j) (2 ^ 20) (lattice Cylinder rows cols j).bonds
      (All-from_get_or (λ (b : Bond). unsigned_abs b.j ≤ 2 ^ 20) (lattice Cylinder rows cols j).bonds no_bond coupling_size) in
      omega (arith, all, few_bonds)

  -- the same ends as with other couplings
  same_ends : (other : List ℤ) → HasSameEnds (lattice Cylinder rows cols other) (lattice Cylinder rows cols j).bonds
  same_ends other = record {
    count = bond_count_is Cylinder rows cols is_size j ∙ sym (bond_count_is Cylinder rows cols is_size other);
    first = λ k. ends (λ b. b.u) (λ i. refl) k;
    second = λ k. ends (λ b. b.v) (λ i. refl) k;
    sizes = All-from_get_or (λ (b : Bond). unsigned_abs b.j < 2 ^ 63) (lattice Cylinder rows cols j).bonds no_bond (λ k l. omega (arith, coupling_size k l));
  }
    where
      ends : (f : Bond → ℕ)
          → ((i : ℕ) → f (coupled_bond (bond_ends (ends_of Cylinder rows cols) i) (get_or j i (pos 0))) ≡ f
          (coupled_bond (bond_ends (ends_of Cylinder rows cols) i) (get_or other i (pos 0))))
          → (k : ℕ) →
          f (bond_at (lattice Cylinder rows cols j) k) ≡ f (bond_at (lattice Cylinder rows cols other) k)
      ends f same k = elim (cases_lt k (bond_total Cylinder rows cols)) [
        | inl l ↦
            let inside : k < length (ends_of Cylinder rows cols) = omega (arith, length-ends_of Cylinder rows cols is_size) in
            ap f (bond_is Cylinder rows cols is_size j k inside)
            ∙ same k
            ∙ sym (ap f (bond_is Cylinder rows cols is_size other k inside))
        | inr past ↦
            ap f (get_or_past (lattice Cylinder rows cols j).bonds k no_bond (omega (arith, bond_count_is Cylinder rows cols is_size j)))
            ∙ sym (ap f (get_or_past (lattice Cylinder rows cols other).bonds k no_bond (omega (arith, bond_count_is Cylinder rows cols is_size other))))
      ]

  -- so it is fit
  pub drawn_fit : IsSpherical rows cols → IsFit (lattice Cylinder rows cols j)
  drawn_fit h = record {
    small = omega (arith, drawn_weight);
    genus_zero = is_euler_same (lattice Cylinder rows cols h.couplings) (lattice Cylinder rows cols j).bonds (same_ends h.couplings) h.instance
        (pos 2) h.genus_zero;
  }

-- an instance that is fit is not refused
pub fit_not_refused : (inst : Ising) → IsFit inst → (fault : Fault) (refusal : Refusal) → fault ≡ Refused refusal → OrNoMemory (IsUnfit inst) fault → ⊥
fit_not_refused inst h fault refusal e unfit = fit_not_unfit inst h refusal (subst (OrNoMemory (IsUnfit inst)) e unfit)

-- the energy of a wall is at most twice the weight of all bonds in size
pub wall_size : (inst : Ising) (p a d : ℤ) → IsInstance inst → IsWall inst p a d → unsigned_abs d ≤ 2 * weight inst
wall_size inst p a d good h = apart p a d (weight inst) h.gain first second
  where
    flipped : IsInstance (with_seam_flipped inst)
    flipped = recoupled_instance inst (with_seam_flipped inst).bonds (flipped_ends inst good.draft.joined) good

    first : unsigned_abs p ≤ weight inst
    first = omega (arith, energy_size inst h.least.reached.0 good h.least.reached.1, ap unsigned_abs h.least.reached.2)

    second : unsigned_abs a ≤ weight inst
    second =
        omega (
          arith,
          energy_size (with_seam_flipped inst) h.least_flipped.reached.0 flipped h.least_flipped.reached.1,
          ap unsigned_abs h.least_flipped.reached.2,
          weight_flipped inst,
        )

    apart : (p a d : ℤ) (w : ℕ) → d ≡ a -ℤ p → unsigned_abs p ≤ w → unsigned_abs a ≤ w → unsigned_abs d ≤ 2 * w
    apart p a d w e l m = omega (arith, ints)
