-- The seam of a lattice, and how large its numbers get.
use Rattle.std.proofs.Common.{◌≡◌, ℕ, ℤ, ◌+◌, ◌-◌, ◌*◌, ◌<◌, ◌≤◌, ◌^◌, List, length, get_or, map, arith, All, unsigned_abs}
use Rattle.std.specs.List.{range_with_len}
use Rattle.std.proofs.lemmas.Nat.{mul-add-lt, mul-le}
use Rattle.std.proofs.lemmas.List.Elements.{All-from_get_or, All-nil}
use Rattle.std.proofs.lemmas.List.FromFn.{get_or-map-range_with_len, length-map-range_with_len}
use Rattle.sg_base.proofs.Tallies.{times_once}
use Rattle.sg_model.specs.declared.bond.Bond.{Bond}
use Rattle.sg_model.specs.Ising.{Ising, bond_count}
use Rattle.sg_model.specs.Rotation.{IsRotation}
use Rattle.sg_model.specs.Seam.{IsSeam}
use Rattle.sg_model.specs.WellFormed.{IsInstance}
use Rattle.sg_lattice.specs.declared.kind.Kind.{Kind}
use Rattle.sg_lattice.specs.declared.kind.Kind.TheVariants.{Cylinder}
use Rattle.sg_lattice.specs.Tables.{IsSize, bond_total, lattice}
use Rattle.sg_lattice.proofs.KindSteps.{some_cols}
use Rattle.sg_lattice.proofs.LatticeBonds.{bond_count_is, lattice_joined}
use Rattle.sg_lattice.proofs.LatticeRotation.{lattice_rotation}

abbrev pub whole : ℕ → List Bond → List (List ℕ) → List ℕ → Ising
whole n bonds rotation seam = record { n = n; bonds = bonds; rotation = rotation; seam = seam }

-- on a cylinder the bonds that run from the last column to the first
abbrev round : ℕ → ℕ → List ℕ
round R C = map (λ r. r * C + (C - 1)) (range_with_len 0 R)

module _ (R C : ℕ) (some : 1 ≤ C) where
  round_at : (j : ℕ) → j < length (round R C) → (j < R) × (get_or (round R C) j 0 ≡ j * C + (C - 1))
  round_at j b = grind (arith, length-map-range_with_len, get_or-map-range_with_len)

  round_apart : (i k : ℕ) → i < length (round R C) → k < length (round R C) → get_or (round R C) i 0 ≡ get_or (round R C) k 0 → i ≡ k
  round_apart i k a b e = grind (arith, round_at)

-- the seam is one
pub lattice_seam : (kind : Kind) (R C : ℕ) → IsSize kind R C → (js : List ℤ) → IsSeam (lattice kind R C js)
lattice_seam Cylinder R C size js =
    let some = some_cols Cylinder R C size in
    record {
      below = All-from_get_or (λ k. k < bond_count (lattice Cylinder R C js)) (round R C) 0 (λ j b.
          let at = round_at R C some j b in omega (arith, at.1, bond_count_is Cylinder R C size js, mul-add-lt j C (C - 1) R at.0 (omega arith)));
      distinct = λ x. times_once (λ k. k) x (round R C) 0 (round_apart R C some);
    }
lattice_seam kind R C size js = record {
  below = All-nil (λ k. k < bond_count (lattice kind R C js));
  distinct = λ x. omega arith;
}

-- there is a spin
pub some_spins : (kind : Kind) (R C : ℕ) → IsSize kind R C → 1 ≤ R * C
some_spins kind R C size = omega (arith, mul-le 1 1 R C size.rows (some_cols kind R C size))

-- neither side is longer than the whole
pub few_rows : (kind : Kind) (R C : ℕ) → IsSize kind R C → R ≤ 2 ^ 22
few_rows kind R C size = omega (arith, size.few, mul-le R 1 R C (omega arith) (some_cols kind R C size))

-- there are at most 2^22 columns
pub few_cols : (kind : Kind) (R C : ℕ) → IsSize kind R C → C ≤ 2 ^ 22
few_cols kind R C size = omega (arith, size.few, mul-le 1 C R C size.rows (omega arith))

-- there are at most 2^24 bonds
pub few_bonds : (kind : Kind) (R C : ℕ) → IsSize kind R C → bond_total kind R C ≤ 2 ^ 24
few_bonds kind R C h = grind (arith, mul-le)

-- so it is an instance
pub lattice_instance : (kind : Kind) (R C : ℕ) → IsSize kind R C → (js : List ℤ) → length js ≡ bond_total kind R C →
    All (λ z. unsigned_abs z < 2 ^ 63) js → IsInstance (lattice kind R C js)
lattice_instance kind R C size js count sizes = record {
  draft = record {
    has_spin = some_spins kind R C size;
    few_spins = omega (arith, size.few);
    few_bonds = omega (arith, bond_count_is kind R C size js, few_bonds kind R C size);
    joined = lattice_joined kind R C size js count sizes;
    lists = rotation.lists;
  };
  rotation = rotation;
  seam = lattice_seam kind R C size js;
}
  where
    rotation : IsRotation (lattice kind R C js)
    rotation = lattice_rotation kind R C size js

-- the parts make up the lattice
pub assembled : (kind : Kind) (R C : ℕ) (js : List ℤ) (n : ℕ) (bonds : List Bond) (rotation : List (List ℕ)) (seam : List ℕ)
    → n ≡ R * C → bonds ≡ (lattice kind R C js).bonds → rotation ≡ (lattice kind R C js).rotation → seam ≡ (lattice kind R C js).seam
    → whole n bonds rotation seam ≡ lattice kind R C js
assembled kind R C js n bonds rotation seam p q r s = grind arith
