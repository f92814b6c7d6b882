-- How many spins and bonds an instance has that is read.
use Rattle.std.proofs.Common.{◌≡◌, ℕ, ◌+◌, ◌-◌, ◌*◌, ◌/◌, ◌%◌, ◌≤◌, Bool, true, false, cond, eqb, List, Option, None, Some, refl, ap, ◌∙◌, arith, ℤ}
use Rattle.std.proofs.lemmas.Nat.{mul-le}
use Rattle.sg_model.specs.Ising.{Ising, bond_count}
use Rattle.sg_lattice.specs.declared.kind.Kind.{Kind}
use Rattle.sg_lattice.specs.declared.kind.Kind.TheVariants.{Square, Triangular, Hexagonal, Cylinder}
use Rattle.sg_lattice.specs.Tables.{IsSize, bond_total, lattice, vertical_bonds_before}
use Rattle.sg_lattice.proofs.LatticeBonds.{bond_count_is}
use Rattle.sg_draft.specs.Draft.{reseamed}

-- a lattice has three bonds for each spin at most
row-more : (k C : ℕ) → (k + 1) * C ≡ k * C + C
row-more k C = grind arith

half_rows : (R C : ℕ) → 1 ≤ R → vertical_bonds_before C (R - 1) ≤ R * C
half_rows R C some =
    let before : R ≡ R - 1 + 1 = omega arith in
    let one_more : R * C ≡ (R - 1) * C + C = ap (λ (n : ℕ). n * C) before ∙ row-more (R - 1) C in
    omega (arith, mul-le ((R - 1) / 2) C (R - 1) C (omega arith) (omega arith), one_more, most (eqb ((R - 1) % 2) 1))
  where
    most : (t : Bool) → cond t ((C + 1) / 2) 0 ≤ C
    most true = omega arith
    most false = omega arith

-- a lattice has at most three bonds a spin
pub bonds-of_lattice : (kind : Kind) (R C : ℕ) → IsSize kind R C → bond_total kind R C ≤ 3 * (R * C)
bonds-of_lattice Square R C size = omega (arith, mul-le R (C - 1) R C (omega arith) (omega arith), mul-le (R - 1) C R C (omega arith) (omega arith))
bonds-of_lattice Triangular R C size =
    let both = mul-le (R - 1) (C - 1) R C (omega arith) (omega arith) in
    omega (arith, mul-le R (C - 1) R C (omega arith) (omega arith), mul-le (R - 1) C R C (omega arith) (omega arith), both)
bonds-of_lattice Hexagonal R C size = omega (arith, mul-le R (C - 1) R C (omega arith) (omega arith), half_rows R C size.rows)
bonds-of_lattice Cylinder R C size = omega (arith, mul-le (R - 1) C R C (omega arith) (omega arith))

-- another seam changes neither number
reseamed-spins : (seam : Option (List ℕ)) (inst : Ising) → (reseamed seam inst).n ≡ inst.n
reseamed-spins None inst = refl
reseamed-spins (Some seam) inst = refl

reseamed-bonds : (seam : Option (List ℕ)) (inst : Ising) → bond_count (reseamed seam inst) ≡ bond_count inst
reseamed-bonds None inst = refl
reseamed-bonds (Some seam) inst = refl

-- a lattice that is read has its rows times its columns of spins
pub lattice-spins : (kind : Kind) (R C : ℕ) (js : List ℤ) (seam : Option (List ℕ)) (inst : Ising) → inst ≡ reseamed seam (lattice kind R C js) → inst.n ≡ R * C
lattice-spins kind R C js seam inst is = ap (λ (i : Ising). i.n) is ∙ reseamed-spins seam (lattice kind R C js)

-- and at most three bonds for each
pub lattice-bonds : (kind : Kind) (R C : ℕ) (js : List ℤ) (seam : Option (List ℕ)) (inst : Ising) → IsSize kind R C
    → inst ≡ reseamed seam (lattice kind R C js) → bond_count inst ≤ 3 * (R * C)
lattice-bonds kind R C js seam inst size is =
    omega (arith, ap bond_count is ∙ reseamed-bonds seam (lattice kind R C js) ∙ bond_count_is kind R C size js, bonds-of_lattice kind R C size)
