-- The steps of each kind of lattice.
use Rattle.std.proofs.Common.{◌≡◌, inl, inr, ℕ, suc, ◌+◌, ◌-◌, ◌*◌, ◌/◌, ◌%◌, ◌<◌, ◌≤◌, Bool, true, false, cond, ◌&&◌, eqb, leb, ltb, refl, ◌∙◌, ap, arith}
use Rattle.std.proofs.lemmas.Bool.{and_from, and_parts, cases_eq, cond-false, cond-true, eq-eqb, false≢true, lt-ltb, ltb-true, ne_eqb}
use Rattle.sg_lattice.specs.declared.kind.Kind.{Kind}
use Rattle.sg_lattice.specs.declared.kind.Kind.TheVariants.{Triangular, Hexagonal, Cylinder}
use Rattle.sg_lattice.specs.declared.kind.Step.{Step}
use Rattle.sg_lattice.specs.declared.kind.Step.TheVariants.{East, South, SouthEast}
use Rattle.sg_lattice.specs.Tables.{IsSize, bond_number, bond_total, has_bond, neighbour, vertical_bonds_before}
use Rattle.sg_lattice.proofs.Ranks.{CountsRows}
use Rattle.sg_lattice.proofs.Steps.{IsGridStep, column_before, diagonal_step, east_step, round_step, south_step}

-- the row and the column where the bond from (r, c) ends
abbrev pub end_row : Step → ℕ → ℕ → ℕ
end_row East r c = r
end_row step r c = r + 1

abbrev pub end_col : Kind → Step → ℕ → ℕ → ℕ → ℕ
end_col Cylinder East C r c = (c + 1) % C
end_col kind East C r c = c + 1
end_col kind South C r c = c
end_col kind SouthEast C r c = c + 1

-- whether a bond comes to (r, c), and from which row and column
abbrev pub comes : Kind → Step → ℕ → ℕ → ℕ → ℕ → Bool
comes Cylinder East R C r c = true
comes kind East R C r c = leb 1 c && has_bond kind East R C r (c - 1)
comes kind South R C r c = leb 1 r && has_bond kind South R C (r - 1) c
comes kind SouthEast R C r c = (leb 1 r && leb 1 c) && has_bond kind SouthEast R C (r - 1) (c - 1)

abbrev pub source_row : Step → ℕ → ℕ → ℕ
source_row East r c = r
source_row step r c = r - 1

abbrev pub source_col : Kind → Step → ℕ → ℕ → ℕ → ℕ
source_col Cylinder East C r c = column_before C c
source_col kind East C r c = c - 1
source_col kind South C r c = c
source_col kind SouthEast C r c = c - 1

-- the rows and the columns from which bonds of the step run
abbrev pub height : Kind → Step → ℕ → ℕ
height kind East R = R
height kind South R = R - 1
height Triangular SouthEast R = R - 1
height kind SouthEast R = 0

abbrev pub width : Kind → Step → ℕ → ℕ
width Cylinder East C = C
width kind East C = C - 1
width kind South C = C
width kind SouthEast C = C - 1

-- how many of them run from places before (r, c)
abbrev pub before : Kind → Step → ℕ → ℕ → ℕ → ℕ
before Hexagonal South C r c = vertical_bonds_before C r + (c + 1 - r % 2) / 2
before kind step C r c = r * width kind step C + c

-- the number of bonds of the step, and of those before it and up to its last
abbrev pub step_total : Kind → Step → ℕ → ℕ → ℕ
step_total kind step R C = before kind step C (height kind step R) 0

abbrev pub step_base : Kind → Step → ℕ → ℕ → ℕ
step_base kind East R C = 0
step_base kind South R C = step_total kind East R C
step_base kind SouthEast R C = step_total kind East R C + step_total kind South R C

abbrev pub step_end : Kind → Step → ℕ → ℕ → ℕ
step_end kind East R C = step_total kind East R C
step_end kind South R C = step_total kind East R C + step_total kind South R C
step_end kind SouthEast R C = step_total kind East R C + step_total kind South R C + step_total kind SouthEast R C

pub step_end_is : (kind : Kind) (step : Step) (R C : ℕ) → step_end kind step R C ≡ step_base kind step R C + step_total kind step R C
step_end_is kind step R C = grind arith

-- there is a column
pub some_cols : (kind : Kind) (R C : ℕ) → IsSize kind R C → 1 ≤ C
some_cols kind R C h = grind arith

-- where a bond leads, by its row and its column
pub neighbour_is : (kind : Kind) (step : Step) (R C r c : ℕ) → neighbour kind step R C r c ≡ end_row step r c * C + end_col kind step C r c
neighbour_is kind step R C r c = grind arith

-- bonds from all places of some rows and columns
rectangle : (has : ℕ → ℕ → Bool) (R C H W : ℕ) → H ≤ R → W ≤ C
    → ((r c : ℕ) → r < R → c < C → has r c ≡ true → (r < H) × (c < W))
    → ((r c : ℕ) → r < H → c < W → has r c ≡ true) → CountsRows has R C H W (λ r c. r * W + c)
rectangle has R C H W tall wide inside full = grind arith

-- the vertical bonds of a hexagonal lattice, from each second place of a row
halves : (R C : ℕ) → CountsRows (λ r c. ltb (r + 1) R && eqb ((r + c) % 2) 0) R C (R - 1) C (before Hexagonal South C)
halves R C = record {
  rows = omega arith;
  cols = omega arith;
  inside = λ r c a b h. (omega (arith, ltb-true (r + 1) R (and_parts (ltb (r + 1) R) (eqb ((r + c) % 2) 0) h).0), b);
  start = omega arith;
  more = λ r c a b. more r c (lt-ltb (r + 1) R (omega arith));
  next = λ r a. next r;
}
  where
    more : (r c : ℕ) → ltb (r + 1) R ≡ true
        → before Hexagonal South C r (suc c) ≡ before Hexagonal South C r c + cond (ltb (r + 1) R && eqb ((r + c) % 2) 0) 1 0
    more r c low = grind arith

    next : (r : ℕ) → before Hexagonal South C (suc r) 0 ≡ before Hexagonal South C r C
    next r = elim (cases_eq (r % 2) 1) [
      | inl odd ↦
          let half : suc r / 2 ≡ r / 2 + 1 = omega arith in
          let product : suc r / 2 * C ≡ r / 2 * C + C = ap (λ n. n * C) half ∙ omega arith in
          let even : suc r % 2 ≡ 1 → ⊥ = λ e. omega arith in
          omega (
            arith,
            product,
            cond-true {A = ℕ} (eqb (r % 2) 1) ((C + 1) / 2) 0 (eq-eqb (r % 2) 1 odd),
            cond-false {A = ℕ} (eqb (suc r % 2) 1) ((C + 1) / 2) 0 (ne_eqb (suc r % 2) 1 even),
          )
      | inr even ↦
          let half : suc r / 2 ≡ r / 2 = omega arith in
          let product : suc r / 2 * C ≡ r / 2 * C = ap (λ n. n * C) half in
          let odd : suc r % 2 ≡ 1 = omega arith in
          omega (
            arith,
            product,
            cond-false {A = ℕ} (eqb (r % 2) 1) ((C + 1) / 2) 0 (ne_eqb (r % 2) 1 even),
            cond-true {A = ℕ} (eqb (suc r % 2) 1) ((C + 1) / 2) 0 (eq-eqb (suc r % 2) 1 odd),
          )
    ]

-- how many bonds of the step stand before a spin
pub counts : (kind : Kind) (step : Step) (R C : ℕ) → CountsRows (has_bond kind step R C) R C (height kind step R) (width kind step C) (before kind step C)
counts Cylinder East R C = rectangle (λ r c. true) R C R C (omega arith) (omega arith) (λ r c a b h. (a, b)) (λ r c a b. refl)
counts kind East R C =
    rectangle (λ r c. ltb (c + 1) C) R C R (C - 1) (omega arith) (omega arith) (λ r c a b h. (a, omega (arith, ltb-true (c + 1) C h)))
    (λ r c a b. lt-ltb (c + 1) C (omega arith))
counts Hexagonal South R C = halves R C
counts kind South R C =
    rectangle (λ r c. ltb (r + 1) R) R C (R - 1) C (omega arith) (omega arith) (λ r c a b h. (omega (arith, ltb-true (r + 1) R h), b))
    (λ r c a b. lt-ltb (r + 1) R (omega arith))
counts Triangular SouthEast R C =
    rectangle (λ r c. ltb (r + 1) R && ltb (c + 1) C) R C (R - 1) (C - 1) (omega arith) (omega arith)
    (λ r c a b h. let both = and_parts (ltb (r + 1) R) (ltb (c + 1) C) h in
    (omega (arith, ltb-true (r + 1) R both.0), omega (arith, ltb-true (c + 1) C both.1)))
    (λ r c a b. and_from (ltb (r + 1) R) (ltb (c + 1) C) (lt-ltb (r + 1) R (omega arith)) (lt-ltb (c + 1) C (omega arith)))
counts kind SouthEast R C =
    rectangle (λ r c. false) R C 0 (C - 1) (omega arith) (omega arith) (λ r c a b h. absurd (false≢true h)) (λ r c a b. absurd (omega arith))

-- the step leads on the grid, and back
pub grid_step : (kind : Kind) (step : Step) (R C : ℕ) → IsSize kind R C
    → IsGridStep R C (has_bond kind step R C) (end_row step) (end_col kind step C) (comes kind step R C) (source_row step) (source_col kind step C)
grid_step Cylinder East R C size = round_step R C (omega (arith, size.cols))
grid_step kind East R C size = east_step R C (has_bond kind East R C) (λ r c a b h. omega (arith, ((counts kind East R C).inside r c a b h).1))
grid_step kind South R C size = south_step R C (has_bond kind South R C) (λ r c a b h. omega (arith, ((counts kind South R C).inside r c a b h).0))
grid_step Triangular SouthEast R C size =
    diagonal_step R C (has_bond Triangular SouthEast R C) (λ r c a b h. let near = (counts Triangular SouthEast R C).inside r c a b h in
    (omega (arith, near.0), omega (arith, near.1)))
grid_step kind SouthEast R C size = diagonal_step R C (λ r c. false) (λ r c a b h. absurd (false≢true h))

-- the number of a bond is the first of its step and those before it
pub number_is : (kind : Kind) (step : Step) (R C r c : ℕ) → has_bond kind step R C r c ≡ true →
    bond_number kind step R C r c ≡ step_base kind step R C + before kind step C r c
number_is kind step R C r c h = grind arith

-- all steps together
pub all_total : (kind : Kind) (R C : ℕ) → step_end kind SouthEast R C ≡ bond_total kind R C
all_total kind R C = grind arith
