-- The darts of the tables are a rotation: each dart stands once, in the list of the spin that it leaves.
use Rattle.std.proofs.Common.{◌≡◌, ℕ, ℤ, ◌+◌, ◌-◌, ◌*◌, ◌/◌, ◌%◌, ◌<◌, ◌≤◌, Bool, cond, ◌&&◌, eqb, leb, ltb, List, [], ◌∷◌, ◌++◌, count_by, sym, ◌∙◌, ap, arith}
use Rattle.std.proofs.lemmas.Bool.{le-leb}
use Rattle.std.proofs.lemmas.Nat.{div_below, mod_below, div-add-mod'}
use Rattle.std.proofs.lemmas.List.Sums.{sum_by-append}
use Rattle.std.proofs.lemmas.List.FromFn.{get_or-map-range_with_len, length-map-range_with_len}
use Rattle.sg_model.specs.Rotation.{IsRotation, darts_of, is_dart_of, tail}
use Rattle.sg_lattice.specs.declared.kind.Kind.{Kind}
use Rattle.sg_lattice.specs.declared.kind.Step.TheVariants.{East, South, SouthEast}
use Rattle.sg_lattice.specs.Tables.{IsSize, bond_number, darts, east, has_bond, lattice, north, north_west, south, south_east, west}
use Rattle.sg_lattice.proofs.Laid.{in_block, step_count}
use Rattle.sg_lattice.proofs.KindSteps.{all_total, comes, grid_step, some_cols, source_col, source_row, step_end}
use Rattle.sg_lattice.proofs.LatticeBonds.{bond_count_is, step_laid}

-- how often d stands in a list
abbrev times : ℕ → List ℕ → ℕ
times d xs = count_by (λ x. eqb x d) xs

count_if : (b : Bool) (x d : ℕ) → times d (cond b (x ∷ []) []) ≡ cond (b && eqb x d) 1 0
count_if b x d = grind arith

count_back : (g b : Bool) (x d : ℕ) → times d (cond g (cond b (x ∷ []) []) []) ≡ cond ((g && b) && eqb x d) 1 0
count_back g b x d = grind arith

count_west : (kind : Kind) (R C r c d : ℕ)
    → times d (west kind R C r c) ≡ cond
    (comes kind East R C r c && eqb (2 * bond_number kind East R C (source_row East r c) (source_col kind East C r c) + 1) d) 1 0
count_west kind R C r c d = grind arith

count_six : (d : ℕ) (a b e f g h : List ℕ) →
    times d (a ++ (b ++ (e ++ (f ++ (g ++ h))))) ≡ times d a + (times d b + (times d e + (times d f + (times d g + times d h))))
count_six d a b e f g h = simp (sum_by-append)

-- the blocks of the three steps make up all darts
all_blocks : (d a b m : ℕ) (t : Bool) → a ≤ b → b ≤ m
    → cond {A = ℕ} (in_block 0 a d && t) 1 0 + (cond {A = ℕ} (in_block a b d && t) 1 0 + cond {A = ℕ} (in_block b m d && t) 1 0)
    ≡ cond {A = ℕ} (ltb d (2 * m) && t) 1 0
all_blocks d a b m t p q = grind (arith, le-leb, p)

module _ (kind : Kind) (R C : ℕ) (size : IsSize kind R C) (js : List ℤ) where
  -- the darts of the table at spin (r, c) are those that leave it
  pub darts_once : (r c d : ℕ) → r < R → c < C → times d (darts kind R C r c) ≡ cond (is_dart_of (lattice kind R C js) (r * C + c) d) 1 0
  darts_once r c d a b =
      let east' = count_if (has_bond kind East R C r c) (2 * bond_number kind East R C r c) d in
      let south' = count_if (has_bond kind South R C r c) (2 * bond_number kind South R C r c) d in
      let south_east' = count_if (has_bond kind SouthEast R C r c) (2 * bond_number kind SouthEast R C r c) d in
      let north' = count_back (leb 1 r) (has_bond kind South R C (r - 1) c) (2 * bond_number kind South R C (r - 1) c + 1) d in
      let north_west' =
      count_back (leb 1 r && leb 1 c) (has_bond kind SouthEast R C (r - 1) (c - 1)) (2 * bond_number kind SouthEast R C (r - 1) (c - 1) + 1) d in
      let west' = count_west kind R C r c d in
      let across = step_count (grid_step kind East R C size) (step_laid kind R C size js East) r c d a b in
      let down = step_count (grid_step kind South R C size) (step_laid kind R C size js South) r c d a b in
      let diagonal = step_count (grid_step kind SouthEast R C size) (step_laid kind R C size js SouthEast) r c d a b in
      let blocks =
      all_blocks d (step_end kind East R C) (step_end kind South R C) (step_end kind SouthEast R C) (eqb (tail (lattice kind R C js) d) (r * C + c))
      (omega arith) (omega arith)
      ∙ ap (λ m. cond {A = ℕ} (ltb d (2 * m) && eqb (tail (lattice kind R C js) d) (r * C + c)) 1 0)
      (all_total kind R C ∙ sym (bond_count_is kind R C size js)) in
      count_six d (east kind R C r c) (north kind R C r c) (north_west kind R C r c) (west kind R C r c) (south kind R C r c) (south_east kind R C r c)
      ∙ sums east' north' north_west' west' south' south_east' across down diagonal blocks
    where
      sums : {e n nw w s se e' n' nw' w' s' se' x y z all : ℕ} → e ≡ e' → n ≡ n' → nw ≡ nw' → w ≡ w' → s ≡ s' → se ≡ se' →
          e' + w' ≡ x → s' + n' ≡ y → se' + nw' ≡ z → x + (y + z) ≡ all → e + (n + (nw + (w + (s + se)))) ≡ all
      sums p1 p2 p3 p4 p5 p6 q1 q2 q3 total = omega arith

  -- the darts of the tables are a rotation
  pub lattice_rotation : IsRotation (lattice kind R C js)
  lattice_rotation = record {
    lists = length-map-range_with_len (λ i. darts kind R C (i / C) (i % C)) 0 (R * C);
    each_once = once;
  }
    where
      once : (i d : ℕ) → i < R * C → times d (darts_of (lattice kind R C js) i) ≡ cond (is_dart_of (lattice kind R C js) i d) 1 0
      once i d l =
          let at : darts_of (lattice kind R C js) i ≡ darts kind R C (i / C) (i % C) =
          get_or-map-range_with_len (λ i. darts kind R C (i / C) (i % C)) 0 (R * C) i i [] l (omega arith) in
          ap (times d) at
          ∙ darts_once (i / C) (i % C) d (div_below i C R (some_cols kind R C size) l) (mod_below i C (some_cols kind R C size))
          ∙ ap (λ k. cond {A = ℕ} (is_dart_of (lattice kind R C js) k d) 1 0) (div-add-mod' i C)
