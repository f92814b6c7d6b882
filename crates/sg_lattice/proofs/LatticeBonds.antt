-- The bonds of a lattice stand where the tables say.
use Rattle.std.proofs.Common.{◌≡◌, inl, inr, ℕ, ℤ, pos, ◌+◌, ◌-◌, ◌*◌, ◌/◌, ◌%◌, ◌<◌, ◌≤◌, ◌^◌, Bool, true, List, ◌++◌, length, get_or, map, sym, ◌∙◌, ap, ap₂, subst, arith, All}
use Rattle.std.specs.Prelude.{unsigned_abs}
use Rattle.std.proofs.lemmas.Bool.{cases_lt}
use Rattle.std.proofs.lemmas.Nat.{div_below, div-add-mod', div-mul-add, mod_below, mod-mul-add, mul-add-lt, same_from_place}
use Rattle.std.proofs.lemmas.List.{get_or_append_left, get_or-append-add, get_or-map, length-append, length-map}
use Rattle.std.proofs.lemmas.List.Elements.{All-from_get_or}
use Rattle.std.proofs.lemmas.List.FromFn.{get_or-map-range_with_len, length-map-range_with_len}
use Rattle.sg_base.proofs.Ranks.{at_rank, rank, rank_less}
use Rattle.sg_model.specs.declared.bond.Bond.{Bond}
use Rattle.sg_model.specs.Ising.{Ising, IsBond, bond_at, bond_count}
use Rattle.sg_lattice.specs.declared.kind.Kind.{Kind}
use Rattle.sg_lattice.specs.declared.kind.Step.{Step}
use Rattle.sg_lattice.specs.declared.kind.Step.TheVariants.{East, South, SouthEast}
use Rattle.sg_lattice.specs.declared.kind.Ends.{Ends}
use Rattle.sg_lattice.specs.Tables.{IsSize, bond_number, bond_total, coupled_bond, bond_ends, ends_from, ends_of, has_bond, lattice, neighbour, bond_origins}
use Rattle.sg_lattice.proofs.Ranks.{chosen_at_rank, length-chosen_below, rank_all, rank_at}
use Rattle.sg_lattice.proofs.KindSteps.{all_total, counts, end_col, end_row, grid_step, neighbour_is, number_is, some_cols, step_base, step_end, step_end_is, step_total}

-- the bonds of a step have the numbers from `base` up to `end`, and their ends
pub record IsLaid (inst : Ising) (R C base end : ℕ) (has : ℕ → ℕ → Bool) (number er ec : ℕ → ℕ → ℕ) : Type 0 where
  pub at : (r c : ℕ) → r < R → c < C → has r c ≡ true → (base ≤ number r c) × (number r c < end)
      × ((bond_at inst (number r c)).u ≡ r * C + c) × ((bond_at inst (number r c)).v ≡ er r c * C + ec r c)
  pub each : (k : ℕ) → base ≤ k → k < end → (r : ℕ) × (c : ℕ) × (r < R) × (c < C) × (has r c ≡ true) × (number r c ≡ k)

abbrev no_ends : Ends
no_ends = record { u = 0; v = 0 }

abbrev no_bond : Bond
no_bond = record { u = 0; v = 0; j = pos 0 }

later_part : (front rest : List Ends) (n k : ℕ) → length front ≡ n → bond_ends (front ++ rest) (n + k) ≡ bond_ends rest k
later_part front rest n k e = ap (λ m. bond_ends (front ++ rest) (m + k)) (sym e) ∙ get_or-append-add front rest k no_ends

module _ (kind : Kind) (R C : ℕ) (size : IsSize kind R C) where
  -- whether a bond of the step runs from spin i, and the ends of those that do
  abbrev runs : Step → ℕ → Bool
  runs step i = has_bond kind step R C (i / C) (i % C)

  abbrev part : Step → List Ends
  part step = map (ends_from kind step R C) (bond_origins kind step R C)

  rank_total : (step : Step) → rank (runs step) (R * C) ≡ step_total kind step R C
  rank_total step = rank_all (counts kind step R C) (some_cols kind R C size)

  length-origins : (step : Step) → length (bond_origins kind step R C) ≡ step_total kind step R C
  length-origins step = length-chosen_below (runs step) (R * C) ∙ rank_total step

  length-part : (step : Step) → length (part step) ≡ step_total kind step R C
  length-part step = length-map (bond_origins kind step R C) (ends_from kind step R C) ∙ length-origins step

  -- there are as many ends as bonds
  pub length-ends_of : length (ends_of kind R C) ≡ bond_total kind R C
  length-ends_of =
      omega (
        arith,
        length-append (part East) (part South ++ part SouthEast),
        length-append (part South) (part SouthEast),
        length-part East,
        length-part South,
        length-part SouthEast,
        all_total kind R C,
      )

  first_part : (step : Step) (rest : List Ends) (k : ℕ) → k < length (bond_origins kind step R C)
      → bond_ends (part step ++ rest) k ≡ ends_from kind step R C (get_or (bond_origins kind step R C) k 0)
  first_part step rest k l = grind (arith, get_or_append_left, length-map, get_or-map)

  listed : (step : Step) (k : ℕ) → k < length (bond_origins kind step R C) →
      bond_ends (ends_of kind R C) (step_base kind step R C + k) ≡ ends_from kind step R C (get_or (bond_origins kind step R C) k 0)
  listed East k l = let e : 0 + k ≡ k = omega arith in ap (bond_ends (ends_of kind R C)) e ∙ first_part East (part South ++ part SouthEast) k l
  listed South k l =
      later_part (part East) (part South ++ part SouthEast) (step_total kind East R C) k (length-part East) ∙ first_part South (part SouthEast) k l
  listed SouthEast k l =
      let e : step_total kind East R C + step_total kind South R C + k ≡ step_total kind East R C + (step_total kind South R C + k) = omega arith in
      ap (bond_ends (ends_of kind R C)) e
      ∙ later_part (part East) (part South ++ part SouthEast) (step_total kind East R C) (step_total kind South R C + k) (length-part East)
      ∙ later_part (part South) (part SouthEast) (step_total kind South R C) k (length-part South)
      ∙ get_or-map (ends_from kind SouthEast R C) (bond_origins kind SouthEast R C) k 0 no_ends l

  room : (step : Step) → step_end kind step R C ≤ length (ends_of kind R C)
  room step = grind (arith, length-ends_of)

  -- the number of a bond is the place of its spin among those from which bonds run
  number_by_rank : (step : Step) (r c : ℕ) → r < R → c < C → has_bond kind step R C r c ≡ true →
      bond_number kind step R C r c ≡ step_base kind step R C + rank (runs step) (r * C + c)
  number_by_rank step r c a b h =
      let near = (counts kind step R C).inside r c a b h in
      number_is kind step R C r c h ∙ ap (λ k. step_base kind step R C + k) (sym (rank_at (counts kind step R C) r c near.0 (omega (arith, near.1))))

  module _ (js : List ℤ) where
    abbrev coupled : ℕ → Bond
    coupled k = coupled_bond (bond_ends (ends_of kind R C) k) (get_or js k (pos 0))

    -- bond k has the ends at its place, and the coupling there
    pub bond_is : (k : ℕ) → k < length (ends_of kind R C) →
        bond_at (lattice kind R C js) k ≡ coupled_bond (bond_ends (ends_of kind R C) k) (get_or js k (pos 0))
    bond_is k l = get_or-map-range_with_len coupled 0 (length (ends_of kind R C)) k k no_bond l (omega arith)

    -- the lattice has the bonds of its kind and size
    pub bond_count_is : bond_count (lattice kind R C js) ≡ bond_total kind R C
    bond_count_is = length-map-range_with_len coupled 0 (length (ends_of kind R C)) ∙ length-ends_of

    -- the bonds of each step, by their numbers
    pub step_laid : (step : Step) → IsLaid (lattice kind R C js) R C (step_base kind step R C) (step_end kind step R C) (has_bond kind step R C)
        (bond_number kind step R C) (end_row step) (end_col kind step C)
    step_laid step = record {
      at = λ r c a b h.
          let spin : ℕ = r * C + c in
          let k : ℕ = bond_number kind step R C r c in
          let passes : runs step spin ≡ true = ap₂ (has_bond kind step R C) (div-mul-add r C c b) (mod-mul-add r C c b) ∙ h in
          let below : spin < R * C = omega (arith, mul-add-lt r C c R a b) in
          let low : rank (runs step) spin < step_total kind step R C = omega (arith, rank_less (runs step) spin (R * C) below passes, rank_total step) in
          let number = number_by_rank step r c a b h in
          let high : k < step_end kind step R C = omega (arith, number, low, step_end_is kind step R C) in
          let ends : bond_ends (ends_of kind R C) k ≡ ends_from kind step R C spin =
          ap (bond_ends (ends_of kind R C)) number ∙ listed step (rank (runs step) spin) (omega (arith, low, length-origins step))
          ∙ ap (ends_from kind step R C) (chosen_at_rank (runs step) spin (R * C) below passes) in
          let bond = bond_is k (omega (arith, high, room step)) in (
            omega (arith, number),
            high,
            ap (λ (x : Bond). x.u) bond ∙ ap (λ (x : Ends). x.u) ends,
            ap (λ (x : Bond). x.v) bond ∙ ap (λ (x : Ends). x.v) ends
                ∙ ap₂ (neighbour kind step R C) (div-mul-add r C c b) (mod-mul-add r C c b)
                ∙ neighbour_is kind step R C r c,
          );
      each = λ k lo hi.
          let low : k - step_base kind step R C < rank (runs step) (R * C) = omega (arith, lo, hi, rank_total step, step_end_is kind step R C) in
          let w = at_rank (runs step) (k - step_base kind step R C) (R * C) low in
          let a : w.0 / C < R = div_below w.0 C R (some_cols kind R C size) w.1 in
          let b : w.0 % C < C = mod_below w.0 C (some_cols kind R C size) in
          let back : step_base kind step R C + (k - step_base kind step R C) ≡ k = omega arith in (
            w.0 / C,
            w.0 % C,
            a,
            b,
            w.2,
            number_by_rank step (w.0 / C) (w.0 % C) a b w.2
                ∙ ap (λ n. step_base kind step R C + n) (ap (rank (runs step)) (div-add-mod' w.0 C) ∙ w.3)
                ∙ back,
          );
    }

    -- each bond joins two different spins, with a coupling that may stand
    pub lattice_joined : length js ≡ bond_total kind R C → All (λ z. unsigned_abs z < 2 ^ 63) js → All (IsBond (R * C)) (lattice kind R C js).bonds
    lattice_joined long sizes = All-from_get_or (IsBond (R * C)) (lattice kind R C js).bonds no_bond each
      where
        of_step : (step : Step) (k : ℕ) → step_base kind step R C ≤ k → k < step_end kind step R C → IsBond (R * C) (bond_at (lattice kind R C js) k)
        of_step step k lo hi =
            let w = (step_laid step).each k lo hi in
            let laid = (step_laid step).at w.0 w.1 w.2 w.3 w.4 in
            let u : (bond_at (lattice kind R C js) k).u ≡ w.0 * C + w.1 = ap (λ n. (bond_at (lattice kind R C js) n).u) (sym w.5) ∙ laid.2 in
            let v : (bond_at (lattice kind R C js) k).v ≡ end_row step w.0 w.1 * C + end_col kind step C w.0 w.1 =
            ap (λ n. (bond_at (lattice kind R C js) n).v) (sym w.5) ∙ laid.3 in
            let grid = grid_step kind step R C size in
            let ends = grid.ends w.0 w.1 w.2 w.3 w.4 in
            let inside : k < length (ends_of kind R C) = omega (arith, hi, room step) in
            record {
              first_end = omega (arith, u, mul-add-lt w.0 C w.1 R w.2 w.3);
              second_end = omega (arith, v, mul-add-lt (end_row step w.0 w.1) C (end_col kind step C w.0 w.1) R ends.0 ends.1);
              ends_differ = λ same. let place =
                  same_from_place (end_row step w.0 w.1) (end_col kind step C w.0 w.1) w.0 w.1 C ends.1 w.3 (sym v ∙ sym same ∙ u) in
                  grid.moves w.0 w.1 w.3 place.0 place.1;
              size = subst (λ z. unsigned_abs z < 2 ^ 63) (sym (ap (λ (x : Bond). x.j) (bond_is k inside)))
                  (sizes k (pos 0) (omega (arith, inside, length-ends_of)));
            }

        each : (k : ℕ) → k < bond_count (lattice kind R C js) → IsBond (R * C) (bond_at (lattice kind R C js) k)
        each k l = elim (cases_lt k (step_end kind East R C)) [
          | inl a ↦ of_step East k (omega arith) a
          | inr a ↦ elim (cases_lt k (step_end kind South R C)) [
            | inl b ↦ of_step South k a b
            | inr b ↦ of_step SouthEast k b (omega (arith, l, bond_count_is, all_total kind R C))
          ]
        ]
