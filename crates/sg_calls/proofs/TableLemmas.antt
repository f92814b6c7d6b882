-- The tables of an instance as the numbers of a graph: they give it.
use Rattle.std.proofs.Common.{◌≡◌, ℕ, zero, suc, ◌+◌, ◌-◌, ◌*◌, ◌<◌, ◌≤◌, ◌^◌, ℤ, pos, true, None, arith, refl, ap, sym, ◌∙◌, List, [], ◌∷◌, ◌++◌, All}
use Rattle.std.proofs.Common.{flat_map, length, take, drop, get_or, slice_index_or, unsigned_abs, eq-eqb, le-leb, le-ltb, lt-ltb, ne_eqb, append-nil}
use Rattle.std.proofs.Common.{length-append}
use Rattle.std.proofs.Math.Seq.{take-append_seam, drop-append-add, take-length}
use Rattle.std.proofs.lemmas.Grind.{flat_map-append}
use Rattle.std.proofs.lemmas.List.{take_more}
use Rattle.std.proofs.lemmas.List.Elements.{All-get_or}
use Rattle.std.proofs.lemmas.List.FromFn.{fill_by_all, get_or-map-range_with_len, length-map-range_with_len}
use Rattle.sg_model.specs.declared.bond.Bond.{Bond}
use Rattle.sg_model.specs.Ising.{Ising, IsBond, bond_count}
use Rattle.sg_model.specs.WellFormed.{IsInstance}
use Rattle.sg_lattice.specs.declared.kind.Kind.{Kind}
use Rattle.sg_lattice.specs.Tables.{bond_ends, coupled_bond, ends_of, lattice}
use Rattle.sg_draft.specs.declared.limits.Limits.{Limits}
use Rattle.sg_draft.specs.Bonds.{is_among, is_self_bond, listed_bond, self_fault}
use Rattle.sg_draft.proofs.Finds.{find_range-none}
use Rattle.sg_calls.specs.Crossing.{DividesEntries, entries_before, entries_of, entry, IsJoined, wrong_start}
use Rattle.sg_calls.specs.Graphs.{bond_by, bonds_by, lists_by, numbers, wrong_bond}
use Rattle.sg_calls.specs.Lattices.{AreTables, table_lists}
use Rattle.sg_calls.proofs.FirstLemmas.{fails-none}
use Rattle.sg_calls.proofs.GraphLemmas.{front_tests, graph-none, graph-says}
use Rattle.sg_calls.proofs.StartLemmas.{fall-none}

abbrev two : Bond → List ℕ
two b = b.u ∷ b.v ∷ []

abbrev own : List ℕ → List ℕ
own list = list

abbrev no_bond : Bond
no_bond = record { u = 0; v = 0; j = pos 0 }

-- two ends for each bond are twice as many
ends-count : (bonds : List Bond) → length (flat_map two bonds) ≡ 2 * length bonds
ends-count [] = refl
ends-count (b ∷ bonds) = let rest = ends-count bonds in omega (arith, rest)

-- the ends of bond k stand at the places 2k and 2k + 1
first-end : (bonds : List Bond) (k : ℕ) → k < length bonds → entry (flat_map two bonds) (2 * k) ≡ (get_or bonds k no_bond).u
first-end [] k less = absurd (omega (arith, less))
first-end (b ∷ bonds) zero less = refl
first-end (b ∷ bonds) (suc k) less =
    let step : 2 * suc k ≡ suc (suc (2 * k)) = omega arith in
    rw step (first-end bonds k (omega (arith, less)))

second-end : (bonds : List Bond) (k : ℕ) → k < length bonds → entry (flat_map two bonds) (2 * k + 1) ≡ (get_or bonds k no_bond).v
second-end [] k less = absurd (omega (arith, less))
second-end (b ∷ bonds) zero less = refl
second-end (b ∷ bonds) (suc k) less =
    let step : 2 * suc k + 1 ≡ suc (suc (2 * k + 1)) = omega arith in
    rw step (second-end bonds k (omega (arith, less)))

-- a bond of its parts
same-bond : (u u' v v' : ℕ) (j j' : ℤ) → u ≡ u' → v ≡ v' → j ≡ j'
    → (let b : Bond = record { u = u; v = v; j = j } in b) ≡ record { u = u'; v = v'; j = j' }
same-bond u u' v v' j j' first second third = rw (first, second, third) refl

-- the couplings of some bonds, in their order
pub record AreCouplings (bonds : List Bond) (couplings : List ℤ) : Type 0 where
  pub count : length couplings ≡ length bonds
  pub each : (k : ℕ) → k < length bonds → (get_or bonds k no_bond).j ≡ slice_index_or couplings k (pos 0)

-- a bond by its ends and its coupling
bond-back : (bonds : List Bond) (js : List ℤ) (k : ℕ) → AreCouplings bonds js → k < length bonds
    → bond_by (flat_map two bonds) js k ≡ get_or bonds k no_bond
bond-back bonds js k coupled low =
    let b = get_or bonds k no_bond in
    same-bond (entry (flat_map two bonds) (2 * k)) b.u (entry (flat_map two bonds) (2 * k + 1)) b.v (slice_index_or js k (pos 0)) b.j
    (first-end bonds k low) (second-end bonds k low) (sym (coupled.each k low))

bonds-back : (bonds : List Bond) (js : List ℤ) → AreCouplings bonds js → bonds_by (flat_map two bonds) js ≡ bonds
bonds-back bonds js coupled = sym (fill_by_all (bond_by (flat_map two bonds) js) bonds (length js) no_bond (sym coupled.count)
    (λ k inside. sym (bond-back bonds js k coupled (omega (arith, inside, coupled.count)))))

-- the couplings of a lattice
pub lattice-couplings : (kind : Kind) (R C : ℕ) (js : List ℤ) → length js ≡ bond_count (lattice kind R C js)
    → AreCouplings (lattice kind R C js).bonds js
lattice-couplings kind R C js count =
    let f : ℕ → Bond = λ k. coupled_bond (bond_ends (ends_of kind R C) k) (slice_index_or js k (pos 0)) in
    let long = length-map-range_with_len f 0 (length (ends_of kind R C)) in
    record {
      count = count;
      each = λ k inside. ap (λ (b : Bond). b.j)
          (get_or-map-range_with_len f 0 (length (ends_of kind R C)) k k no_bond (omega (arith, inside, long)) (omega arith));
    }

-- the starts of lists
starts-at : (items : List (List ℕ)) (starts joined : List ℕ) (k : ℕ) → IsJoined own items starts joined → k ≤ length items
    → entry starts k ≡ entries_before own items k
starts-at items starts joined k cut low =
    ap (λ l. entry l k) cut.begun
    ∙ get_or-map-range_with_len (entries_before own items) 0 (length items + 1) k k 0 (omega (arith, low)) (omega arith)

-- they divide the entries
divides : (items : List (List ℕ)) (starts joined : List ℕ) → IsJoined own items starts joined → DividesEntries starts (length items) (length joined)
divides items starts joined cut = record {
  count = ap length cut.begun ∙ length-map-range_with_len (entries_before own items) 0 (length items + 1);
  first = starts-at items starts joined 0 cut (omega arith);
  rises = λ k inside.
      let here = starts-at items starts joined k cut (omega (arith, inside)) in
      let behind = starts-at items starts joined (k + 1) cut (omega (arith, inside)) in
      let more = ap (λ (l : List (List ℕ)). length (flat_map own l)) (take_more items k [] inside)
      ∙ ap length (flat_map-append own (take k items) (get_or items k [] ∷ []))
      ∙ length-append (flat_map own (take k items)) (flat_map own (get_or items k [] ∷ [])) in
      omega (arith, here, behind, more);
  last = starts-at items starts joined (length items) cut (omega arith)
      ∙ ap (λ (l : List (List ℕ)). length (flat_map own l)) (take-length items) ∙ ap length (sym cut.bound);
}

-- list k stands between its start and the next one
piece : (xs : List (List ℕ)) (k : ℕ) → k < length xs
    → take (entries_before own xs (k + 1) - entries_before own xs k) (drop (entries_before own xs k) (flat_map own xs)) ≡ get_or xs k []
piece [] k less = absurd (omega (arith, less))
piece (x ∷ xs) zero less =
    let width : length (x ++ []) - 0 ≡ length x = omega (arith, ap length (append-nil x)) in
    ap (λ m. take m (x ++ flat_map own xs)) width ∙ take-append_seam x (flat_map own xs)
piece (x ∷ xs) (suc k) less =
    let at = entries_before own (x ∷ xs) in
    let all = flat_map own xs in
    let start : at (suc k) ≡ length x + entries_before own xs k = length-append x (flat_map own (take k xs)) in
    let step : suc k + 1 ≡ suc (k + 1) = omega arith in
    let next : at (suc k + 1) ≡ length x + entries_before own xs (k + 1) = ap at step ∙ length-append x (flat_map own (take (k + 1) xs)) in
    let width : at (suc k + 1) - at (suc k) ≡ entries_before own xs (k + 1) - entries_before own xs k = omega (arith, start, next) in
    ap (λ m. take m (drop (at (suc k)) (x ++ all))) width
    ∙ ap (λ m. take (entries_before own xs (k + 1) - entries_before own xs k) (drop m (x ++ all))) start
    ∙ ap (take (entries_before own xs (k + 1) - entries_before own xs k)) (drop-append-add x all (entries_before own xs k))
    ∙ piece xs k (omega (arith, less))

lists-back : (xs : List (List ℕ)) (starts joined : List ℕ) → IsJoined own xs starts joined → lists_by (length xs) starts joined ≡ xs
lists-back xs starts joined cut = sym (fill_by_all (entries_of starts joined) xs (length xs) [] refl (λ k low.
    let here = starts-at xs starts joined k cut (omega (arith, low)) in
    let next = starts-at xs starts joined (k + 1) cut (omega (arith, low)) in
    sym (rw (here, next, cut.bound) (piece xs k low))))

-- an instance of its parts
same-parts : (n : ℕ) (bonds bonds' : List Bond) (lists lists' : List (List ℕ)) (seam : List ℕ) → bonds ≡ bonds' → lists ≡ lists'
    → (let i : Ising = record { n = n; bonds = bonds; rotation = lists; seam = seam } in i)
    ≡ record { n = n; bonds = bonds'; rotation = lists'; seam = seam }
same-parts n bonds bonds' lists lists' seam e f = rw (e, f) refl

-- starts that divide the entries are not wrong
starts-pass : (starts : List ℕ) (items entries : ℕ) → DividesEntries starts items entries → wrong_start starts items entries ≡ None
starts-pass starts items entries division =
    rw (
      eq-eqb (length starts) (items + 1) division.count,
      eq-eqb (entry starts 0) 0 division.first,
      fall-none starts (λ i inside. division.rises i (omega (arith, inside, division.count))),
      eq-eqb (entry starts items) entries division.last,
    ) refl

-- a bond of n spins is among them
among : (n : ℕ) (b : Bond) → IsBond n b → is_among n b ≡ true
among n b is = rw (lt-ltb b.u n is.first_end, lt-ltb b.v n is.second_end, lt-ltb (unsigned_abs b.j) (2 ^ 63) is.size) refl

-- bonds of n spins pass their tests
bonds-pass : (n : ℕ) (bonds : List Bond) (js : List ℤ) → AreCouplings bonds js → All (IsBond n) bonds → wrong_bond n (flat_map two bonds) js ≡ None
bonds-pass n bonds js coupled joined =
    let ends = flat_map two bonds in
    let count : length ends ≡ 2 * length js = ends-count bonds ∙ ap (λ m. 2 * m) (sym coupled.count) in
    rw (eq-eqb (length ends) (2 * length js) count) (fails-none (λ k. is_among n (bond_by ends js k)) (length js) (λ k inside.
    let low : k < length bonds = omega (arith, inside, coupled.count) in
    ap (λ (b : Bond). is_among n b) (bond-back bonds js k coupled low)
    ∙ among n (get_or bonds k no_bond) (All-get_or (IsBond n) bonds k no_bond low joined)))

no-self : (n : ℕ) (bonds : List Bond) → All (IsBond n) bonds → self_fault bonds ≡ None
no-self n bonds joined =
    rw (find_range-none (λ k. is_self_bond (listed_bond bonds k)) 0 (length bonds) (λ k low high.
    let is : IsBond n (get_or bonds k no_bond) = All-get_or (IsBond n) bonds k no_bond (omega (arith, high)) joined in
    ne_eqb (get_or bonds k no_bond).u (get_or bonds k no_bond).v is.ends_differ)) refl

-- the numbers of an instance within the limits pass theirs
numbers-pass : (most : Limits) (n m : ℕ) → 1 ≤ n → n ≤ most.spins → m ≤ most.bonds
    → (ends : List ℕ) (js : List ℤ) (starts darts seam : List ℕ)
    → length js ≡ m → wrong_bond n ends js ≡ None → wrong_start starts n (length darts) ≡ None
    → front_tests most (numbers n ends js starts darts seam) ≡ None
numbers-pass most n m some few small ends js starts darts seam count good begun =
    rw (good, begun, le-leb 1 n some, le-ltb most.spins n few, le-ltb most.bonds (length js) (omega (arith, small, count))) refl

-- the tables of an instance
pub are-tables : (inst : Ising) (js : List ℤ) (starts darts : List ℕ) → IsInstance inst → AreCouplings inst.bonds js
    → IsJoined own inst.rotation starts darts → AreTables (table_lists (flat_map two inst.bonds) starts darts inst.seam) js inst
are-tables inst js starts darts is coupled cut = λ most few small.
    let ends = flat_map two inst.bonds in
    let g = numbers inst.n ends js starts darts inst.seam in
    let back = bonds-back inst.bonds js coupled in
    let lists : lists_by inst.n starts darts ≡ inst.rotation = rw is.draft.lists at (lists-back inst.rotation starts darts cut) in
    let division : DividesEntries starts inst.n (length darts) = rw is.draft.lists at (divides inst.rotation starts darts cut) in
    let good = bonds-pass inst.n inst.bonds js coupled is.draft.joined in
    let begun = starts-pass starts inst.n (length darts) division in
    let front = numbers-pass most inst.n (bond_count inst) is.draft.has_spin few small ends js starts darts inst.seam coupled.count good begun in
    record {
      passes = graph-none most g front good ∙ ap self_fault back ∙ no-self inst.n inst.bonds is.draft.joined;
      value = sym (graph-says g good begun
          ∙ same-parts inst.n (bonds_by ends js) inst.bonds (lists_by inst.n starts darts) inst.rotation inst.seam back lists);
      instance = is;
    }
