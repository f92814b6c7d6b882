-- Items that starts divide, one behind the other.
use Rattle.std.proofs.Common.{◌≡◌, ℕ, zero, suc, ◌+◌, ◌-◌, ◌<◌, ◌≤◌, Bool, false, None, Some, arith, List, [], ◌∷◌, ◌++◌, ap, sym, ◌∙◌, map, flat_map, length, take, inl, inr}
use Rattle.std.specs.Prelude.{nat_lt}
use Rattle.std.specs.List.{range_with_len}
use Rattle.std.proofs.lemmas.Bool.{cases_eq, le-ltb, lt-ltb}
use Rattle.std.proofs.lemmas.List.{append-nil, length-append, length-take-le, take-append-le, take_all}
use Rattle.std.proofs.lemmas.List.FromFn.{get_or-map-range_with_len, length-map-range_with_len}
use Rattle.std.proofs.lemmas.Grind.{flat_map-append, same_number_lists}
use Rattle.std.proofs.Math.Seq.{take-add, take-length}
use Rattle.sg_calls.specs.Crossing.{DividesEntries, entries_before, entries_of, entry, first_fall, IsJoined}
use Rattle.sg_draft.proofs.Finds.{find_range-none, find_range-some}

-- no start is above the number of all entries
pub below_last : (starts : List ℕ) (items entries gap k : ℕ) → DividesEntries starts items entries → k + gap ≡ items → entry starts k ≤ entries
below_last starts items entries zero k division e =
    let last : entry starts items ≡ entries = division.last in
    let same : k ≡ items = omega (arith, e) in
    rw same (omega (arith, last))
below_last starts items entries (suc gap) k division e =
    let less : k < items = omega (arith, e) in
    let rise = division.rises k less in
    let rest = below_last starts items entries gap (k + 1) division (omega (arith, e)) in
    omega (arith, rise, rest)

-- the first k items have the entries in front of start k
pub record IsFront {A : Type 0} (entries : A → List ℕ) (items : List A) (starts joined : List ℕ) (k : ℕ) : Type 0 where
  pub count : length items ≡ k
  pub begun : (j : ℕ) → j ≤ k → entry starts j ≡ entries_before entries items j
  pub bound : flat_map entries items ≡ take (entry starts k) joined

-- one item more
pub one_item : {A : Type 0} (entries : A → List ℕ) (items : List A) (starts joined : List ℕ) (n k : ℕ) (x : A)
    → DividesEntries starts n (length joined) → k < n → IsFront entries items starts joined k
    → entries x ≡ entries_of starts joined k
    → IsFront entries (items ++ x ∷ []) starts joined (k + 1)
one_item {A} entries items starts joined n k x division less front own = record {
  count = more;
  begun = λ j low. elim (cases_eq j (k + 1)) [
    | inl last ↦ rw last (rw whole (rw grown (sym (length-take-le (entry starts (k + 1)) joined within))))
    | inr other ↦
        let before : j ≤ length items = omega (arith, low, other, front.count) in
        let earlier : j ≤ k = omega (arith, low, other) in
        front.begun j earlier ∙ ap (λ (l : List A). length (flat_map entries l)) (sym (take-append-le j items (x ∷ []) before))
  ];
  bound = grown;
}
  where
    rise : entry starts k ≤ entry starts (k + 1)
    rise = division.rises k less

    within : entry starts (k + 1) ≤ length joined
    within = below_last starts n (length joined) (n - (k + 1)) (k + 1) division (omega (arith, less))

    more : length (items ++ x ∷ []) ≡ k + 1
    more = length-append items (x ∷ []) ∙ ap (λ m. m + 1) front.count

    whole : take (k + 1) (items ++ x ∷ []) ≡ items ++ x ∷ []
    whole = take_all (k + 1) (items ++ x ∷ []) (omega (arith, more))

    step : entry starts k + (entry starts (k + 1) - entry starts k) ≡ entry starts (k + 1)
    step = omega (arith, rise)

    grown : flat_map entries (items ++ x ∷ []) ≡ take (entry starts (k + 1)) joined
    grown = flat_map-append entries items (x ∷ [])
        ∙ ap (λ (l : List ℕ). flat_map entries items ++ l) (append-nil (entries x))
        ∙ ap (λ (l : List ℕ). l ++ entries x) front.bound
        ∙ ap (λ (l : List ℕ). take (entry starts k) joined ++ l) own
        ∙ sym (take-add (entry starts k) (entry starts (k + 1) - entry starts k) joined)
        ∙ ap (λ m. take m joined) step

-- all items
pub all_items : {A : Type 0} (entries : A → List ℕ) (items : List A) (starts joined : List ℕ) (n : ℕ) → DividesEntries starts n (length joined)
    → IsFront entries items starts joined n → IsJoined entries items starts joined
all_items {A} entries items starts joined n division front = record {
  begun = same_number_lists starts (map (entries_before entries items) (range_with_len 0 (length items + 1))) lengths (λ k inside.
      let low : k ≤ n = omega (arith, inside, division.count) in
      let here : k < length items + 1 = omega (arith, inside, division.count, front.count) in
      front.begun k low ∙ sym (get_or-map-range_with_len (entries_before entries items) 0 (length items + 1) k k 0 here (omega arith)));
  bound = sym (front.bound ∙ ap (λ m. take m joined) division.last ∙ take-length joined);
}
  where
    lengths : length starts ≡ length (map (entries_before entries items) (range_with_len 0 (length items + 1)))
    lengths = division.count ∙ ap (λ m. m + 1) (sym front.count)
        ∙ sym (length-map-range_with_len (entries_before entries items) 0 (length items + 1))

abbrev start_falls : List ℕ → ℕ → Bool
start_falls starts k = nat_lt (entry starts k) (entry starts (k - 1))

-- a start that is not less than the one in front of it
no_fall : (starts : List ℕ) (i : ℕ) → 1 ≤ i → entry starts (i - 1) ≤ entry starts (i - 1 + 1) → start_falls starts i ≡ false
no_fall starts i low rise =
    let same : i - 1 + 1 ≡ i = omega (arith, low) in
    le-ltb (entry starts i) (entry starts (i - 1)) (rw same at rise)

-- the first start that is less than the one in front of it
pub fall-some : (starts : List ℕ) (k : ℕ) → 1 ≤ k → k < length starts → ((i : ℕ) → i + 1 < k → entry starts i ≤ entry starts (i + 1))
    → entry starts k < entry starts (k - 1) → first_fall starts ≡ Some k
fall-some starts k low high rises fall =
    find_range-some (start_falls starts) 1 (length starts - 1) k low (omega (arith, low, high))
    (λ i l u. no_fall starts i l (rises (i - 1) (omega (arith, l, u))))
    (lt-ltb (entry starts k) (entry starts (k - 1)) fall)

-- starts that rise do not fall
pub fall-none : (starts : List ℕ) → ((i : ℕ) → i + 1 < length starts → entry starts i ≤ entry starts (i + 1)) → first_fall starts ≡ None
fall-none starts rises =
    find_range-none (start_falls starts) 1 (length starts - 1) (λ i l u. no_fall starts i l (rises (i - 1) (omega (arith, l, u))))
