-- One loop more among the rows.
use Rattle.std.proofs.Common.{◌≡◌, ℕ, ◌+◌, ◌<◌, arith, List, [], ◌∷◌, ◌++◌, ap, sym, ◌∙◌, map, flat_map, length, take, get_or}
use Rattle.std.specs.List.{range_with_len}
use Rattle.std.proofs.lemmas.List.{append-nil, take_more}
use Rattle.std.proofs.lemmas.Grind.{flat_map-append}
use Rattle.std.proofs.lemmas.List.FromFn.{map-range_with_len_more}
use Rattle.sg_calls.specs.Crossing.{entries_before}

-- one item more of those that a function makes of the numbers in turn
pub made-more : {X : Type 0} (made : ℕ → X) (old new : List X) (x : X) (k : ℕ) → old ≡ map made (range_with_len 0 k) → new ≡ old ++ x ∷ []
    → x ≡ made k → new ≡ map made (range_with_len 0 (k + 1))
made-more made old new x k so_far added is = rw (added, so_far, is) (sym (map-range_with_len_more made 0 k k (omega arith)))

module _ {A : Type 0} (entries : A → List ℕ) where
  -- the start of one item more
  pub starts_more : (items : List A) (starts joined : List ℕ) (n : ℕ) → starts ≡ map (entries_before entries items) (range_with_len 0 n)
      → joined ≡ flat_map entries (take n items)
      → starts ++ length joined ∷ [] ≡ map (entries_before entries items) (range_with_len 0 (n + 1))
  starts_more items starts joined n begun bound =
      ap (λ l. l ++ length joined ∷ []) begun
      ∙ ap (λ (l : List ℕ). map (entries_before entries items) (range_with_len 0 n) ++ length l ∷ []) bound
      ∙ sym (map-range_with_len_more (entries_before entries items) 0 n n (omega arith))

  -- the entries of one item more
  pub entries_more : (items : List A) (joined : List ℕ) (n : ℕ) (d : A) → n < length items → joined ≡ flat_map entries (take n items)
      → joined ++ entries (get_or items n d) ≡ flat_map entries (take (n + 1) items)
  entries_more items joined n d within bound =
      let last : flat_map entries (get_or items n d ∷ []) ≡ entries (get_or items n d) = append-nil (entries (get_or items n d)) in
      ap (λ l. l ++ entries (get_or items n d)) bound
      ∙ sym (ap (λ (l : List A). flat_map entries l) (take_more items n d within) ∙ flat_map-append entries (take n items) (get_or items n d ∷ [])
      ∙ ap (λ (l : List ℕ). flat_map entries (take n items) ++ l) last)
