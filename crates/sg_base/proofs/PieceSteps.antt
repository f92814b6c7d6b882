-- Pieces of a flat list, after one more start and after more items.
use Rattle.std.proofs.Common.{Some, ◌≡◌, ◌⊎◌, inl, inr, ℕ, ◌+◌, ◌-◌, ◌<◌, ◌≤◌, List, [], ◌∷◌, ◌++◌, length, get_or, map, refl, sym, ◌∙◌, ap, arith}
use Rattle.std.proofs.lemmas.Bool.{cases_lt, cases_eq}
use Rattle.std.proofs.lemmas.List.{drop-append-le, drop_all, get_or-set_other, get_or-set_same, get_or_append_left, get_or_past, get_or_push, length-append, get_or_default, length-drop, length-set, length_push, take-append-le, take_all}
use Rattle.std.specs.List.{range_with_len, slice_get}
use Rattle.std.proofs.lemmas.Option.{slice_get-get_or}
use Rattle.std.proofs.lemmas.List.FromFn.{fill_by_all, get_or-map-range_with_len, length-map-range_with_len, map-range_with_len_more}
use Rattle.sg_base.proofs.LastLists.{with_more-last}
use Rattle.sg_base.specs.Pieces.{AreStarts, piece, pieces, start_of, with_more}

-- two functions that agree below n make the same list
same_made : {X : Type 0} (f g : ℕ → X) (n : ℕ) (d : X) → ((k : ℕ) → k < n → f k ≡ g k) →
    map f (range_with_len 0 n) ≡ map g (range_with_len 0 n)
same_made f g n d same =
    fill_by_all g (map f (range_with_len 0 n)) n d (length-map-range_with_len f 0 n)
    (λ k l. get_or-map-range_with_len f 0 n k k d l (omega arith) ∙ same k l)

module _ {A : Type 0} where
  -- there are as many pieces as starts
  pub length-pieces : (items : List A) (starts : List ℕ) → length (pieces items starts) ≡ length starts
  length-pieces items starts = length-map-range_with_len (piece items starts) 0 (length starts)

  get_or-pieces : (items : List A) (starts : List ℕ) (i : ℕ) (d : List A) → i < length starts →
      get_or (pieces items starts) i d ≡ piece items starts i
  get_or-pieces items starts i d l = get_or-map-range_with_len (piece items starts) 0 (length starts) i i d l (omega arith)

  -- the list of pieces has piece i at place i
  pub slice_get-pieces : (items : List A) (starts : List ℕ) (i : ℕ) → i < length starts → slice_get (pieces items starts) i ≡ Some (piece items starts i)
  slice_get-pieces items starts i l =
      slice_get-get_or (pieces items starts) i [] (omega (arith, length-pieces items starts)) ∙ ap Some (get_or-pieces items starts i [] l)

  start_past : (items : List A) (starts : List ℕ) (i : ℕ) → length starts ≤ i → start_of items starts i ≡ length items
  start_past items starts i l = get_or_past starts i (length items) l

  -- one more start, at the end of the items
  start_opened : (items : List A) (starts : List ℕ) (i : ℕ) → start_of items (starts ++ length items ∷ []) i ≡ start_of items starts i
  start_opened items starts i = by_case (cases_lt i (length starts)) (cases_eq (length starts) i)
    where
      by_case : (i < length starts) ⊎ (length starts ≤ i) → (length starts ≡ i) ⊎ (length starts ≡ i → ⊥)
          → start_of items (starts ++ length items ∷ []) i ≡ start_of items starts i
      by_case (inl l) e = get_or_append_left starts (length items ∷ []) (length items) i l
      by_case (inr l) (inl e) = get_or_push starts (length items) (length items) i e ∙ sym (start_past items starts i l)
      by_case (inr l) (inr e) =
          grind (arith, start_past, length_push, e, l)

  piece_opened : (items : List A) (starts : List ℕ) (i : ℕ) → piece items (starts ++ length items ∷ []) i ≡ piece items starts i
  piece_opened items starts i =
      simp start_opened refl

  piece_past : (items : List A) (starts : List ℕ) (i : ℕ) → length starts ≤ i → piece items starts i ≡ []
  piece_past items starts i l =
      grind (arith, start_past, drop_all, take_all, l)

  -- an empty list more
  pub pieces_opened : (items : List A) (starts : List ℕ) → pieces items (starts ++ length items ∷ []) ≡ pieces items starts ++ [] ∷ []
  pieces_opened items starts =
      ap (λ (n : ℕ). map (piece items (starts ++ length items ∷ [])) (range_with_len 0 n)) (length_push starts (length items))
      ∙ same_made (piece items (starts ++ length items ∷ [])) (piece items starts) (length starts + 1) [] (λ k l. piece_opened items starts k)
      ∙ map-range_with_len_more (piece items starts) 0 (length starts) (length starts) (omega arith)
      ∙ ap (λ (xs : List A). pieces items starts ++ xs ∷ []) (piece_past items starts (length starts) (omega arith))

  -- a start more at the end is one that may stand
  pub starts_opened : (items : List A) (starts : List ℕ) → AreStarts items starts → AreStarts items (starts ++ length items ∷ [])
  starts_opened items starts good = grind (arith, start_opened, good.inside, good.rising)

  -- more items
  start_kept : (items more : List A) (starts : List ℕ) (i : ℕ) → i < length starts → start_of (items ++ more) starts i ≡ start_of items starts i
  start_kept items more starts i l = get_or_default starts i (length (items ++ more)) (length items) l

  -- starts stay such when items are added
  pub starts_filled : (items more : List A) (starts : List ℕ) → AreStarts items starts → AreStarts (items ++ more) starts
  starts_filled items more starts good = record { inside = inside; rising = λ i. by_case i (cases_lt (i + 1) (length starts)) }
    where
      inside : (i : ℕ) → start_of (items ++ more) starts i ≤ length (items ++ more)
      inside i = at_case (cases_lt i (length starts))
        where
          at_case : (i < length starts) ⊎ (length starts ≤ i) → start_of (items ++ more) starts i ≤ length (items ++ more)
          at_case (inl l) = omega (arith, start_kept items more starts i l, good.inside i, length-append items more)
          at_case (inr l) = omega (arith, start_past (items ++ more) starts i l)

      by_case : (i : ℕ) → (i + 1 < length starts) ⊎ (length starts ≤ i + 1) →
          start_of (items ++ more) starts i ≤ start_of (items ++ more) starts (i + 1)
      by_case i (inl l) = omega (arith, start_kept items more starts i (omega arith), start_kept items more starts (i + 1) l, good.rising i)
      by_case i (inr l) = omega (arith, inside i, start_past (items ++ more) starts (i + 1) l)

  piece_kept : (items more : List A) (starts : List ℕ) (i : ℕ) → AreStarts items starts → i + 1 < length starts
      → piece (items ++ more) starts i ≡ piece items starts i
  piece_kept items more starts i good l =
      grind (arith, good.rising i, start_kept, drop-append-le, take-append-le, length-drop)

  piece_last : (items more : List A) (starts : List ℕ) (i : ℕ) → AreStarts items starts → i + 1 ≡ length starts
      → piece (items ++ more) starts i ≡ piece items starts i ++ more
  piece_last items more starts i good e =
      grind (arith, start_kept, start_past, drop-append-le, take_all, length-append, length-drop, good.inside)

  -- items that are added go to the last piece
  pub pieces_filled : (items more : List A) (starts : List ℕ) → AreStarts items starts → 0 < length starts
      → pieces (items ++ more) starts ≡ with_more (pieces items starts) more
  pieces_filled items more starts good some =
      sym (fill_by_all (piece (items ++ more) starts) (with_more (pieces items starts) more) (length starts) []
      (length-set (pieces items starts) last (get_or (pieces items starts) last [] ++ more) ∙ length-pieces items starts)
      (λ k l. by_case k l (cases_eq k (length starts - 1))))
    where
      last : ℕ
      last = length (pieces items starts) - 1

      last_is : length (pieces items starts) - 1 ≡ length starts - 1
      last_is = ap (λ (n : ℕ). n - 1) (length-pieces items starts)

      by_case : (k : ℕ) → k < length starts → (k ≡ length starts - 1) ⊎ (k ≡ length starts - 1 → ⊥)
          → get_or (with_more (pieces items starts) more) k [] ≡ piece (items ++ more) starts k
      by_case k l (inl e) =
          grind (arith, last_is, get_or-set_same, length-pieces, get_or-pieces, piece_last, e, l)
      by_case k l (inr e) =
          grind (arith, get_or-set_other, last, last_is, get_or-pieces, piece_kept, e, l)

  -- a list more
  pub pieces_pushed : (items more : List A) (starts : List ℕ) → AreStarts items starts
      → pieces (items ++ more) (starts ++ length items ∷ []) ≡ pieces items starts ++ more ∷ []
  pieces_pushed items more starts good =
      grind (arith, pieces_filled, starts_opened, length_push, pieces_opened, with_more-last, good)
