-- One number more: a choice below it, and a mark turned.
use Rattle.std.proofs.lemmas.Grind.{common_steps}
use Rattle.std.proofs.Common.{◌≡◌, ℕ, zero, suc, ◌+◌, ◌<◌, Bool, true, false, cond, not, eqb, List, [], ◌∷◌, ◌++◌, filter, set, sym, ◌∙◌, ap, ap₂, refl, arith, length, get_or, take}
use Rattle.std.specs.List.{range_with_len}
use Rattle.std.proofs.lemmas.List.{append-nil, map-id}
use Rattle.std.proofs.lemmas.List.FromFn.{filter_of_map_range_with_len_more}
use Rattle.sg_base.specs.Parity.{parity_by, xor}
use Rattle.sg_base.specs.Sets.{chosen_below, is_marked}
use Rattle.sg_base.proofs.ParityLaws.{parity_by-append}

-- a choice below one number more
pub chosen_below_more : (p : ℕ → Bool) (k : ℕ) → chosen_below p (k + 1) ≡ chosen_below p k ++ cond (p k) (k ∷ []) []
chosen_below_more p k =
    ap (filter p) (sym (map-id (range_with_len 0 (k + 1))))
    ∙ filter_of_map_range_with_len_more p (λ (x : ℕ). x) 0 k k (omega arith)
    ∙ ap (λ xs. filter p xs ++ cond (p k) (k ∷ []) []) (map-id (range_with_len 0 k))

-- the number passes, or it does not
pub chosen_below_yes : (p : ℕ → Bool) (k : ℕ) → p k ≡ true → chosen_below p (k + 1) ≡ chosen_below p k ++ k ∷ []
chosen_below_yes p k h = chosen_below_more p k ∙ ap (λ b. chosen_below p k ++ cond b (k ∷ []) []) h

-- a number that does not pass adds nothing to the choice
pub chosen_below_no : (p : ℕ → Bool) (k : ℕ) → p k ≡ false → chosen_below p (k + 1) ≡ chosen_below p k
chosen_below_no p k h = chosen_below_more p k ∙ ap (λ b. chosen_below p k ++ cond b (k ∷ []) []) h ∙ append-nil (chosen_below p k)

-- two tests that agree below n choose the same numbers
pub chosen_below_same : (p q : ℕ → Bool) (n : ℕ) → ((k : ℕ) → k < n → p k ≡ q k) → chosen_below p n ≡ chosen_below q n
chosen_below_same p q zero h = refl
chosen_below_same p q (suc n) h =
    let e : suc n ≡ n + 1 = omega arith in
    ap (chosen_below p) e ∙ chosen_below_more p n
    ∙ ap₂ (λ (xs : List ℕ) (b : Bool). xs ++ cond b (n ∷ []) []) (chosen_below_same p q n (λ k l. h k (omega arith))) (h n (omega arith))
    ∙ sym (ap (chosen_below q) e ∙ chosen_below_more q n)

-- the mark at the next place of the list is turned
pub is_marked_turned : (old now : List Bool) (list : List ℕ) (i j : ℕ) → j < length list → get_or list j 0 < length now →
    is_marked now i ≡ xor (is_marked old i) (parity_by (λ k. eqb k i) (take j list)) →
    is_marked (set now (get_or list j 0) (not (is_marked now (get_or list j 0)))) i ≡ xor (is_marked old i) (parity_by (λ k. eqb k i) (take (j + 1) list))
is_marked_turned old now list i j low fits was = grind (arith, common_steps, parity_by-append)
