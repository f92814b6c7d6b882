-- A stream told draw by draw, and the list of those found so far.
use Rattle.std.proofs.Common.{◌≡◌, ◌+◌, ℕ, ℤ, List, ◌∷◌, [], ◌++◌, ap, ◌∙◌, sym, append_assoc, arith, refl, length, append-nil, length-append}
use Rattle.sg_laws.specs.Stream.{Draws}

-- one more draw at the end of those found
pub one_more : {A : Type 0} (old new last : ℕ → List A) (found grown : List A) (x : A) (k n : ℕ)
    → ((c : ℕ) → old (k + c) ≡ found ++ last c) → ((c : ℕ) → last (c + 1) ≡ x ∷ new c) → grown ≡ found ++ x ∷ []
    → old (k + 1 + n) ≡ grown ++ new n
one_more old new last found grown x k n h step e =
    rw e (ap old (let e : k + 1 + n ≡ k + (n + 1) = omega arith in e) ∙ h (n + 1) ∙ ap (λ s. found ++ s) (step n) ∙ sym (append_assoc found (x ∷ []) (new n)))

-- the list of no items
none_left : {A : Type 0} (s : List A) → length s ≡ 0 → s ≡ []
none_left [] e = refl
none_left (x ∷ s) e = cc

-- one draw fewer is left
pub one_fewer : {A : Type 0} (new last : ℕ → List A) (x : A) (n : ℕ)
    → ((c : ℕ) → length (last c) ≡ c) → ((c : ℕ) → last (c + 1) ≡ x ∷ new c) → length (new n) ≡ n
one_fewer new last x n h step =
    let e : length (x ∷ new n) ≡ n + 1 = ap length (sym (step n)) ∙ h (n + 1) in omega (arith, e)

-- all draws that were asked for are found
pub all_found : {A : Type 0} (old last : ℕ → List A) (found : List A) (k : ℕ)
    → ((c : ℕ) → old (k + c) ≡ found ++ last c) → ((c : ℕ) → length (last c) ≡ c) → old k ≡ found
all_found old last found k h sized =
    ap old (let e : k ≡ k + 0 = omega arith in e) ∙ h 0 ∙ ap (λ s. found ++ s) (none_left (last 0) (sized 0)) ∙ append-nil found

-- the draws that were asked for are made
pub all_made : (old last : ℕ → List ℤ) (found : List ℤ) (k : ℕ)
    → ((c : ℕ) → old (k + c) ≡ found ++ last c) → ((c : ℕ) → length (last c) ≡ c) → length found ≡ k → Draws k old last
all_made old last found k h sized count =
    let first = all_found old last found k h sized in
    record { counted = ap length first ∙ count; goes_on = λ c. h c ∙ ap (λ s. s ++ last c) (sym first) }

-- no draw is made
pub none_made : (old : ℕ → List ℤ) → ((c : ℕ) → length (old c) ≡ c) → Draws 0 old old
none_made old sized = all_made old old [] 0 (λ c. ap old (let e : 0 + c ≡ c = omega arith in e)) sized refl

-- some draws are made, and then others
pub made_on : (j k : ℕ) (old mid new : ℕ → List ℤ) → Draws j old mid → Draws k mid new → Draws (j + k) old new
made_on j k old mid new first second = record {
  counted =
      let count = ap length (first.goes_on k) ∙ length-append (old j) (mid k) in
      let before = first.counted in
      let behind = second.counted in
      omega (arith, count, before, behind);
  goes_on = λ c.
      ap old (let e : j + k + c ≡ j + (k + c) = omega arith in e) ∙ first.goes_on (k + c) ∙ ap (λ s. old j ++ s) (second.goes_on c)
      ∙ sym (append_assoc (old j) (mid k) (new c)) ∙ ap (λ s. s ++ new c) (sym (first.goes_on k));
}

-- the same stream under another name
pub made_same : (k : ℕ) (f g new : ℕ → List ℤ) → ((c : ℕ) → f c ≡ g c) → Draws k f new → Draws k g new
made_same k f g new same h = record {
  counted = ap length (sym (same k)) ∙ h.counted;
  goes_on = λ c. sym (same (k + c)) ∙ h.goes_on c ∙ ap (λ s. s ++ new c) (same k);
}
