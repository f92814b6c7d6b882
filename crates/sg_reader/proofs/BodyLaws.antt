-- The records of an instance, one more at a time.
use Rattle.std.proofs.Common.{◌≡◌, ℕ, ℤ, pos, zero, suc, ◌+◌, ◌-◌, ◌<◌, ◌≤◌, ◌^◌, Bool, true, false, List, [], ◌∷◌, ◌++◌, length, map, get_or, Option, Some, None, refl, sym, ap, ◌∙◌, arith}
use Rattle.std.specs.Prelude.{All, cond, filter, find, is_some, not, option_map, unsigned_abs, unwrap_or}
use Rattle.std.specs.List.{flat_map, range_with_len}
use Rattle.std.specs.Option.{option_or}
use Rattle.std.specs.Str.{bytes_eq}
use Rattle.std.proofs.lemmas.Bool.{false≢true}
use Rattle.std.proofs.lemmas.Grind.{flat_map-append}
use Rattle.std.proofs.lemmas.List.{append-nil, map-append}
use Rattle.std.proofs.lemmas.List.Elements.{All-append, All-cons, All-nil, filter-append}
use Rattle.std.proofs.lemmas.List.Folds.{find-append}
use Rattle.std.proofs.lemmas.Option.{none-some}
use Rattle.std.proofs.lemmas.Slice.Eq.{bytes_eq-Decides}
use Rattle.sg_reader.specs.Kept.{Kept, begins, field}
use Rattle.sg_reader.specs.Tests.{number_of, number_in}
use Rattle.sg_reader.specs.Body.{couplings_in, says_seam, numbers_from, sole_list_fault, seam_in, sizes_from}
use Rattle.sg_reader.proofs.NumberLaws.{size-of_number}

-- a record that begins with a word
pub word-of : (r : Kept) (w : List ℕ) → begins w r ≡ true → field r 0 ≡ w
word-of r w h = (bytes_eq-Decides (field r 0) w).0 h

-- begins with no other
pub other-word : (r : Kept) (w v : List ℕ) → begins w r ≡ true → bytes_eq w v ≡ false → begins v r ≡ false
other-word r w v h other = ap (λ (u : List ℕ). bytes_eq u v) (word-of r w h) ∙ other

-- a record that begins with a word has a field
pub word-inside : (w : List ℕ) → bytes_eq [] w ≡ false → (r : Kept) → begins w r ≡ true → 1 ≤ length r.fields
word-inside w some r h = go r.fields h
  where
    go : (fields : List (List ℕ)) → bytes_eq (get_or fields 0 []) w ≡ true → 1 ≤ length fields
    go [] e = absurd (false≢true (sym some ∙ e))
    go (f ∷ fs) e = omega arith

-- what the first record that passes a test gives, if there is one
module _ {X : Type 0} (p : Kept → Bool) (f : Kept → X) where
  -- a record that passes behind a body where none does
  pub given-first : (body : List Kept) (r : Kept) → is_some (option_map f (find p body)) ≡ false → p r ≡ true
      → option_map f (find p (body ++ r ∷ [])) ≡ Some (f r)
  given-first body r none is = rw (find-append p body (r ∷ [])) (rw is (by (find p body) none))
    where
      by : (o : Option Kept) → is_some (option_map f o) ≡ false → option_map f (option_or o (Some r)) ≡ Some (f r)
      by None e = refl
      by (Some q) e = absurd (false≢true (sym e))

  -- a record that does not pass gives nothing
  pub given-other : (body : List Kept) (r : Kept) → p r ≡ false → option_map f (find p (body ++ r ∷ [])) ≡ option_map f (find p body)
  given-other body r other = rw (find-append p body (r ∷ [])) (rw other (by (find p body)))
    where
      by : (o : Option Kept) → option_map f (option_or o None) ≡ option_map f o
      by None = refl
      by (Some q) = refl

  -- what all records that pass give, with one more record
  said-with : (body : List Kept) (r : Kept) (b : Bool) → p r ≡ b → map f (filter p (body ++ r ∷ [])) ≡ map f (filter p body) ++ map f (cond b (r ∷ []) [])
  said-with body r b is = ap (map f) (filter-append p body (r ∷ [])) ∙ map-append f (filter p body) (filter p (r ∷ []))
      ∙ ap (λ (c : Bool). map f (filter p body) ++ map f (cond c (r ∷ []) [])) is

  -- one that passes
  pub said-more : (body : List Kept) (r : Kept) → p r ≡ true → map f (filter p (body ++ r ∷ [])) ≡ map f (filter p body) ++ f r ∷ []
  said-more body r is = said-with body r true is

  -- one that does not
  pub said-other : (body : List Kept) (r : Kept) → p r ≡ false → map f (filter p (body ++ r ∷ [])) ≡ map f (filter p body)
  said-other body r other = said-with body r false other ∙ append-nil (map f (filter p body))

-- a seam behind a body without one
pub seam_in-first : (body : List Kept) (r : Kept) → is_some (seam_in body) ≡ false → says_seam r ≡ true → seam_in (body ++ r ∷ []) ≡ Some (sizes_from r 1)
unfolding seam_in
seam_in-first body r none is = given-first says_seam (λ q. sizes_from q 1) body r none is

-- a record that is no `seam` gives none
pub seam_in-other : (body : List Kept) (r : Kept) → says_seam r ≡ false → seam_in (body ++ r ∷ []) ≡ seam_in body
unfolding seam_in
seam_in-other body r other = given-other says_seam (λ q. sizes_from q 1) body r other

-- the couplings of one more record
pub couplings_in-more : (body : List Kept) (r : Kept) → says_seam r ≡ false → couplings_in (body ++ r ∷ []) ≡ couplings_in body ++ numbers_from r 0
unfolding couplings_in
couplings_in-more body r other =
    let test : Kept → Bool = λ q. not (says_seam q) in
    let f : Kept → List ℤ = λ q. numbers_from q 0 in
    ap (flat_map f) (filter-append test body (r ∷ [])) ∙ flat_map-append f (filter test body) (filter test (r ∷ []))
    ∙ ap (λ (b : Bool). flat_map f (filter test body) ++ flat_map f (cond (not b) (r ∷ []) [])) other
    ∙ ap (λ (l : List ℤ). flat_map f (filter test body) ++ l) (append-nil (f r))

-- a `seam` gives no couplings
pub couplings_in-seam : (body : List Kept) (r : Kept) → says_seam r ≡ true → couplings_in (body ++ r ∷ []) ≡ couplings_in body
unfolding couplings_in
couplings_in-seam body r seam =
    let test : Kept → Bool = λ q. not (says_seam q) in
    let f : Kept → List ℤ = λ q. numbers_from q 0 in
    ap (flat_map f) (filter-append test body (r ∷ [])) ∙ flat_map-append f (filter test body) (filter test (r ∷ []))
    ∙ ap (λ (b : Bool). flat_map f (filter test body) ++ flat_map f (cond (not b) (r ∷ []) [])) seam ∙ append-nil (flat_map f (filter test body))

-- a list that may be given once and passes is the first
pub sole_list_fault-passes : (seen : Bool) (r : Kept) → sole_list_fault seen r ≡ None → seen ≡ false
sole_list_fault-passes true r h = absurd (none-some _ (sym h))
sole_list_fault-passes false r h = refl

-- each number that is read has a size that fits
pub number_in-small : (r : Kept) (i : ℕ) → unsigned_abs (number_in r i) < 2 ^ 63
number_in-small r i = by (number_of (field r i)) (λ z e. size-of_number (field r i) z e)
  where
    by : (o : Option ℤ) → ((z : ℤ) → o ≡ Some z → unsigned_abs z < 2 ^ 63) → unsigned_abs (unwrap_or o (pos 0)) < 2 ^ 63
    by None small = omega arith
    by (Some z) small = small z refl

numbers-small : (r : Kept) (a n : ℕ) → All (λ j. unsigned_abs j < 2 ^ 63) (map (λ i. number_in r i) (range_with_len a n))
numbers-small r a zero = All-nil (λ j. unsigned_abs j < 2 ^ 63)
numbers-small r a (suc n) = All-cons (λ j. unsigned_abs j < 2 ^ 63) (number_in r a) (map (λ i. number_in r i) (range_with_len (a + 1) n)) (number_in-small r a)
    (numbers-small r (a + 1) n)

all-small : (rs : List Kept) → All (λ j. unsigned_abs j < 2 ^ 63) (flat_map (λ q. numbers_from q 0) rs)
all-small [] = All-nil (λ j. unsigned_abs j < 2 ^ 63)
all-small (r ∷ rs) =
    All-append (λ j. unsigned_abs j < 2 ^ 63) (numbers_from r 0) (flat_map (λ q. numbers_from q 0) rs) (numbers-small r 0 (length r.fields - 0)) (all-small rs)

-- a coupling that is read is less than 2^63 in size
pub couplings_in-small : (body : List Kept) → All (λ j. unsigned_abs j < 2 ^ 63) (couplings_in body)
unfolding couplings_in
couplings_in-small body = all-small (filter (λ q. not (says_seam q)) body)
