-- Lists and options: tests, sums and parts, as far as the library has no lemma.
use Rattle.std.proofs.lemmas.Grind.{common_steps}
use Rattle.std.proofs.Common.{Bool, IsSome, List, None, Option, Some, [], ap, arith, cond, count_by, eq-eqb, eqb, false, filter, get_or, inl, inr}
use Rattle.std.proofs.Common.{length, map, refl, suc, sum_by, sym, true, zero, ℕ, ◌+◌, ◌<◌, ◌||◌, ◌∙◌, ◌∷◌, ◌≡◌, ◌≢◌, ◌≤◌, ◌⊎◌}
use Rattle.std.proofs.lemmas.Bool.{cases_Bool, cases_eq, eqb-true, false≢true, ne_eqb, or_cases}
use Rattle.std.proofs.lemmas.List.Folds.{list_any_at}
use Rattle.std.proofs.lemmas.List.Sums.{sum_by-cons, sum_by-le-sum_by}
use Rattle.std.specs.List.{list_any, range_with_len}

-- an option is nothing or something
pub cases_option : {X : Type 0} → (o : Option X) → (o ≡ None) ⊎ ((x : X) × (o ≡ Some x))
cases_option None = inl refl
cases_option (Some x) = inr (x, refl)

-- something is not nothing
pub some≢none : {X : Type 0} (o : Option X) → IsSome o → o ≡ None → ⊥
some≢none o some none = grind arith

-- a choice between equals
pub cond-same : (t : Bool) (n : ℕ) → cond t n n ≡ n
cond-same t n = grind arith

module _ {X : Type 0} where
  -- tests that agree on all find the same
  pub list_any-agree : (p q : X → Bool) (xs : List X) → ((x : X) → p x ≡ q x) → list_any p xs ≡ list_any q xs
  list_any-agree p q [] same = refl
  list_any-agree p q (x ∷ xs) same = rw (same x, list_any-agree p q xs same) refl

  -- what nothing passes, no element passes
  pub list_any-never : (xs : List X) → list_any (λ _. false) xs ≡ false
  list_any-never [] = refl
  list_any-never (x ∷ xs) = list_any-never xs

-- an image passes where an element does
pub list_any-map : {X Y : Type 0} (p : Y → Bool) (f : X → Y) (xs : List X) → list_any p (map f xs) ≡ list_any (λ x. p (f x)) xs
list_any-map p f [] = refl
list_any-map p f (x ∷ xs) = ap (λ b. p (f x) || b) (list_any-map p f xs)

module _ {X : Type 0} where
  -- what passes the test of some place
  pub place_of_any : (p : X → Bool) (xs : List X) (d : X) → list_any p xs ≡ true → (i : ℕ) × (i < length xs) × (p (get_or xs i d) ≡ true)
  place_of_any p [] d some = absurd (false≢true some)
  place_of_any p (x ∷ xs) d some =
      elim (or_cases (p x) (list_any p xs) some) [
        | inl here ↦ (0, omega arith, here)
        | inr there ↦ let later = place_of_any p xs d there in (suc later.0, omega (arith, later.1), later.2)
      ]

  -- tests that agree at each place find the same
  pub list_any-agree_at : (p q : X → Bool) (xs : List X) (d : X) → ((i : ℕ) → i < length xs → p (get_or xs i d) ≡ q (get_or xs i d)) →
      list_any p xs ≡ list_any q xs
  list_any-agree_at p q [] d same = refl
  list_any-agree_at p q (x ∷ xs) d same =
      rw (same 0 (omega arith), list_any-agree_at p q xs d (λ i within. same (suc i) (omega arith))) refl

-- a number stands at some place of a list, or at none
pub cases_in : (xs : List ℕ) (n : ℕ) → ((i : ℕ) × (i < length xs) × (get_or xs i 0 ≡ n) × (list_any (λ m. eqb m n) xs ≡ true)) ⊎
    (((i : ℕ) → i < length xs → get_or xs i 0 ≢ n) × (list_any (λ m. eqb m n) xs ≡ false))
cases_in xs n =
    elim (cases_Bool (list_any (λ m. eqb m n) xs)) [
      | inl some ↦ let at = place_of_any (λ m. eqb m n) xs 0 some in inl (at.0, at.1, eqb-true (get_or xs at.0 0) n at.2, some)
      | inr none ↦ inr (λ i within same. false≢true (sym none ∙ list_any_at (λ m. eqb m n) xs i 0 within (eq-eqb (get_or xs i 0) n same)), none)
    ]

-- functions that agree make the same list
pub map-agree : {X Y : Type 0} (f g : X → Y) (xs : List X) → ((x : X) → f x ≡ g x) → map f xs ≡ map g xs
map-agree f g [] same = refl
map-agree f g (x ∷ xs) same = rw (same x, map-agree f g xs same) refl

-- what nothing passes keeps nothing
pub filter-never : {X : Type 0} (p : X → Bool) (xs : List X) → ((x : X) → p x ≡ false) → filter p xs ≡ []
filter-never p [] never = refl
filter-never p (x ∷ xs) never = rw (never x) (filter-never p xs never)

-- the part of a range that passes a test which one number alone passes
pub filter-single : (p : ℕ → Bool) (a n l : ℕ) → a ≤ l → l < a + n → ((x : ℕ) → x < a + n → p x ≡ eqb l x) → filter p (range_with_len a n) ≡ l ∷ []
filter-single p a zero l low high is = absurd (omega arith)
filter-single p a (suc n) l low high is =
    elim (cases_eq l a) [
      | inl same ↦ grind (arith, none_after)
      | inr differs ↦ rw (is a (omega arith), ne_eqb l a differs) (filter-single p (a + 1) n l (omega arith) (omega arith) (λ x within. is x (omega arith)))
    ]
  where
    none_after : (b m : ℕ) → l < b → b + m ≤ a + suc n → filter p (range_with_len b m) ≡ []
    none_after b zero above within = refl
    none_after b (suc m) above within = rw (is b (omega arith), ne_eqb l b (λ e. omega arith)) (none_after (b + 1) m (omega arith) (omega arith))

-- the weaker test passes more
pub count_by-mono : (p q : ℕ → Bool) → ((x : ℕ) → p x ≡ true → q x ≡ true) → (xs : List ℕ) → count_by p xs ≤ count_by q xs
count_by-mono p q implies xs = grind (arith, sum_by-le-sum_by)

-- the sum of sums
pub sum_by-plus : {X : Type 0} (f g : X → ℕ) (xs : List X) → sum_by (λ x. f x + g x) xs ≡ sum_by f xs + sum_by g xs
sum_by-plus f g [] = refl
sum_by-plus f g (x ∷ xs) = omega (arith, sum_by-plus f g xs, sum_by-cons (λ x. f x + g x) x xs, sum_by-cons f x xs, sum_by-cons g x xs)

-- terms that agree have the same sum
pub sum_by-agree : {X : Type 0} (f g : X → ℕ) (xs : List X) → ((x : X) → f x ≡ g x) → sum_by f xs ≡ sum_by g xs
sum_by-agree f g [] same = refl
sum_by-agree f g (x ∷ xs) same = omega (arith, same x, sum_by-agree f g xs same, sum_by-cons f x xs, sum_by-cons g x xs)

-- the sum over an image
pub sum_by-map_of : {X Y : Type 0} (f : Y → ℕ) (h : X → Y) (xs : List X) → sum_by f (map h xs) ≡ sum_by (λ x. f (h x)) xs
sum_by-map_of f h [] = refl
sum_by-map_of f h (x ∷ xs) = omega (arith, sum_by-map_of f h xs, sum_by-cons f (h x) (map h xs), sum_by-cons (λ x. f (h x)) x xs)

-- a sum of zeros
pub sum_by-zero : {X : Type 0} (f : X → ℕ) (xs : List X) → ((x : X) → f x ≡ 0) → sum_by f xs ≡ 0
sum_by-zero f [] zeros = refl
sum_by-zero f (x ∷ xs) zeros = omega (arith, zeros x, sum_by-zero f xs zeros, sum_by-cons f x xs)

-- a sum over a range with one term
point_out : (d : ℕ → ℕ) (n a count : ℕ) → n < a → sum_by (λ t. cond (eqb n t) (d t) 0) (range_with_len a count) ≡ 0
point_out d n a zero low = refl
point_out d n a (suc count) low = grind (arith, point_out d n (a + 1) count)

-- a sum in which one term alone isn't 0
pub sum_by-point : (d : ℕ → ℕ) (n a count : ℕ) → a ≤ n → n < a + count → sum_by (λ t. cond (eqb n t) (d t) 0) (range_with_len a count) ≡ d n
sum_by-point d n a zero low high = absurd (omega arith)
sum_by-point d n a (suc count) low high = grind (arith, common_steps, sum_by-point d n (a + 1) count, point_out)

-- a term counted in one of two cases that exclude each other
pub cond-either : (a b : Bool) (x : ℕ) → (a ≡ true → b ≡ true → ⊥) → cond (a || b) x 0 ≡ cond a x 0 + cond b x 0
cond-either a b x h = grind arith
