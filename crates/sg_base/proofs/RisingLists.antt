-- Sets of numbers as rising lists: what a list holds, what a choice keeps, and counts over the list and over the numbers.
use Rattle.std.proofs.Common.{inl, inr, ap₂, ◌≡◌, ℕ, zero, suc, ◌+◌, ◌<◌, ◌≤◌, Bool, true, false, cond, ◌&&◌, ◌||◌, eqb, List, [], ◌∷◌, filter, refl, sym, ◌∙◌, ap, subst, arith, All, Contains, get_or, eq-eqb}
use Rattle.std.specs.List.{range_with_len}
use Rattle.std.specs.List.Sorted.{IsStrictlyIncreasing}
use Rattle.std.proofs.lemmas.Bool.{cases_eq, false≢true, ne_eqb, eqb-true, or_cases, true≢false}
use Rattle.std.proofs.lemmas.List.Elements.{All-contains_itself, All-filter, All-head, All-tail, filter_passes}
use Rattle.std.proofs.lemmas.List.FromFn.{get_or-range_with_len, length-range_with_len}
use Rattle.std.proofs.lemmas.List.Kept.{IsStrictlyIncreasing-filter}
use Rattle.sg_base.specs.Parity.{xor, parity_by, parity_below}
use Rattle.sg_base.specs.Sets.{holds, chosen_below, RisesOver}
use Rattle.sg_base.proofs.ParityLaws.{and-false, parity_below-same, parity_below-xor, parity_below-none, parity_below_pick}

-- a rising list without its first entry
pub rising_rest : (x : ℕ) (xs : List ℕ) → IsStrictlyIncreasing (x ∷ xs) → IsStrictlyIncreasing xs
rising_rest x xs up k h =
    let u = up (suc k) (omega arith) in
    let e : suc k + 1 ≡ suc (k + 1) = omega arith in
    subst (λ j. get_or xs k 0 < get_or (x ∷ xs) j 0) e u

-- all that follows the first entry is above it
pub rises_over_first : (x : ℕ) (xs : List ℕ) → IsStrictlyIncreasing (x ∷ xs) → RisesOver x xs
rises_over_first x [] up = tt
rises_over_first x (z ∷ zs) up = (up 0 (omega arith), rises_over_first z zs (rising_rest x (z ∷ zs) up))

-- a list that rises over a number does not hold it, nor one below
pub holds_none_below : (a : ℕ) (xs : List ℕ) (z : ℕ) → RisesOver a xs → z ≤ a → holds xs z ≡ false
holds_none_below a [] z r h = refl
holds_none_below a (x ∷ xs) z r h = grind (arith, holds_none_below x xs z r.1, ne_eqb)

or-xor : (p q r : Bool) → (p ≡ true → q ≡ false) → (r && (p || q)) ≡ xor (r && p) (r && q)
or-xor p q r h = grind (arith, true≢false)

-- the members that pass, counted over the numbers and over the list
pub members_parity : (t : ℕ → Bool) (xs : List ℕ) (n : ℕ) → All (λ x. x < n) xs → IsStrictlyIncreasing xs →
    parity_below (λ x. t x && holds xs x) n ≡ parity_by t xs
members_parity t [] n low up = parity_below-none (λ x. t x && false) n (λ x l. and-false (t x))
members_parity t (s ∷ xs) n low up =
    parity_below-same (λ x. t x && holds (s ∷ xs) x) (λ x. xor (t x && eqb s x) (t x && holds xs x)) n
    (λ x l. or-xor (eqb s x) (holds xs x) (t x) (λ e. holds_none_below s xs x (rises_over_first s xs up) (let q : s ≡ x = eqb-true s x e in omega arith)))
    ∙ parity_below-xor (λ x. t x && eqb s x) (λ x. t x && holds xs x) n
    ∙ ap₂ xor (parity_below_pick t s n (All-head (λ x. x < n) s xs low)) (members_parity t xs n (All-tail (λ x. x < n) s xs low) (rising_rest s xs up))

eqb-swap : (a b : ℕ) → eqb a b ≡ eqb b a
eqb-swap a b = grind (arith, cases_eq a b, eq-eqb, ne_eqb)

-- how often a rising list names a number is whether it holds it
pub parity_of_rising : (list : List ℕ) (n i : ℕ) → All (λ k. k < n) list → IsStrictlyIncreasing list → i < n → parity_by (λ k. eqb k i) list ≡ holds list i
parity_of_rising list n i low up l =
    sym (members_parity (λ k. eqb k i) list n low up)
    ∙ parity_below-same (λ k. eqb k i && holds list k) (λ k. holds list k && eqb i k) n (λ k b. turned (eqb k i) (holds list k) (eqb i k) (eqb-swap k i))
    ∙ parity_below_pick (holds list) i n l
  where
    turned : (a b c : Bool) → a ≡ c → (a && b) ≡ (b && c)
    turned a b c e = grind arith

-- a choice from a range holds the numbers of the range that pass
holds-filter_range : (p : ℕ → Bool) (a n x : ℕ) → a ≤ x → x < a + n → holds (filter p (range_with_len a n)) x ≡ p x
holds-filter_range p a zero x h l = absurd (omega arith)
holds-filter_range p a (suc n) x h l = elim (cases_eq a x) [
  | inl same ↦ first (p a) (ap p same) (eq-eqb a x same)
  | inr ne ↦ rest (p a) (ne_eqb a x ne) (holds-filter_range p (a + 1) n x (omega arith) (omega arith))
]
  where
    later : holds (filter p (range_with_len (a + 1) n)) a ≡ false
    later = none p (a + 1) n a (omega arith)
      where
        none : (p : ℕ → Bool) (b n z : ℕ) → z < b → holds (filter p (range_with_len b n)) z ≡ false
        none p b zero z l = refl
        none p b (suc n) z l = grind (arith, none p (b + 1) n z, ne_eqb)

    first : (c : Bool) → c ≡ p x → eqb a x ≡ true → holds (cond c (a ∷ filter p (range_with_len (a + 1) n)) (filter p (range_with_len (a + 1) n))) x ≡ p x
    first c same found = grind (arith, eqb-true, later)

    rest : (c : Bool) → eqb a x ≡ false → holds (filter p (range_with_len (a + 1) n)) x ≡ p x →
        holds (cond c (a ∷ filter p (range_with_len (a + 1) n)) (filter p (range_with_len (a + 1) n))) x ≡ p x
    rest c other found = grind arith

-- the numbers below n that pass, and no others below n
pub holds-chosen_below : (p : ℕ → Bool) (n x : ℕ) → x < n → holds (chosen_below p n) x ≡ p x
holds-chosen_below p n x l = holds-filter_range p 0 n x (omega arith) (omega arith)

-- what is chosen is below n, passes and rises
module _ (p : ℕ → Bool) (n : ℕ) where
  -- the chosen numbers are below the bound
  pub chosen_below_low : All (λ x. x < n) (chosen_below p n)
  chosen_below_low = All-filter p (λ x. x < n) (range_with_len 0 n) range_low
    where
      range_low : All (λ x. x < n) (range_with_len 0 n)
      range_low k d l = grind (arith, length-range_with_len, get_or-range_with_len)

  -- the chosen numbers pass
  pub chosen_below_pass : All (λ x. p x ≡ true) (chosen_below p n)
  chosen_below_pass = filter_passes p (range_with_len 0 n)

  -- the chosen numbers rise
  pub chosen_below_rises : IsStrictlyIncreasing (chosen_below p n)
  chosen_below_rises = IsStrictlyIncreasing-filter p (range_with_len 0 n) range_rises
    where
      range_rises : IsStrictlyIncreasing (range_with_len 0 n)
      range_rises k l = grind (arith, length-range_with_len, get_or-range_with_len)

-- what each entry has, a number that the list holds has
pub All-holds : (P : ℕ → Type 0) (xs : List ℕ) (x : ℕ) → All P xs → holds xs x ≡ true → P x
All-holds P [] x all h = absurd (false≢true h)
All-holds P (y ∷ xs) x all h = elim (or_cases (eqb y x) (holds xs x) h) [
  | inl here ↦ subst P (eqb-true y x here) (All-head P y xs all)
  | inr there ↦ All-holds P xs x (All-tail P y xs all) there
]

-- the list contains the numbers that it holds
pub Contains-holds : (xs : List ℕ) (x : ℕ) → holds xs x ≡ true → Contains xs x
Contains-holds xs x h = All-holds (Contains xs) xs x (All-contains_itself xs) h
