-- The laws of parity: `xor`, the parity of a count over a list and over the numbers below n, and two counts exchanged.
use Rattle.std.proofs.Common.{get_or, inl, inr, ◌≡◌, ℕ, zero, suc, ◌+◌, ◌%◌, ◌<◌, Bool, true, false, cond, ◌&&◌, eqb, List, [], ◌∷◌, ◌++◌, refl, sym, ◌∙◌, ap, arith, count_by, All, length}
use Rattle.std.proofs.lemmas.List.Elements.{All-head, All-tail}
use Rattle.std.proofs.lemmas.List.Sums.{sum_by-cons}
use Rattle.std.proofs.lemmas.Bool.{eq-eqb, ne_eqb, cases_eq, cases_Bool, false≢true}
use Rattle.sg_base.specs.Parity.{xor, odd, parity_by, parity_below}

-- `xor` of two in the other order
pub xor_comm : (a b : Bool) → xor a b ≡ xor b a
xor_comm a b = grind arith

-- `xor` of three, put together either way
pub xor_assoc : (a b c : Bool) → xor (xor a b) c ≡ xor a (xor b c)
xor_assoc a b c = grind arith

-- `xor` of a value with itself is false
pub xor_self : (a : Bool) → xor a a ≡ false
xor_self a = grind arith

-- `xor` with false changes nothing
pub xor-false : (a : Bool) → xor a false ≡ a
xor-false a = grind arith

-- two values with a false `xor` are the same
pub xor_cancel : (a b : Bool) → xor a b ≡ false → a ≡ b
xor_cancel a b h = grind arith

-- `xor` of two pairs, with the inner two exchanged
pub xor_swap4 : (a b c d : Bool) → xor (xor a b) (xor c d) ≡ xor (xor a c) (xor b d)
xor_swap4 a b c d = grind arith

-- "and" goes into both sides of `xor`
pub and-xor : (a b c : Bool) → (a && xor b c) ≡ xor (a && b) (a && c)
and-xor a b c = grind arith

-- "and" with true changes nothing
pub and-true : (a : Bool) → (a && true) ≡ a
and-true a = grind arith

-- "and" with false is false
pub and-false : (a : Bool) → (a && false) ≡ false
and-false a = grind arith

module _ {X : Type 0} where
  -- the parity of where just one of two tests passes is the `xor` of their parities
  pub parity_by-xor : (p q : X → Bool) (xs : List X) → parity_by (λ x. xor (p x) (q x)) xs ≡ xor (parity_by p xs) (parity_by q xs)
  parity_by-xor p q [] = refl
  parity_by-xor p q (x ∷ xs) = ap (xor (xor (p x) (q x))) (parity_by-xor p q xs) ∙ xor_swap4 (p x) (q x) (parity_by p xs) (parity_by q xs)

  -- tests that agree on the list have one parity
  pub parity_by-same : (p q : X → Bool) (xs : List X) → All (λ x. p x ≡ q x) xs → parity_by p xs ≡ parity_by q xs
  parity_by-same p q [] h = refl
  parity_by-same p q (x ∷ xs) h =
      let e : p x ≡ q x = All-head (λ x. p x ≡ q x) x xs h in
      let r : parity_by p xs ≡ parity_by q xs = parity_by-same p q xs (All-tail (λ x. p x ≡ q x) x xs h) in
      cc

  -- where no element passes the parity is even
  pub parity_by-none : (p : X → Bool) (xs : List X) → All (λ x. p x ≡ false) xs → parity_by p xs ≡ false
  parity_by-none p [] h = refl
  parity_by-none p (x ∷ xs) h =
      let e : p x ≡ false = All-head (λ x. p x ≡ false) x xs h in
      let r : parity_by p xs ≡ false = parity_by-none p xs (All-tail (λ x. p x ≡ false) x xs h) in
      rw e r

  -- the parity of two lists joined
  pub parity_by-append : (p : X → Bool) (xs ys : List X) → parity_by p (xs ++ ys) ≡ xor (parity_by p xs) (parity_by p ys)
  parity_by-append p [] ys = refl
  parity_by-append p (x ∷ xs) ys = ap (xor (p x)) (parity_by-append p xs ys) ∙ sym (xor_assoc (p x) (parity_by p xs) (parity_by p ys))

  -- a fixed condition may stand before the parity
  pub parity_by-and : (b : Bool) (p : X → Bool) (xs : List X) → parity_by (λ x. b && p x) xs ≡ (b && parity_by p xs)
  parity_by-and true p xs = refl
  parity_by-and false p [] = refl
  parity_by-and false p (x ∷ xs) = parity_by-and false p xs

-- the parity below n of where just one of two tests passes
pub parity_below-xor : (p q : ℕ → Bool) (n : ℕ) → parity_below (λ k. xor (p k) (q k)) n ≡ xor (parity_below p n) (parity_below q n)
parity_below-xor p q zero = refl
parity_below-xor p q (suc n) = ap (xor (xor (p n) (q n))) (parity_below-xor p q n) ∙ xor_swap4 (p n) (q n) (parity_below p n) (parity_below q n)

-- tests that agree below n have one parity there
pub parity_below-same : (p q : ℕ → Bool) (n : ℕ) → ((k : ℕ) → k < n → p k ≡ q k) → parity_below p n ≡ parity_below q n
parity_below-same p q zero h = refl
parity_below-same p q (suc n) h = grind (arith, parity_below-same p q n)

-- where no number below n passes the parity is even
pub parity_below-none : (p : ℕ → Bool) (n : ℕ) → ((k : ℕ) → k < n → p k ≡ false) → parity_below p n ≡ false
parity_below-none p zero h = refl
parity_below-none p (suc n) h = grind (arith, parity_below-none p n)

-- the order of two sums is free
pub parity_exchange : {X : Type 0} (f : X → ℕ → Bool) (xs : List X) (n : ℕ) →
    parity_by (λ x. parity_below (f x) n) xs ≡ parity_below (λ k. parity_by (λ x. f x k) xs) n
parity_exchange f [] n = sym (parity_below-none (λ k. false) n (λ k l. refl))
parity_exchange f (x ∷ xs) n = simp (parity_exchange f xs n, parity_below-xor)

-- of the numbers below n, only u is u
pub parity_below_pick : (t : ℕ → Bool) (u n : ℕ) → u < n → parity_below (λ k. t k && eqb u k) n ≡ t u
parity_below_pick t u zero h = absurd (omega arith)
parity_below_pick t u (suc n) h = grind (arith, cases_eq u n, parity_below_pick t u n, eq-eqb, parity_below-none, ne_eqb, xor-false)

-- the rest by 2, from whether the number is odd
pub odd_is : (n : ℕ) → n % 2 ≡ cond (odd n) 1 0
odd_is zero = refl
odd_is (suc n) = grind (arith, odd_is n)

-- a number with the rest 0 by 2 is not odd
pub even_from_mod : (n : ℕ) → n % 2 ≡ 0 → odd n ≡ false
even_from_mod n h = grind (arith, odd_is)

-- a number with the rest 1 by 2 is odd
pub odd_from_mod : (n : ℕ) → n % 2 ≡ 1 → odd n ≡ true
odd_from_mod n h = grind (arith, odd_is)

-- an odd number as a test of its remainder
pub odd_test : (n : ℕ) → eqb (n % 2) 1 ≡ odd n
odd_test n = grind (arith, odd_is, eq-eqb, ne_eqb)

-- a number without remainder
pub even_mod : (n : ℕ) → odd n ≡ false → n % 2 ≡ 0
even_mod n h = odd_is n ∙ ap (λ b. cond {A = ℕ} b 1 0) h

one_more : (b : Bool) (n : ℕ) (r : Bool) → odd n ≡ r → odd (cond b 1 0 + n) ≡ xor b r
one_more b n r h = grind arith

-- the parity of a count
pub odd-count_by : {X : Type 0} (p : X → Bool) (xs : List X) → odd (count_by p xs) ≡ parity_by p xs
odd-count_by p [] = refl
odd-count_by p (x ∷ xs) = ap odd (sum_by-cons (λ x. cond (p x) 1 0) x xs) ∙ one_more (p x) (count_by p xs) (parity_by p xs) (odd-count_by p xs)

-- where an odd number pass, one passes
pub some_from_odd : {X : Type 0} (p : X → Bool) (xs : List X) → parity_by p xs ≡ true → (k : ℕ) × (k < length xs) × ((d : X) → p (get_or xs k d) ≡ true)
some_from_odd p [] e = absurd (false≢true e)
some_from_odd {X = X} p (x ∷ xs) e = elim (cases_Bool (p x)) [
  | inl passes ↦ (0, omega arith, λ d. passes)
  | inr fails ↦
      let rest : parity_by p xs ≡ true = ap (λ b. xor b (parity_by p xs)) (sym fails) ∙ e in
      let found : (k : ℕ) × (k < length xs) × ((d : X) → p (get_or xs k d) ≡ true) = some_from_odd p xs rest in
      (suc found.0, omega (arith, found.1), found.2)
]
