-- A list as a cycle: each entry leads to the one behind it, the last to the first.
use Rattle.std.proofs.Common.{inl, inr, ◌≡◌, ℕ, zero, suc, ◌+◌, ◌%◌, ◌<◌, ◌≤◌, cond, eqb, List, [], ◌∷◌, refl, sym, ◌∙◌, ap, arith, length, get_or, count_by}
use Rattle.std.specs.List.{position_or_len}
use Rattle.std.proofs.Math.Nat.{mod_self, mod-eq_of_lt, mod-lt}
use Rattle.std.proofs.lemmas.List.Sums.{sum_by-cons, get_or-le-sum_by, position_or_len_is}
use Rattle.std.proofs.lemmas.Bool.{eq-eqb, ne_eqb, cases_eq}
use Rattle.sg_model.specs.Rotation.{following}
use Rattle.sg_base.specs.Sets.{DifferByCount}

pub one_place : (x : ℕ) (xs : List ℕ) (i : ℕ) → i < length xs → get_or xs i 0 ≡ x → 1 ≤ count_by (λ y. eqb y x) xs
one_place x xs i l e = grind (arith, get_or-le-sum_by)

two_places : (x : ℕ) (xs : List ℕ) (k i : ℕ) → k < i → i < length xs → get_or xs k 0 ≡ x → get_or xs i 0 ≡ x →
    2 ≤ count_by (λ y. eqb y x) xs
two_places x [] k i lt l p q = absurd (omega arith)
two_places x (y ∷ ys) k zero lt l p q = absurd (omega arith)
two_places x (y ∷ ys) zero (suc i) lt l p q =
    let rest : 1 ≤ count_by (λ y. eqb y x) ys = one_place x ys i (omega arith) q in
    let w : cond {A = ℕ} (eqb y x) 1 0 ≡ 1 = ap (λ b. cond b 1 0) (eq-eqb y x p) in
    omega (arith, sum_by-cons (λ y. cond (eqb y x) 1 0) y ys)
two_places x (y ∷ ys) (suc k) (suc i) lt l p q =
    let rest : 2 ≤ count_by (λ y. eqb y x) ys = two_places x ys k i (omega arith) (omega arith) p q in
    omega (arith, sum_by-cons (λ y. cond (eqb y x) 1 0) y ys)

-- an entry of a list without repeats is found at its place
pub position_at : (xs : List ℕ) → DifferByCount xs → (i : ℕ) → i < length xs → position_or_len (λ y. eqb y (get_or xs i 0)) xs ≡ i
position_at xs once i l =
    position_or_len_is (λ y. eqb y (get_or xs i 0)) xs i 0 (omega arith)
    (λ k b. ne_eqb (get_or xs k 0) (get_or xs i 0) (λ (e : get_or xs k 0 ≡ get_or xs i 0). twice k b e))
    (λ _. eq-eqb (get_or xs i 0) (get_or xs i 0) refl)
  where
    twice : (k : ℕ) → k < i → get_or xs k 0 ≡ get_or xs i 0 → ⊥
    twice k b e = let h : 2 ≤ count_by (λ y. eqb y (get_or xs i 0)) xs = two_places (get_or xs i 0) xs k i b l e refl in let o : count_by
        (λ y. eqb y (get_or xs i 0)) xs ≤ 1 = once (get_or xs i 0) in omega arith

-- equal entries stand at one place
pub same_place : (xs : List ℕ) → DifferByCount xs → (i j : ℕ) → i < length xs → j < length xs → get_or xs i 0 ≡ get_or xs j 0 → i ≡ j
same_place xs once i j b c e = sym (position_at xs once i b) ∙ ap (λ x. position_or_len (λ y. eqb y x) xs) e ∙ position_at xs once j c

-- what follows the entry at i
pub following_at : (xs : List ℕ) → DifferByCount xs → (i : ℕ) → i < length xs → following xs (get_or xs i 0) ≡ get_or xs ((i + 1) % length xs) 0
unfolding following
following_at xs once i l = ap (λ k. get_or xs ((k + 1) % length xs) 0) (position_at xs once i l)

-- what follows an entry that is not the last
pub following_inner : (xs : List ℕ) → DifferByCount xs → (i : ℕ) → i + 1 < length xs → following xs (get_or xs i 0) ≡ get_or xs (i + 1) 0
following_inner xs once i l = following_at xs once i (omega arith) ∙ ap (λ k. get_or xs k 0) (mod-eq_of_lt l)

-- what follows the last
pub following_last : (xs : List ℕ) → DifferByCount xs → (i : ℕ) → i + 1 ≡ length xs → following xs (get_or xs i 0) ≡ get_or xs 0 0
following_last xs once i l =
    following_at xs once i (omega arith) ∙ ap (λ k. get_or xs k 0) (ap (λ n. n % length xs) l ∙ mod_self (length xs))

same_turn : (j k n : ℕ) → j < n → k < n → (j + 1) % n ≡ (k + 1) % n → j ≡ k
same_turn j k n a b e = grind arith

-- different places are followed by different entries
pub following_apart : (xs : List ℕ) → DifferByCount xs → (j k : ℕ) → j < length xs → k < length xs →
    following xs (get_or xs j 0) ≡ following xs (get_or xs k 0) → j ≡ k
following_apart xs once j k b c e =
    same_turn j k (length xs) b c
    (same_place xs once ((j + 1) % length xs) ((k + 1) % length xs) (mod-lt (j + 1) (omega arith)) (mod-lt (k + 1) (omega arith))
    (sym (following_at xs once j b) ∙ e ∙ following_at xs once k c))

-- a number that is counted stands somewhere
pub place_from_count : (x : ℕ) (xs : List ℕ) → 1 ≤ count_by (λ y. eqb y x) xs → (i : ℕ) × (i < length xs) × (get_or xs i 0 ≡ x)
place_from_count x [] h = absurd (omega arith)
place_from_count x (y ∷ ys) h = elim (cases_eq y x) [
  | inl e ↦ (0, omega arith, e)
  | inr ne ↦
      let w : cond {A = ℕ} (eqb y x) 1 0 ≡ 0 = ap (λ b. cond b 1 0) (ne_eqb y x ne) in
      let r : (i : ℕ) × (i < length ys) × (get_or ys i 0 ≡ x) = place_from_count x ys (omega (arith, sum_by-cons (λ y. cond (eqb y x) 1 0) y ys)) in
      (suc r.0, omega (arith, r.1), r.2)
]

-- an entry is counted at least once
pub count_at_place : (xs : List ℕ) (i : ℕ) → i < length xs → 1 ≤ count_by (λ y. eqb y (get_or xs i 0)) xs
count_at_place xs i l = one_place (get_or xs i 0) xs i l refl
