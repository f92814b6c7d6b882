-- The numbers that stand in a list an odd number of times, chosen from the numbers below n: counts and weights over them
-- are counts over the list, up to even numbers, and weights of the list at most.
use Rattle.std.proofs.Common.{ap₂, ◌≡◌, ℕ, zero, suc, ◌+◌, ◌<◌, ◌≤◌, add-one, Bool, true, false, cond, ◌&&◌, eqb, List, [], ◌∷◌, refl, sym, ◌∙◌, ap, arith, All, sum_by}
use Rattle.std.proofs.lemmas.Bool.{eqb-true}
use Rattle.std.proofs.lemmas.List.Elements.{All-head, All-tail}
use Rattle.std.proofs.lemmas.List.Sums.{sum_by-append, sum_by-cons}
use Rattle.sg_base.specs.Parity.{xor, parity_by, parity_below}
use Rattle.sg_base.specs.Sets.{chosen_below}
use Rattle.sg_base.specs.Sums.{sum_below}
use Rattle.sg_base.proofs.Choosing.{chosen_below_more}
use Rattle.sg_base.proofs.ParityLaws.{parity_below-none, parity_below-same, parity_below-xor, parity_below_pick, parity_by-append, xor_comm}
use Rattle.sg_base.proofs.SumLaws.{sum_below-add, sum_below-le, sum_below-zero, sum_below_pick}

-- whether the number stands in the list an odd number of times
abbrev pub is_odd_in : List ℕ → ℕ → Bool
is_odd_in xs e = parity_by (λ k. eqb k e) xs

spread : (a b c : Bool) → (xor a b && c) ≡ xor (c && a) (b && c)
spread a b c = grind arith

-- the numbers that stand oddly in a list have the parity of the whole list
pub odd_in-parity : (p : ℕ → Bool) (n : ℕ) (xs : List ℕ) → All (λ x. x < n) xs → parity_below (λ e. is_odd_in xs e && p e) n ≡ parity_by p xs
odd_in-parity p n [] low = parity_below-none (λ e. false && p e) n (λ k l. refl)
odd_in-parity p n (x ∷ xs) low =
    parity_below-same (λ e. xor (eqb x e) (is_odd_in xs e) && p e) (λ e. xor (p e && eqb x e) (is_odd_in xs e && p e)) n
    (λ e l. spread (eqb x e) (is_odd_in xs e) (p e)) ∙ parity_below-xor (λ e. p e && eqb x e) (λ e. is_odd_in xs e && p e) n
    ∙ ap₂ xor (parity_below_pick p x n (All-head (λ x. x < n) x xs low)) (odd_in-parity p n xs (All-tail (λ x. x < n) x xs low))

gain : (a b : Bool) (u v : ℕ) → (a ≡ true → u ≡ v) → cond (xor a b) v 0 ≤ cond a u 0 + cond b v 0
gain a b u v h = grind arith

-- the numbers that stand oddly in a list weigh at most as much as the list
pub odd_in-weight : (w : ℕ → ℕ) (n : ℕ) (xs : List ℕ) → All (λ x. x < n) xs → sum_below (λ e. cond (is_odd_in xs e) (w e) 0) n ≤ sum_by w xs
odd_in-weight w n [] low = let none : sum_below (λ e. cond false (w e) 0) n ≡ 0 = sum_below-zero (λ e. cond false (w e) 0) n (λ k l. refl) in omega arith
odd_in-weight w n (x ∷ xs) low =
    let rest : sum_below (λ e. cond (is_odd_in xs e) (w e) 0) n ≤ sum_by w xs = odd_in-weight w n xs (All-tail (λ x. x < n) x xs low) in
    let each : sum_below (λ e. cond (xor (eqb x e) (is_odd_in xs e)) (w e) 0) n ≤
    sum_below (λ e. cond (eqb x e) (w x) 0 + cond (is_odd_in xs e) (w e) 0) n =
    sum_below-le (λ e. cond (xor (eqb x e) (is_odd_in xs e)) (w e) 0) (λ e. cond (eqb x e) (w x) 0 + cond (is_odd_in xs e) (w e) 0) n
    (λ e l. gain (eqb x e) (is_odd_in xs e) (w x) (w e) (λ h. ap w (eqb-true x e h))) in
    omega (
      arith,
      sum_below-add (λ e. cond (eqb x e) (w x) 0) (λ e. cond (is_odd_in xs e) (w e) 0) n,
      sum_below_pick (w x) x n (All-head (λ x. x < n) x xs low),
      sum_by-cons w x xs,
    )

-- what passes m, as a rising list
pub chosen_below-parity : (m p : ℕ → Bool) (n : ℕ) → parity_by p (chosen_below m n) ≡ parity_below (λ e. m e && p e) n
chosen_below-parity m p zero = refl
chosen_below-parity m p (suc n) =
    ap (λ k. parity_by p (chosen_below m k)) (sym (add-one n)) ∙ ap (parity_by p) (chosen_below_more m n)
    ∙ parity_by-append p (chosen_below m n) (cond (m n) (n ∷ []) []) ∙ ap₂ xor (chosen_below-parity m p n) (last (m n))
    ∙ xor_comm (parity_below (λ e. m e && p e) n) (m n && p n)
  where
    last : (b : Bool) → parity_by p (cond b (n ∷ []) []) ≡ (b && p n)
    last b = grind arith

-- the weight of the chosen numbers is that of the marked ones
pub chosen_below-weight : (m : ℕ → Bool) (w : ℕ → ℕ) (n : ℕ) → sum_by w (chosen_below m n) ≡ sum_below (λ e. cond (m e) (w e) 0) n
chosen_below-weight m w zero = refl
chosen_below-weight m w (suc n) =
    ap (λ k. sum_by w (chosen_below m k)) (sym (add-one n)) ∙ ap (sum_by w) (chosen_below_more m n)
    ∙ sum_by-append w (chosen_below m n) (cond (m n) (n ∷ []) []) ∙ ap₂ (λ a b. a + b) (chosen_below-weight m w n) (last (m n))
  where
    last : (b : Bool) → sum_by w (cond b (n ∷ []) []) ≡ cond b (w n) 0
    last b = grind arith
