-- Ranks: how many of the lesser numbers pass. Each rank below the count is that of a number that passes, and of no other.
use Rattle.std.proofs.Common.{◌≡◌, ◌∙◌, ap, ℕ, zero, suc, ◌+◌, ◌<◌, ◌≤◌, Bool, true, false, cond, arith}
use Rattle.std.proofs.lemmas.Bool.{cases_Bool, cases_eq}
use Rattle.sg_base.specs.Sums.{sum_below}

-- how many of the numbers below n pass
abbrev pub rank : (ℕ → Bool) → ℕ → ℕ
rank p n = sum_below (λ k. cond (p k) 1 0) n

-- the next rank is one more behind a number that passes
rank_yes : (p : ℕ → Bool) (n : ℕ) → p n ≡ true → rank p (suc n) ≡ rank p n + 1
rank_yes p n h = ap (λ b. rank p n + cond {A = ℕ} b 1 0) h

rank_no : (p : ℕ → Bool) (n : ℕ) → p n ≡ false → rank p (suc n) ≡ rank p n
rank_no p n h = ap (λ b. rank p n + cond {A = ℕ} b 1 0) h ∙ omega arith

-- ranks do not fall
pub rank_rises : (p : ℕ → Bool) (m n : ℕ) → m ≤ n → rank p m ≤ rank p n
rank_rises p m zero l = let e : m ≡ 0 = omega arith in omega (arith, ap (rank p) e)
rank_rises p m (suc n) l = grind (arith, cases_eq m (suc n), rank_rises p m n)

-- the rank of a number that passes is below each later one
pub rank_less : (p : ℕ → Bool) (m n : ℕ) → m < n → p m ≡ true → rank p m < rank p n
rank_less p m n l h = let next : rank p (suc m) ≤ rank p n = rank_rises p (suc m) n (omega arith) in omega (arith, rank_yes p m h)

-- the number that passes with a rank below the count
pub at_rank : (p : ℕ → Bool) (c n : ℕ) → c < rank p n → (r : ℕ) × (r < n) × (p r ≡ true) × (rank p r ≡ c)
at_rank p c zero l = absurd (omega arith)
at_rank p c (suc n) l = grind (arith, cases_Bool (p n), cases_eq c (rank p n), at_rank p c n, rank_yes, rank_no)
