-- The numbers below n that pass a test: each stands at its rank, and on a grid ranks count row by row.
use Rattle.std.proofs.Common.{◌≡◌, inl, inr, ℕ, zero, suc, ◌+◌, ◌-◌, ◌*◌, ◌/◌, ◌%◌, ◌<◌, ◌≤◌, Bool, true, cond, List, [], ◌∷◌, ◌++◌, length, get_or, map, sym, ◌∙◌, ap, ap₂, arith}
use Rattle.std.specs.List.{range_with_len}
use Rattle.std.proofs.lemmas.Bool.{cases_eq}
use Rattle.std.proofs.lemmas.Nat.{div-mul-add, mod-mul-add, mul-le}
use Rattle.std.proofs.lemmas.List.{append_assoc, get_or_append_left, get_or_push, map-append}
use Rattle.std.proofs.lemmas.List.Sums.{length-filter}
use Rattle.sg_base.specs.Sets.{chosen_below}
use Rattle.sg_base.proofs.Choosing.{chosen_below_more}
use Rattle.sg_base.proofs.DealtSums.{sum_by_range}
use Rattle.sg_base.proofs.Ranks.{rank, rank_less}

-- one more of them, under a function and behind a front
pub map_chosen_more : {A : Type 0} (f : ℕ → A) (p : ℕ → Bool) (front : List A) (n : ℕ) →
    (front ++ map f (chosen_below p n)) ++ cond (p n) (f n ∷ []) [] ≡ front ++ map f (chosen_below p (n + 1))
map_chosen_more f p front n = grind (arith, append_assoc, map-append, chosen_below_more)

module _ (p : ℕ → Bool) where
  -- there are as many as the rank of n
  pub length-chosen_below : (n : ℕ) → length (chosen_below p n) ≡ rank p n
  length-chosen_below n = length-filter p (range_with_len 0 n) ∙ sum_by_range (λ k. cond {A = ℕ} (p k) 1 0) n

  -- a number that passes stands at its rank
  pub chosen_at_rank : (i n : ℕ) → i < n → p i ≡ true → get_or (chosen_below p n) (rank p i) 0 ≡ i
  chosen_at_rank i zero l h = absurd (omega arith)
  chosen_at_rank i (suc n) l h = elim (cases_eq i n) [
    | inl last ↦
        more
        ∙ ap (λ b. get_or (chosen_below p n ++ cond b (n ∷ []) []) (rank p i) 0) (ap p (sym last) ∙ h)
        ∙ get_or_push (chosen_below p n) n 0 (rank p i) (length-chosen_below n ∙ ap (rank p) (sym last))
        ∙ sym last
    | inr earlier ↦
        more
        ∙ get_or_append_left (chosen_below p n) (cond (p n) (n ∷ []) []) 0 (rank p i)
        (omega (arith, length-chosen_below n, rank_less p i n (omega arith) h))
        ∙ chosen_at_rank i n (omega arith) h
  ]
    where
      more : get_or (chosen_below p (suc n)) (rank p i) 0 ≡ get_or (chosen_below p n ++ cond (p n) (n ∷ []) []) (rank p i) 0
      more =
          let e : suc n ≡ n + 1 = omega arith in
          ap (λ xs. get_or xs (rank p i) 0) (ap (chosen_below p) e ∙ chosen_below_more p n)

  -- behind numbers that do not pass the rank is the same
  rank_still : (m n : ℕ) → m ≤ n → ((i : ℕ) → m ≤ i → i < n → p i ≡ true → ⊥) → rank p n ≡ rank p m
  rank_still m zero l none = let e : 0 ≡ m = omega arith in ap (rank p) e
  rank_still m (suc n) l none = grind (arith, cases_eq m (suc n), rank_still m n)

-- of a grid of R rows and C columns only places in the first H rows and W columns pass, and g r c of them stand before (r, c)
pub record CountsRows (has : ℕ → ℕ → Bool) (R C H W : ℕ) (g : ℕ → ℕ → ℕ) : Type 0 where
  pub rows : H ≤ R
  pub cols : W ≤ C
  pub inside : (r c : ℕ) → r < R → c < C → has r c ≡ true → (r < H) × (c < W)
  pub start : g 0 0 ≡ 0
  pub more : (r c : ℕ) → r < H → c < W → g r (suc c) ≡ g r c + cond (has r c) 1 0
  pub next : (r : ℕ) → r < H → g (suc r) 0 ≡ g r W

module _ {has : ℕ → ℕ → Bool} {R C H W : ℕ} {g : ℕ → ℕ → ℕ} (counts : CountsRows has R C H W g) where
  abbrev passes : ℕ → Bool
  passes i = has (i / C) (i % C)

  rank_in_row : (r : ℕ) → r < H → rank passes (r * C) ≡ g r 0 → (c : ℕ) → c ≤ W → rank passes (r * C + c) ≡ g r c
  rank_in_row r b base zero l = let e : r * C + 0 ≡ r * C = omega arith in ap (rank passes) e ∙ base
  rank_in_row r b base (suc c) l =
      let e : r * C + suc c ≡ suc (r * C + c) = omega arith in
      let low : c < C = omega (arith, counts.cols) in
      let at : passes (r * C + c) ≡ has r c = ap₂ has (div-mul-add r C c low) (mod-mul-add r C c low) in
      ap (rank passes) e ∙ ap₂ (λ k t. k + cond {A = ℕ} t 1 0) (rank_in_row r b base c (omega arith)) at ∙ sym (counts.more r c b (omega arith))

  rank_row : (r : ℕ) → r ≤ H → rank passes (r * C) ≡ g r 0
  rank_row zero b = let e : 0 * C ≡ 0 = omega arith in ap (rank passes) e ∙ sym counts.start
  rank_row (suc r) b =
      let e : suc r * C ≡ r * C + C = omega arith in
      ap (rank passes) e
      ∙ rank_still passes (r * C + W) (r * C + C) (omega (arith, counts.cols)) none
      ∙ rank_in_row r (omega arith) (rank_row r (omega arith)) W (omega arith)
      ∙ sym (counts.next r (omega arith))
    where
      none : (i : ℕ) → r * C + W ≤ i → i < r * C + C → passes i ≡ true → ⊥
      none i lo hi h =
          let at : r * C + (i - r * C) ≡ i = omega arith in
          let low : i - r * C < C = omega arith in
          let row : r ≡ i / C = sym (div-mul-add r C (i - r * C) low) ∙ ap (λ n. n / C) at in
          let col : i - r * C ≡ i % C = sym (mod-mul-add r C (i - r * C) low) ∙ ap (λ n. n % C) at in
          omega (arith, (counts.inside r (i - r * C) (omega (arith, counts.rows)) low (ap₂ has row col ∙ h)).1)

  -- the rank at a place of these rows and columns is the count before it
  pub rank_at : (r c : ℕ) → r < H → c ≤ W → rank passes (r * C + c) ≡ g r c
  rank_at r c b l = rank_in_row r b (rank_row r (omega arith)) c l

  -- the rank behind the last place is the count of all
  pub rank_all : 0 < C → rank passes (R * C) ≡ g H 0
  rank_all some = rank_still passes (H * C) (R * C) (mul-le H C R C counts.rows (omega arith)) none ∙ rank_row H (omega arith)
    where
      none : (i : ℕ) → H * C ≤ i → i < R * C → passes i ≡ true → ⊥
      none i lo hi h = grind arith
