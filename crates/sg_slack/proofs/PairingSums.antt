-- Sums over a pairing: over the leaves, over their mates, or over the pairs, each once.
use Rattle.std.proofs.Common.{zero-add, ◌≡◌, ◌≢◌, ℕ, zero, suc, ◌+◌, ◌*◌, ◌%◌, ◌<◌, ◌≤◌, Bool, true, false, cond, not, ◌&&◌, eqb, ltb, refl, sym, ◌∙◌, ap}
use Rattle.std.proofs.Common.{arith, inl, inr, eq-eqb, sum_by, get_or}
use Rattle.std.proofs.Math.Nat.{mul-add, mul-zero}
use Rattle.std.specs.List.{range_with_len}
use Rattle.std.proofs.lemmas.Bool.{cases_eq, cases_lt, ne_eqb, lt-ltb, le-ltb}
use Rattle.std.proofs.lemmas.List.FromFn.{length-range_with_len, get_or-range_with_len}
use Rattle.sg_base.specs.Sums.{sum_below}
use Rattle.sg_base.proofs.SumLaws.{sum_below-add, sum_below-zero, sum_below-same, sum_below_pick, sum_by_is_sum_below}
use Rattle.sg_arena.specs.Slack.{exactly_one}

-- a sum over a range as a sum below its length
pub sum_by-range : (h : ℕ → ℕ) (k : ℕ) → sum_by h (range_with_len 0 k) ≡ sum_below h k
sum_by-range h k =
    sum_by_is_sum_below h (range_with_len 0 k) 0
    ∙ ap (sum_below (λ i. h (get_or (range_with_len 0 k) i 0))) (length-range_with_len 0 k)
    ∙ sum_below-same (λ i. h (get_or (range_with_len 0 k) i 0)) h k (λ i low. ap h (get_or-range_with_len 0 k i 0 low ∙ zero-add i))

-- the order of two sums is free
sum_below-swap : (f : ℕ → ℕ → ℕ) (a b : ℕ) → sum_below (λ u. sum_below (f u) b) a ≡ sum_below (λ v. sum_below (λ u. f u v) a) b
sum_below-swap f zero b = sym (sum_below-zero (λ v. 0) b (λ v low. refl))
sum_below-swap f (suc a) b = omega (arith, sum_below-swap f a b, sum_below-add (λ v. sum_below (λ u. f u v) a) (f a) b)

-- a factor may stand before a sum
pub sum_below-times : (d : ℕ) (h : ℕ → ℕ) (n : ℕ) → sum_below (λ u. d * h u) n ≡ d * sum_below h n
sum_below-times d h zero = sym (mul-zero d)
sum_below-times d h (suc n) = ap (λ s. s + d * h n) (sum_below-times d h n) ∙ sym (mul-add d (sum_below h n) (h n))

-- of the numbers below n, only one is x
pick : (h : ℕ → ℕ) (x n : ℕ) → x < n → sum_below (λ v. cond (eqb x v) (h v) 0) n ≡ h x
pick h x n low = sum_below-same (λ v. cond (eqb x v) (h v) 0) (λ v. cond (eqb x v) (h x) 0) n (λ v l. here v) ∙ sum_below_pick (h x) x n low
  where
    here : (v : ℕ) → cond (eqb x v) (h v) 0 ≡ cond (eqb x v) (h x) 0
    here v = elim (cases_eq x v) [
      | inl same ↦ ap (λ y. cond (eqb x v) (h y) 0) (sym same)
      | inr differs ↦ rw (ne_eqb x v differs) refl
    ]

cond-sum : (b : Bool) (x y : ℕ) → cond b x 0 + cond b y 0 ≡ cond b (x + y) 0
cond-sum b x y = grind arith

-- both ends of a pair, counted: the pair crosses once, or lies inside
ends : (t a b : Bool) → cond t (cond a 1 0 + cond b 1 0) 0 ≡ cond t (cond (exactly_one a b) 1 0) 0 + 2 * cond t (cond (a && b) 1 0) 0
ends t a b = grind arith

-- a pair is left through one of its ends
way_out : (t a b : Bool) → cond t (cond (a && not b) 1 0 + cond (b && not a) 1 0) 0 ≡ cond t (cond (exactly_one a b) 1 0) 0
way_out t a b = grind arith

-- how many pairs have exactly one leaf that passes
abbrev pub crossings : ℕ → (ℕ → ℕ) → (ℕ → Bool) → ℕ
crossings k m p = sum_below (λ u. cond (ltb u (m u)) (cond (exactly_one (p u) (p (m u))) 1 0) 0) k

module _ (k : ℕ) (m : ℕ → ℕ) (low : (u : ℕ) → u < k → m u < k) (back : (u : ℕ) → u < k → m (m u) ≡ u) where
  -- a sum over the mates is a sum over the leaves
  sum-mates : (h : ℕ → ℕ) → sum_below (λ u. h (m u)) k ≡ sum_below h k
  sum-mates h =
      sum_below-same (λ u. h (m u)) (λ u. sum_below (λ v. cond (eqb (m u) v) (h v) 0) k) k (λ u l. sym (pick h (m u) k (low u l)))
      ∙ sum_below-swap (λ u v. cond (eqb (m u) v) (h v) 0) k k
      ∙ sum_below-same (λ v. sum_below (λ u. cond (eqb (m u) v) (h v) 0) k) h k
      (λ v l. sum_below-same (λ u. cond (eqb (m u) v) (h v) 0) (λ u. cond (eqb (m v) u) (h v) 0) k (λ u j. ap (λ b. cond b (h v) 0) (turned u v j l)) ∙
      sum_below_pick (h v) (m v) k (low v l))
    where
      turned : (u v : ℕ) → u < k → v < k → eqb (m u) v ≡ eqb (m v) u
      turned u v low_u low_v = elim (cases_eq (m u) v) [
        | inl same ↦ eq-eqb (m u) v same ∙ sym (eq-eqb (m v) u (ap m (sym same) ∙ back u low_u))
        | inr differs ↦ ne_eqb (m u) v differs ∙ sym (ne_eqb (m v) u (λ same. differs (ap m (sym same) ∙ back v low_v)))
      ]

  module _ (other : (u : ℕ) → u < k → m u ≢ u) where
    -- a sum over the leaves goes over the pairs, each once, with both leaves
    sum-pairs : (h : ℕ → ℕ) → sum_below h k ≡ sum_below (λ u. cond (ltb u (m u)) (h u + h (m u)) 0) k
    sum-pairs h =
        sum_below-same h (λ u. cond (ltb u (m u)) (h u) 0 + cond (ltb (m u) u) (h u) 0) k (λ u l. split u (other u l))
        ∙ sum_below-add (λ u. cond (ltb u (m u)) (h u) 0) (λ u. cond (ltb (m u) u) (h u) 0) k
        ∙ ap (λ s. sum_below (λ u. cond (ltb u (m u)) (h u) 0) k + s)
        (sym (sum-mates (λ u. cond (ltb (m u) u) (h u) 0))
        ∙ sum_below-same (λ u. cond (ltb (m (m u)) (m u)) (h (m u)) 0) (λ u. cond (ltb u (m u)) (h (m u)) 0) k
        (λ u l. ap (λ v. cond (ltb v (m u)) (h (m u)) 0) (back u l)))
        ∙ sym (sum_below-add (λ u. cond (ltb u (m u)) (h u) 0) (λ u. cond (ltb u (m u)) (h (m u)) 0) k)
        ∙ sum_below-same (λ u. cond (ltb u (m u)) (h u) 0 + cond (ltb u (m u)) (h (m u)) 0) (λ u. cond (ltb u (m u)) (h u + h (m u)) 0) k
        (λ u l. cond-sum (ltb u (m u)) (h u) (h (m u)))
      where
        split : (u : ℕ) → m u ≢ u → h u ≡ cond (ltb u (m u)) (h u) 0 + cond (ltb (m u) u) (h u) 0
        split u differs = elim (cases_lt u (m u)) [
          | inl less ↦ rw (lt-ltb u (m u) less, le-ltb (m u) u (omega arith)) (omega arith)
          | inr more ↦ rw (le-ltb u (m u) more, lt-ltb (m u) u (lower u differs more)) (omega arith)
        ]
          where
            lower : (u : ℕ) → m u ≢ u → m u ≤ u → m u < u
            lower u differs more = omega (arith, differs, more)

    module _ (p : ℕ → Bool) where
      -- an odd number that passes isn't made of pairs
      pub some_crosses : sum_below (λ u. cond (p u) 1 0) k % 2 ≡ 1 → 1 ≤ crossings k m p
      some_crosses odd =
          let whole : sum_below (λ u. cond (p u) 1 0) k ≡ crossings k m p + 2 * sum_below (λ u. cond (ltb u (m u)) (cond (p u && p (m u)) 1 0) 0) k =
          (sum-pairs (λ u. cond (p u) 1 0)
          ∙ sum_below-same (λ u. cond (ltb u (m u)) (cond (p u) 1 0 + cond (p (m u)) 1 0) 0)
          (λ u. cond (ltb u (m u)) (cond (exactly_one (p u) (p (m u))) 1 0) 0 + 2 * cond (ltb u (m u)) (cond (p u && p (m u)) 1 0) 0) k
          (λ u l. ends (ltb u (m u)) (p u) (p (m u)))
          ∙ sum_below-add (λ u. cond (ltb u (m u)) (cond (exactly_one (p u) (p (m u))) 1 0) 0) (λ u. 2 * cond (ltb u (m u)) (cond (p u && p (m u)) 1 0) 0) k
          ∙ ap (λ s. crossings k m p + s) (sum_below-times 2 (λ u. cond (ltb u (m u)) (cond (p u && p (m u)) 1 0) 0) k)) in
          some (crossings k m p) (sum_below (λ u. cond (ltb u (m u)) (cond (p u && p (m u)) 1 0) 0) k) (ap (λ n. n % 2) (sym whole) ∙ odd)
        where
          some : (c i : ℕ) → (c + 2 * i) % 2 ≡ 1 → 1 ≤ c
          some c i e = omega arith

      -- the pairs that cross, by the leaf that passes
      crossings-exits : crossings k m p ≡ sum_below (λ u. cond (p u && not (p (m u))) 1 0) k
      crossings-exits =
          sym (
          sum-pairs (λ u. cond (p u && not (p (m u))) 1 0)
          ∙ sum_below-same (λ u. cond (ltb u (m u)) (cond (p u && not (p (m u))) 1 0 + cond (p (m u) && not (p (m (m u)))) 1 0) 0)
          (λ u. cond (ltb u (m u)) (cond (exactly_one (p u) (p (m u))) 1 0) 0) k
          (λ u l. ap (λ v. cond (ltb u (m u)) (cond (p u && not (p (m u))) 1 0 + cond (p (m u) && not (p v)) 1 0) 0) (back u l) ∙
          way_out (ltb u (m u)) (p u) (p (m u))))

      -- where one leaf that passes has a mate that doesn't, one pair crosses
      pub one_crosses : (w : ℕ) → w < k → p w ≡ true → p (m w) ≡ false → ((u : ℕ) → u < k → p u ≡ true → p (m u) ≡ false → w ≡ u) → crossings k m p ≡ 1
      one_crosses w low_w in_w out_w only =
          crossings-exits
          ∙ sum_below-same (λ u. cond (p u && not (p (m u))) 1 0) (λ u. cond (eqb w u) 1 0) k (λ u l. ap (λ b. cond b 1 0) (alone u l))
          ∙ sum_below_pick 1 w k low_w
        where
          alone : (u : ℕ) → u < k → (p u && not (p (m u))) ≡ eqb w u
          alone u l = elim (cases_eq w u) [
            | inl same ↦ ap (λ v. p v && not (p (m v))) (sym same) ∙ rw (in_w, out_w) (sym (eq-eqb w u same))
            | inr differs ↦ stays (p u) (p (m u)) (λ in_u out_u. differs (only u l in_u out_u)) ∙ sym (ne_eqb w u differs)
          ]
            where
              stays : (a b : Bool) → (a ≡ true → b ≡ false → ⊥) → (a && not b) ≡ false
              stays a b h = grind arith
