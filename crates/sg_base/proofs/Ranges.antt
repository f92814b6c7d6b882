-- Parities and sums over ranges of numbers, as over the numbers below a bound.
use Rattle.std.proofs.Common.{◌≡◌, ℕ, zero, suc, ◌+◌, ◌*◌, Bool, false, ◌∷◌, [], ◌++◌, map, refl, sym, ◌∙◌, ap, ap₂, arith, sum_by, map-id}
use Rattle.std.specs.List.{range_with_len}
use Rattle.std.proofs.lemmas.List.FromFn.{map-range_with_len_more, sum_by-map-range_with_len_more}
use Rattle.sg_base.specs.Parity.{xor, parity_by, parity_below}
use Rattle.sg_base.specs.Sums.{sum_below}
use Rattle.sg_base.proofs.ParityLaws.{parity_by-append, xor_comm, xor-false, xor_self}

range_more : (n : ℕ) → range_with_len 0 (suc n) ≡ range_with_len 0 n ++ n ∷ []
range_more n =
    let e : suc n ≡ n + 1 = omega arith in
    ap (range_with_len 0) e ∙ sym (map-id (range_with_len 0 (n + 1))) ∙ map-range_with_len_more (λ (x : ℕ). x) 0 n n (omega arith)
    ∙ ap (λ xs. xs ++ n ∷ []) (map-id (range_with_len 0 n))

-- the parity over a range
pub parity_by_range : (p : ℕ → Bool) (n : ℕ) → parity_by p (range_with_len 0 n) ≡ parity_below p n
parity_by_range p zero = refl
parity_by_range p (suc n) =
    ap (parity_by p) (range_more n)
    ∙ parity_by-append p (range_with_len 0 n) (n ∷ [])
    ∙ ap₂ xor (parity_by_range p n) (xor-false (p n))
    ∙ xor_comm (parity_below p n) (p n)

-- a sum over what a range is mapped to
pub sum_by-map_range : {X : Type 0} (f : X → ℕ) (g : ℕ → X) (n : ℕ) → sum_by f (map g (range_with_len 0 n)) ≡ sum_below (λ k. f (g k)) n
sum_by-map_range f g zero = refl
sum_by-map_range f g (suc n) =
    let e : suc n ≡ n + 1 = omega arith in
    ap (λ i. sum_by f (map g (range_with_len 0 i))) e ∙ sum_by-map-range_with_len_more f g 0 n n (omega arith) ∙ ap (λ s. s + f (g n)) (sum_by-map_range f g n)

-- numbers that pass in pairs are even in number
pub parity_below_pairs : (p : ℕ → Bool) (m : ℕ) → ((k : ℕ) → p (2 * k + 1) ≡ p (2 * k)) → parity_below p (2 * m) ≡ false
parity_below_pairs p zero same = refl
parity_below_pairs p (suc m) same =
    let e : 2 * suc m ≡ suc (suc (2 * m)) = omega arith in
    let s : suc (2 * m) ≡ 2 * m + 1 = omega arith in
    ap (parity_below p) e ∙ pair (p (suc (2 * m))) (p (2 * m)) (parity_below p (2 * m)) (ap p s ∙ same m) (parity_below_pairs p m same)
  where
    pair : (a b c : Bool) → a ≡ b → c ≡ false → xor a (xor b c) ≡ false
    pair a b c e f = ap₂ xor e (ap (xor b) f ∙ xor-false b) ∙ xor_self b
