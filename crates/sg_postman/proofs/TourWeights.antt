-- The weight of a tour is a sum that fits 64 bits.
use Rattle.std.proofs.Common.{◌≡◌, ◌∙◌, sym, ap, ap₂, subst, ℕ, ◌+◌, ◌≤◌, ◌^◌, ℤ, ◌+ℤ◌, pos, to_z, of_z, w64, arith, FitsSigned}
use Rattle.std.proofs.lemmas.Int.{fits_signed_from_abs, to_z-of_z}

module _ (m n : ℕ) (a b : ℤ) (first : a ≡ pos m) (second : b ≡ pos n) (small : m + n ≤ 2 ^ 60) where
  fits : (k : ℕ) → k ≤ 2 ^ 60 → FitsSigned w64 (pos k)
  fits k l = fits_signed_from_abs w64 (pos k) (omega (arith, l))

  kept : (z : ℤ) (k : ℕ) → z ≡ pos k → k ≤ 2 ^ 60 → to_z w64 (of_z w64 z) ≡ pos k
  kept z k is l = ap (λ x. to_z w64 (of_z w64 x)) is ∙ to_z-of_z w64 (pos k) (fits k l)

  both : to_z w64 (of_z w64 a) +ℤ to_z w64 (of_z w64 b) ≡ pos (m + n)
  both = ap₂ (λ x y. x +ℤ y) (kept a m first (omega (arith, small))) (kept b n second (omega (arith, small)))

  -- the sum fits 64 bits
  pub sum_fits : FitsSigned w64 (to_z w64 (of_z w64 a) +ℤ to_z w64 (of_z w64 b))
  sum_fits = subst (FitsSigned w64) (sym both) (fits (m + n) small)

  -- the sum in the code is the sum of the two weights
  pub sum_is : to_z w64 (of_z w64 (to_z w64 (of_z w64 a) +ℤ to_z w64 (of_z w64 b))) ≡ pos (m + n)
  sum_is = kept (to_z w64 (of_z w64 a) +ℤ to_z w64 (of_z w64 b)) (m + n) both small
