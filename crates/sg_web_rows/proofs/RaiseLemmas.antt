-- When the duals of one or two tops may be changed.
use Rattle.std.proofs.Common.{◌≢◌, ℕ, zero, suc, ◌+◌, ◌^◌, ◌<◌, ◌≤◌, [], ◌∷◌, arith}
use Rattle.std.proofs.lemmas.Int.{ints}
use Rattle.std.specs.Prelude.{ℤ, pos, negsuc, ◌≤ℤ◌, slice_index}
use Rattle.sg_arena.specs.Family.{Family, Holds, IsTop, dual_of, total_of}
use Rattle.sg_arena.specs.Changes.{CanRaise}
use Rattle.sg_base.specs.Naturals.{nat_of}

-- a whole number's natural part is no larger
pub nat_of-bound : (z : ℤ) (n : ℕ) → z ≤ℤ pos n → nat_of z ≤ n
nat_of-bound (pos m) n below = omega (arith, ints, below)
nat_of-bound (negsuc m) n below = omega arith

module _ (f : Family) (t delta : ℕ) (top : IsTop f t) (fits : (leaf : ℕ) → Holds f t leaf → total_of f leaf + delta ≤ 2 ^ 61) where
  -- one outer top
  pub CanRaise-one : CanRaise f (t ∷ []) [] delta
  CanRaise-one =
      record {
        tops = record {
          outer_tops = λ i within. one_top i within;
          inner_tops = λ i within. absurd (omega arith);
          outer_differ = λ i j a b same. omega arith;
          inner_differ = λ i j a b same. omega arith;
          apart = λ i j a b. absurd (omega arith);
        };
        enough = λ i within. absurd (omega arith);
        fits = λ i leaf within held. one_fits i leaf within held;
      }
    where
      one_top : (i : ℕ) → i < 1 → IsTop f (slice_index (t ∷ []) i)
      one_top zero within = top
      one_top (suc i) within = absurd (omega arith)

      one_fits : (i leaf : ℕ) → i < 1 → Holds f (slice_index (t ∷ []) i) leaf → total_of f leaf + delta ≤ 2 ^ 61
      one_fits zero leaf within held = fits leaf held
      one_fits (suc i) leaf within held = absurd (omega arith)

  -- an outer and an inner one
  pub CanRaise-two : (s : ℕ) → IsTop f s → t ≢ s → delta ≤ dual_of f s → CanRaise f (t ∷ []) (s ∷ []) delta
  CanRaise-two s top_s differ enough =
      record {
        tops = record {
          outer_tops = CanRaise-one.tops.outer_tops;
          inner_tops = λ i within. inner_top i within;
          outer_differ = λ i j a b same. omega arith;
          inner_differ = λ i j a b same. omega arith;
          apart = λ i j a b. two_apart i j a b;
        };
        enough = λ i within. inner_enough i within;
        fits = CanRaise-one.fits;
      }
    where
      inner_top : (i : ℕ) → i < 1 → IsTop f (slice_index (s ∷ []) i)
      inner_top zero within = top_s
      inner_top (suc i) within = absurd (omega arith)

      inner_enough : (i : ℕ) → i < 1 → delta ≤ dual_of f (slice_index (s ∷ []) i)
      inner_enough zero within = enough
      inner_enough (suc i) within = absurd (omega arith)

      two_apart : (i j : ℕ) → i < 1 → j < 1 → slice_index (t ∷ []) i ≢ slice_index (s ∷ []) j
      two_apart zero zero a b = differ
      two_apart (suc i) j a b = absurd (omega arith)
      two_apart zero (suc j) a b = absurd (omega arith)
