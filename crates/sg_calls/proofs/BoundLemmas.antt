-- Bounds of costs as two lists, and the tests of them.
use Rattle.std.proofs.Common.{arith, ◌≡◌, ℕ, ◌<◌, ℤ, pos, None, List, All, ap₂, get_or, length, sym, nat_lt, ltb-true}
use Rattle.std.proofs.lemmas.List.{get_or_default}
use Rattle.std.proofs.lemmas.List.FromFn.{fill_by_all}
use Rattle.sg_bonds.specs.Bounds.{unbounded}
use Rattle.sg_bonds.specs.declared.bounds.Bound.{Bound}
use Rattle.sg_calls.specs.BondCosts.{SaysBounds, bound_by, bound_lists, wrong_asked}
use Rattle.sg_calls.proofs.FirstLemmas.{all-pass}

-- these two bounds
abbrev paired : ℤ → ℤ → Bound
paired low high = record { low = low; high = high }

-- lists that have the bounds entry by entry say them
pub says_bounds : (low high : List ℤ) (bounds : List Bound) → length low ≡ length bounds → length high ≡ length bounds
    → ((k : ℕ) → k < length bounds → get_or low k (pos 0) ≡ (get_or bounds k unbounded).low)
    → ((k : ℕ) → k < length bounds → get_or high k (pos 0) ≡ (get_or bounds k unbounded).high) → SaysBounds (bound_lists low high) bounds
says_bounds low high bounds count_low count_high lows highs = record {
  count_low = count_low;
  count_high = count_high;
  says = sym (fill_by_all (bound_by (bound_lists low high)) bounds (length low) unbounded (sym count_low) (λ k inside.
      let here : k < length bounds = omega (arith, inside, count_low) in
      ap₂ paired (sym (lows k here)) (sym (highs k here))));
}

-- where no asked number is wrong all are numbers of bonds
pub asked_below : (count : ℕ) (asked : List ℕ) → wrong_asked count asked ≡ None → All (λ k. k < count) asked
asked_below count asked none = λ k d inside.
    omega (arith, get_or_default asked k d 0 inside, ltb-true (get_or asked k 0) count (all-pass (λ n. nat_lt n count) asked 0 none k inside))
