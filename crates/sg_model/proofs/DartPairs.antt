-- Pairs of darts: each dart is the first or the second of its bond, and `rev` exchanges the two.
use Rattle.std.proofs.Common.{inl, inr, ◌≡◌, ◌⊎◌, ℕ, zero, suc, ◌+◌, ◌*◌, ◌<◌, sym, ◌∙◌, ap, refl, arith}
use Rattle.sg_model.specs.Ising.{Ising}
use Rattle.sg_model.specs.Rotation.{dart_count, rev}
use Rattle.sg_model.proofs.Darts.{rev_first, rev_second}

-- a dart is 2k or 2k + 1
pub dart_cases : (d : ℕ) → (k : ℕ) × ((d ≡ 2 * k) ⊎ (d ≡ 2 * k + 1))
dart_cases zero = (0, inl refl)
dart_cases (suc d) = next_one (dart_cases d)
  where
    next_one : ((k : ℕ) × ((d ≡ 2 * k) ⊎ (d ≡ 2 * k + 1))) → (k : ℕ) × ((suc d ≡ 2 * k) ⊎ (suc d ≡ 2 * k + 1))
    next_one (k, inl e) = (k, inr (omega arith))
    next_one (k, inr e) = (suc k, inl (omega arith))

-- the reverse of the reverse is the dart itself
pub rev_rev : (d : ℕ) → rev (rev d) ≡ d
rev_rev d = by_dart (dart_cases d)
  where
    by_dart : ((k : ℕ) × ((d ≡ 2 * k) ⊎ (d ≡ 2 * k + 1))) → rev (rev d) ≡ d
    by_dart h = grind (arith, rev_first, rev_second)

-- different darts have different reverses
pub rev_apart : (d e : ℕ) → rev d ≡ rev e → d ≡ e
rev_apart d e h = sym (rev_rev d) ∙ ap rev h ∙ rev_rev e

-- the other dart of a bond is a dart
pub rev_below : (inst : Ising) (d : ℕ) → d < dart_count inst → rev d < dart_count inst
rev_below inst d l = by_dart (dart_cases d)
  where
    by_dart : ((k : ℕ) × ((d ≡ 2 * k) ⊎ (d ≡ 2 * k + 1))) → rev d < dart_count inst
    by_dart h = grind (arith, rev_first, rev_second)
