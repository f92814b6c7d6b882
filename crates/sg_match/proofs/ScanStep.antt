-- The amount that both scans give together.
use Rattle.std.proofs.Common.{◌≡◌, ℕ, ◌*◌, ◌/◌, ◌<◌, ◌≤◌, true, false, List, ℤ, pos, ◌≤ℤ◌, Option, Some, None, FitsSigned, to_z, of_z, w64, refl, sym, ap, ◌∙◌, subst, arith}
use Rattle.std.specs.Int.Signed.{lt_z, quot_z}
use Rattle.std.proofs.lemmas.Int.{ints, to_z-of_z}
use Rattle.sg_match.specs.Scans.{CanScan, IsScanned}
use Rattle.sg_match.specs.declared.Event.TheVariants.{OuterFree, OuterOuter}
use Rattle.sg_slack.specs.Slack.{IsLeast, IsOuterFree, IsOuterOuter, Least, slack_of}
use Rattle.sg_slack.specs.Table.{Table}
use Rattle.sg_slack.specs.declared.Mark.{Mark}
use Rattle.sg_slack.specs.declared.Pair.{Pair}

-- a whole number that fits comes back as it went
pub whole_is : (z : ℤ) (n : ℕ) → z ≡ pos n → FitsSigned w64 z → to_z w64 (of_z w64 z) ≡ pos n
whole_is z n is fits = to_z-of_z w64 z fits ∙ is

-- and so does its half
pub half_is : (z : ℤ) (n : ℕ) → z ≡ pos (2 * n) → FitsSigned w64 z → to_z w64 (of_z w64 (quot_z (to_z w64 (of_z w64 z)) (pos 2))) ≡ pos n
half_is z n is fits =
    let even : FitsSigned w64 (pos (2 * n)) = subst (λ x. FitsSigned w64 x) is fits in
    let fits_half : FitsSigned w64 (pos n) = omega (arith, even) in
    let halved : (2 * n) / 2 ≡ n = omega arith in
    ap (λ x. to_z w64 (of_z w64 (quot_z x (pos 2)))) (whole_is z (2 * n) is fits)
    ∙ ap (λ k. to_z w64 (of_z w64 (pos k))) halved
    ∙ to_z-of_z w64 (pos n) fits_half

-- what a test of two such numbers says
pub less_is : (x y : ℤ) (a b : ℕ) → x ≡ pos a → y ≡ pos b → lt_z x y ≡ true → a < b
less_is x y a b is_x is_y test = omega (arith, ints, is_x, is_y, test)

-- signed numbers that are not less, as natural ones
pub not_less_is : (x y : ℤ) (a b : ℕ) → x ≡ pos a → y ≡ pos b → lt_z x y ≡ false → b ≤ a
not_less_is x y a b is_x is_y test = omega (arith, ints, is_x, is_y, test)

module _ (t : Table) (tops : List ℕ) (totals : List ℤ) (marks : List Mark) where
  -- the amount is that of a pair of an outer and a free leaf
  pub IsScanned-free : (free : Pair) (both : Option Pair) (amount : ℕ) → IsLeast t totals (IsOuterFree t marks) free → free.slack ≡ pos amount →
      Least t totals (IsOuterOuter t tops marks) both → ((q : Pair) → both ≡ Some q → pos (2 * amount) ≤ℤ q.slack) →
      IsScanned t tops totals marks amount (OuterFree free.u free.v)
  IsScanned-free free both amount least is least_both less =
      record {
        free = λ u v pair. omega (arith, ints, least.least u v pair, is);
        between = λ u v pair. go both least_both less u v pair;
        one = (least.one, sym least.slack ∙ is);
      }
    where
      go : (o : Option Pair) → Least t totals (IsOuterOuter t tops marks) o → ((q : Pair) → o ≡ Some q → pos (2 * amount) ≤ℤ q.slack) → (u v : ℕ) →
          IsOuterOuter t tops marks u v → pos (2 * amount) ≤ℤ slack_of t totals u v
      go None none less u v pair = absurd (none u v pair)
      go (Some q) found less u v pair = omega (arith, ints, less q refl, found.least u v pair)

  -- the slack of an outer and a free leaf is 0
  pub IsScanned-none : (free : Pair) → CanScan t tops totals marks → IsLeast t totals (IsOuterFree t marks) free → free.slack ≡ pos 0 →
      IsScanned t tops totals marks 0 (OuterFree free.u free.v)
  IsScanned-none free can least is =
      record {
        free = λ u v pair. omega (arith, ints, least.least u v pair, is);
        between = λ u v pair. let n = can.both u v pair in omega (arith, ints, n.1);
        one = (least.one, sym least.slack ∙ is);
      }

  -- the amount is half the slack of two outer leaves
  pub IsScanned-both : (free both : Pair) (amount : ℕ) → IsLeast t totals (IsOuterFree t marks) free → IsLeast t totals (IsOuterOuter t tops marks) both →
      both.slack ≡ pos (2 * amount) → pos amount ≤ℤ free.slack → IsScanned t tops totals marks amount (OuterOuter both.u both.v)
  IsScanned-both free both amount least least_both is less =
      record {
        free = λ u v pair. omega (arith, ints, least.least u v pair, less);
        between = λ u v pair. omega (arith, ints, least_both.least u v pair, is);
        one = (least_both.one, sym least_both.slack ∙ is);
      }
