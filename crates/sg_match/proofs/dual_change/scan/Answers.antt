-- `scan`: slacks fit in 64 bits, and the lesser of the free one and half the other's is the amount.
use Rattle.std.proofs.Common.{◌≡◌, ℕ, ◌*◌, ℤ, pos, FitsSigned, sym, ap, ◌∙◌, subst, arith, to_z, of_z, w64}
use Rattle.std.proofs.lemmas.Option.{none-some, same_Some}
use Rattle.std.proofs.lemmas.Int.{ints}
use Rattle.std.specs.Int.Signed.{quot_z}
use Rattle.sg_base.specs.Naturals.{nat_of}
use Rattle.sg_match.proofs.ScanStep.{IsScanned-both, IsScanned-free, IsScanned-none, half_is, less_is, not_less_is, whole_is}
use Rattle.sg_match.proofs.dual_change.scan.Goals as goal
use Rattle.sg_match.proofs.dual_change.scan.Goals.{In-Some, In-Some-both}
use Rattle.sg_match.specs.Scans.{IsScanned}
use Rattle.sg_slack.specs.Slack.{IsLeast, IsOuterFree, IsOuterOuter, Least}
use Rattle.sg_match.specs.declared.Event.TheVariants.{OuterOuter, OuterFree}

-- the least slack of a free leaf, a whole number that comes back from 64 bits as it went
record IsFreeAt (c : In-Some) : Type 0 where
  amount : ℕ
  slack : c.in-Some.free.slack ≡ pos amount
  same : to_z w64 (of_z w64 c.in-Some.free.slack) ≡ pos amount
  again : to_z w64 (of_z w64 (to_z w64 (of_z w64 c.in-Some.free.slack))) ≡ pos amount

free_is : (c : In-Some) → IsLeast c.args.costs.now c.args.totals.now (IsOuterFree c.args.costs.now c.args.marks.now) c.in-Some.free
free_is c = subst (λ o. Least c.args.costs.now c.args.totals.now (IsOuterFree c.args.costs.now c.args.marks.now) o) c.in-Some.is c.requires.free

free_at : (c : In-Some) → IsFreeAt c
free_at c =
    let free = c.in-Some.free in
    let least = free_is c in
    let here = c.requires.can.free free.u free.v least.one in
    let fits : FitsSigned w64 free.slack = subst (λ z. FitsSigned w64 z) (sym least.slack)
    (c.requires.fits.slack free.u free.v least.one.u_leaf least.one.v_leaf) in
    let is : free.slack ≡ pos here.0 = least.slack ∙ here.1 in
    let same = whole_is free.slack here.0 is fits in
    record {
      amount = here.0;
      slack = is;
      same = same;
      again = whole_is (to_z w64 (of_z w64 free.slack)) here.0 same (subst (λ z. FitsSigned w64 z) (sym (same ∙ sym is)) fits);
    }

-- the least slack of two outer leaves, and its half
record IsBothAt (c : In-Some-both) : Type 0 where
  amount : ℕ
  slack : c.in-Some-both.both.slack ≡ pos (2 * amount)
  half : to_z w64 (of_z w64 (quot_z (to_z w64 (of_z w64 c.in-Some-both.both.slack)) (pos 2))) ≡ pos amount

both_is : (c : In-Some-both) → IsLeast c.args.costs.now c.args.totals.now (IsOuterOuter c.args.costs.now c.args.tops.now c.args.marks.now) c.in-Some-both.both
both_is c =
    subst (λ o. Least c.args.costs.now c.args.totals.now
    (IsOuterOuter c.args.costs.now c.args.tops.now c.args.marks.now) o) c.in-Some-both.is c.least_outer_outer-both.ensures

both_at : (c : In-Some-both) → IsBothAt c
both_at c =
    let both = c.in-Some-both.both in
    let best = both_is c in
    let here = c.requires.can.both both.u both.v best.one in
    let fits : FitsSigned w64 both.slack = subst (λ z. FitsSigned w64 z) (sym best.slack)
    (c.requires.fits.slack both.u both.v best.one.u_leaf best.one.v_leaf) in
    let is : both.slack ≡ pos (2 * here.0) = best.slack ∙ here.1 in
    record { amount = here.0; slack = is; half = half_is both.slack here.0 is fits }

-- a number that is whole is that of its own natural number
whole : (z : ℤ) (n : ℕ) → z ≡ pos n → z ≡ pos (nat_of z)
whole z n is = is ∙ ap (λ x. pos (nat_of x)) (sym is)

pub returns-in-Some-both-clause-whole : goal.returns-in-Some-both-clause-whole
returns-in-Some-both-clause-whole c =
    let at = both_at (goal.at.returns-in-Some-both-clause-whole c).In-Some-both in
    whole _ at.amount at.half

pub returns-in-Some-both-clause-scanned : goal.returns-in-Some-both-clause-scanned
returns-in-Some-both-clause-scanned c =
    let free = c.in-Some.free in
    let q = c.in-Some-both.both in
    let at = both_at (goal.at.returns-in-Some-both-clause-scanned c).In-Some-both in
    let here = free_at (goal.at.returns-in-Some-both-clause-scanned c).In-Some in
    let less = less_is (to_z w64 (of_z w64 (quot_z (to_z w64 (of_z w64 q.slack)) (pos 2))))
    (to_z w64 (of_z w64 (to_z w64 (of_z w64 free.slack)))) at.amount here.amount at.half here.again c.if-both-away.true in
    subst (λ z. IsScanned c.args.costs.now c.args.tops.now c.args.totals.now c.args.marks.now (nat_of z) (OuterOuter q.u q.v)) (sym at.half)
    (IsScanned-both c.args.costs.now c.args.tops.now c.args.totals.now c.args.marks.now free q at.amount (free_is
    (goal.at.returns-in-Some-both-clause-scanned c).In-Some)
    (both_is (goal.at.returns-in-Some-both-clause-scanned c).In-Some-both) at.slack (omega (arith, ints, less, here.slack)))

pub returns-in_default-both-clause-whole : goal.returns-in_default-both-clause-whole
returns-in_default-both-clause-whole c =
    let here = free_at (goal.at.returns-in_default-both-clause-whole c).In-Some in
    whole _ here.amount here.same

pub returns-in_default-both-clause-scanned : goal.returns-in_default-both-clause-scanned
returns-in_default-both-clause-scanned c =
    let free = c.in-Some.free in
    let q = c.in-Some-both.both in
    let at = both_at (goal.at.returns-in_default-both-clause-scanned c).In-Some-both in
    let here = free_at (goal.at.returns-in_default-both-clause-scanned c).In-Some in
    let more = not_less_is (to_z w64 (of_z w64 (quot_z (to_z w64 (of_z w64 q.slack)) (pos 2))))
    (to_z w64 (of_z w64 (to_z w64 (of_z w64 free.slack)))) at.amount here.amount at.half here.again c.if-both-away.false in
    subst (λ z. IsScanned c.args.costs.now c.args.tops.now c.args.totals.now c.args.marks.now (nat_of z) (OuterFree free.u free.v)) (sym here.same)
    (IsScanned-free c.args.costs.now c.args.tops.now c.args.totals.now c.args.marks.now free c.least_outer_outer-both.result here.amount (free_is
    (goal.at.returns-in_default-both-clause-scanned c).In-Some)
    here.slack c.least_outer_outer-both.ensures
    (λ p is_p. let same = same_Some q p (sym c.in-Some-both.is ∙ is_p) in omega (arith, ints, more, ap (λ x. x.slack) same, at.slack)))

pub returns-in_default-both-2-clause-whole : goal.returns-in_default-both-2-clause-whole
returns-in_default-both-2-clause-whole c =
    let here = free_at (goal.at.returns-in_default-both-2-clause-whole c).In-Some in
    whole _ here.amount here.same

pub returns-in_default-both-2-clause-scanned : goal.returns-in_default-both-2-clause-scanned
returns-in_default-both-2-clause-scanned c =
    let free = c.in-Some.free in
    let here = free_at (goal.at.returns-in_default-both-2-clause-scanned c).In-Some in
    subst (λ z. IsScanned c.args.costs.now c.args.tops.now c.args.totals.now c.args.marks.now (nat_of z) (OuterFree free.u free.v)) (sym here.same)
    (IsScanned-free c.args.costs.now c.args.tops.now c.args.totals.now c.args.marks.now free c.least_outer_outer-both.result here.amount (free_is
    (goal.at.returns-in_default-both-2-clause-scanned c).In-Some)
    here.slack c.least_outer_outer-both.ensures
    (λ p is_p. absurd (none-some p (sym c.in_default-both.is ∙ is_p))))

pub returns-then-free-eq0-clause-scanned : goal.returns-then-free-eq0-clause-scanned
returns-then-free-eq0-clause-scanned c =
    let free = c.in-Some.free in
    let here = free_at (goal.at.returns-then-free-eq0-clause-scanned c).In-Some in
    let none : pos here.amount ≡ pos 0 = sym here.same ∙ ap (to_z w64) c.if-free-eq0.true in
    subst (λ z. IsScanned c.args.costs.now c.args.tops.now c.args.totals.now c.args.marks.now (nat_of z) (OuterFree free.u free.v)) (sym (here.same ∙ none))
    (IsScanned-none c.args.costs.now c.args.tops.now c.args.totals.now c.args.marks.now free c.requires.can (free_is
    (goal.at.returns-then-free-eq0-clause-scanned c).In-Some) (here.slack ∙ none))
