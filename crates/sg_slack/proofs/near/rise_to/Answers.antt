-- `rise_to`: after the last member, or at the first that has not risen alike.
use Rattle.std.proofs.Common.{arith, rules}
use borrow.Author.Count.{below_more}
use Rattle.std.specs.Int.{w128}
use Rattle.std.proofs.lemmas.Bool.{cases_lt, eq-eqb, false≢true}
use Rattle.std.proofs.lemmas.Int.{ints, to_z-of_z}
use Rattle.sg_slack.proofs.near.rise_to.Goals as goal

pub returns : goal.returns
returns c = grind (arith, ints, cases_lt, false≢true, eq-eqb, c.if-is_empty.false, c.is_empty.ensures, c.if-rise-last.false, c.loop-member.invariant)

pub returns-then-rise-last : goal.returns-then-rise-last
returns-then-rise-last c = grind (arith, ints, to_z-of_z, c.rise_of-rise.ensures.rise)

pub returns-then-not-has_risen : goal.returns-then-not-has_risen
returns-then-not-has_risen c =
    grind (arith, ints, to_z-of_z, false≢true, c.rise_of-rise.ensures.rise, c.loop-member-test.true, c.if-not-has_risen.true, c.has_risen.ensures.each)

pub has_risen-requires-clause-whole : goal.has_risen-requires-clause-whole
has_risen-requires-clause-whole c = omega (arith, ints, to_z-of_z w128 c.args.last (search rules), c.if-rise-last.false)

pub has_risen-requires-clause-high : goal.has_risen-requires-clause-high
has_risen-requires-clause-high c = omega (arith, ints, to_z-of_z w128 c.rise_of-rise.result (search rules))

pub loop-member-preserved : goal.loop-member-preserved
loop-member-preserved c = below_more _ _ c.loop-member.invariant (c.has_risen.ensures.fits, c.has_risen.ensures.risen c.if-not-has_risen.false)
