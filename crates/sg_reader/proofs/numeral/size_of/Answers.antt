use Rattle.std.proofs.Common.{◌<◌, ◌+◌, get_or, arith, rules}
use Rattle.std.specs.Char.{digit_value}
use Rattle.std.proofs.lemmas.Int.Digits.{digits_more, digits_value_more}
use Rattle.std.proofs.lemmas.Str.{digit_value_digit}
use Rattle.std.proofs.lemmas.Str.Parse.{digit_at, digit_from_value, digits_value-take-le}
use Rattle.sg_reader.proofs.numeral.size_of.Goals as goal

pub returns-then-not-is_ascii_digit-clause-none : goal.returns-then-not-is_ascii_digit-clause-none
returns-then-not-is_ascii_digit-clause-none c = λ numeral fits.
    let range = digit_at _ _ numeral.1 c.loop-digit-test.true in
    absurd (omega (arith, range.0, range.1, c.if-not-is_ascii_digit.ensures.cases))

pub returns-then-size-gt-LARGEST_FRONT-clause-none : goal.returns-then-size-gt-LARGEST_FRONT-clause-none
returns-then-size-gt-LARGEST_FRONT-clause-none c = λ numeral fits.
    let more = digits_value_more 10 c.args.digits.now c.loop-digit.digit-index c.loop-digit-test.true in
    let most = digits_value-take-le 10 c.args.digits.now (c.loop-digit.digit-index + 1) (omega arith) in
    absurd (omega (arith, fits, more, most, c.loop-digit.invariant.value, c.if-size-gt-LARGEST_FRONT.true))

pub loop-digit-preserved : goal.loop-digit-preserved
loop-digit-preserved c =
    let ds = c.args.digits.now in
    let i = c.loop-digit.digit-index in
    let bound : digit_value (get_or ds i 0) < 10 = c.if-not-is_ascii_digit.ensures.bound in
    let written = digit_value_digit (get_or ds i 0) (digit_from_value (get_or ds i 0) bound) in
    record {
      digits = digits_more 10 ds i c.loop-digit-test.true c.loop-digit.invariant.digits bound;
      value = omega (arith, c.loop-digit.invariant.value, digits_value_more 10 ds i c.loop-digit-test.true, written);
    }

pub returns-then-is_empty-clause-numeral : goal.returns-then-is_empty-clause-numeral
returns-then-is_empty-clause-numeral c = search rules
