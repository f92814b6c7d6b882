use Rattle.std.proofs.Common.{rules, ◌≡◌, true, sym}
use Rattle.std.specs.List.{list_all}
use Rattle.std.specs.Char.{is_ascii_digit}
use Rattle.sg_words.proofs.Numerals.{number_in-unparsed}
use Rattle.sg_words.proofs.numeral.number_in.Goals as goal

pub returns-in_default-3-clause-value : goal.returns-in_default-3-clause-value
returns-in_default-3-clause-value c =
    let digits : list_all is_ascii_digit c.args.word.now ≡ true = search rules in
    sym (number_in-unparsed c.args.least c.args.most c.args.word.now c.ranges.most.fits digits c.in_default.ensures.value.0)
