use Rattle.std.proofs.Common.{◌≡◌, take}
use Rattle.std.specs.Str.Parse.{AllDigits, digits_value}
use Rattle.sg_reader.proofs.numeral.size_of.Given as goal

-- the bytes so far are digits, and spell this size
abbrev pub invariant-loop-digit : goal.invariant-loop-digit
invariant-loop-digit l = record { digits : AllDigits 10 (take l.digit-index l.digits); value : l.size ≡ digits_value 10 (take l.digit-index l.digits) }
