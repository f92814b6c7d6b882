use Rattle.std.proofs.Common.{◌≡◌, ◌++◌}
use Rattle.sg_reader.specs.Body.{numbers_from}
use Rattle.sg_reader.specs.Tests.{any_number, fields_fault, field_fault}
use Rattle.sg_reader.proofs.body.push_couplings.Given as goal

-- the fields so far are numbers, and were added
abbrev pub invariant-loop-i : goal.invariant-loop-i
invariant-loop-i l = record {
  passes : fields_fault (field_fault any_number) 0 l.row ≡ fields_fault (field_fault any_number) l.i l.row;
  added : l.couplings ++ numbers_from l.row l.i ≡ l.initial.couplings ++ numbers_from l.row 0;
}
