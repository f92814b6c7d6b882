use Rattle.std.proofs.Common.{◌≡◌, ◌++◌}
use Rattle.sg_reader.specs.Body.{sizes_from}
use Rattle.sg_reader.specs.Tests.{any_index, fields_fault, field_fault}
use Rattle.sg_reader.proofs.body.indices.Given as goal

-- the fields so far are numbers, and are listed
abbrev pub invariant-loop-i : goal.invariant-loop-i
invariant-loop-i l = record {
  passes : fields_fault (field_fault any_index) l.from l.row ≡ fields_fault (field_fault any_index) l.i l.row;
  listed : l.list ++ sizes_from l.row l.i ≡ sizes_from l.row l.from;
}
