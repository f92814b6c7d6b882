use Rattle.std.proofs.Common.{◌≡◌, ◌++◌}
use Rattle.sg_reader.specs.Body.{numbers_from}
use Rattle.sg_reader.specs.Result.{spin_fault}
use Rattle.sg_reader.specs.Tests.{fields_fault}
use Rattle.sg_reader.proofs.result.read_spins.Given as goal

-- the fields so far are values of spins, and are listed
abbrev pub invariant-loop-i : goal.invariant-loop-i
invariant-loop-i l = record {
  passes : fields_fault spin_fault 1 l.row ≡ fields_fault spin_fault l.i l.row;
  listed : l.spins ++ numbers_from l.row l.i ≡ numbers_from l.row 1;
}
