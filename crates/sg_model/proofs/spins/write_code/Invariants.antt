use Rattle.std.proofs.Common.{◌≡◌, ◌++◌, ◌-◌, length, take}
use Rattle.sg_model.specs.Codes.{coded}
use Rattle.sg_model.proofs.spins.write_code.Given as goal

abbrev pub invariant-loop-i : goal.invariant-loop-i
invariant-loop-i l = record {
  count : length l.values ≡ length l.fn.values;
  written : take l.i l.values ++ coded (length l.fn.values - l.i) l.rest ≡ coded (length l.fn.values) l.code;
}
