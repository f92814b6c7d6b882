use Rattle.std.proofs.Common.{◌≡◌, ◌<◌, ℕ, Some, get_or, pos, take, true}
use Rattle.sg_reader.specs.Result.{is_spin_value}
use Rattle.sg_calls.proofs.stated.spins_by.Given as goal

-- the values so far, each of them 1 or -1
abbrev pub invariant-loop-k : goal.invariant-loop-k
invariant-loop-k l = record {
  values : l.spins ≡ take l.k l.values;
  passes : (i : ℕ) → i < l.k → is_spin_value (Some (get_or l.values i (pos 0))) ≡ true;
}
