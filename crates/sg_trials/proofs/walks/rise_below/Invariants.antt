-- What was seen rises, below the bound.
use Rattle.std.proofs.Common.{ℕ, ◌+◌, ◌<◌, get_or}
use Rattle.sg_trials.proofs.walks.rise_below.Given as goal

abbrev pub invariant-loop-k : goal.invariant-loop-k
invariant-loop-k l = record {
  below : (i : ℕ) → i < l.k → get_or l.list i 0 < l.bound;
  rising : (i : ℕ) → i + 1 < l.k → get_or l.list i 0 < get_or l.list (i + 1) 0;
}
