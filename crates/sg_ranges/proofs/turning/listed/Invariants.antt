use Rattle.std.proofs.Common.{◌≡◌, ℕ, ◌<◌, pos, length, get_or}
use Rattle.sg_ranges.specs.Turn.{IsTurn}
use Rattle.sg_ranges.proofs.turning.listed.Given as goal

abbrev pub invariant-loop-k : goal.invariant-loop-k
invariant-loop-k l = record {
  count : length l.turns ≡ l.k;
  each : (i : ℕ) → i < l.k → IsTurn l.inst i (get_or l.turns i (pos 0));
}
