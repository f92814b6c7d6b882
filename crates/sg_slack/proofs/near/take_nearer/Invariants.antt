-- `take_nearer`: the leaves so far have the nearer one, and the others what they had.
use Rattle.std.proofs.Common.{◌≡◌, ℕ, ◌<◌, ◌≤◌}
use Rattle.sg_slack.specs.Kept.{IsTakenAt, nearest_at}
use Rattle.sg_slack.proofs.near.take_nearer.Given as goal

abbrev pub invariant-loop-v : goal.invariant-loop-v
invariant-loop-v l = record {
  taken : (w : ℕ) → w < l.v → IsTakenAt l.costs l.member l.first w (nearest_at l.fn.nearest w) (nearest_at l.nearest w);
  rest : (w : ℕ) → l.v ≤ w → nearest_at l.nearest w ≡ nearest_at l.fn.nearest w;
}
