-- `mark_leaves`: the marks so far give the places of the tops.
use Rattle.std.proofs.Common.{◌≡◌, ℕ, ◌<◌, get_or, length}
use Rattle.sg_match.proofs.leaves.mark_leaves.Given as goal
use Rattle.sg_match.specs.Tree.{StandsAt}
use Rattle.sg_slack.specs.Slack.{mark_at}

abbrev pub invariant-loop-leaf : goal.invariant-loop-leaf
invariant-loop-leaf l = record {
  count : length l.marks ≡ length l.fn.marks;
  marked : (k : ℕ) → k < l.leaf → StandsAt l.root l.edges (get_or l.tops k 0) (mark_at l.marks k);
}
