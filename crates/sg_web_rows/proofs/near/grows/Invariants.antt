-- `grows`: the leaves so far are members in a line.
use Rattle.std.proofs.Common.{◌≡◌, length}
use Rattle.sg_slack.specs.Line.{IsLine}
use Rattle.sg_web_rows.proofs.near.grows.Given as goal

abbrev pub invariant-loop-leaf : goal.invariant-loop-leaf
invariant-loop-leaf g l = record {
  size : l.near.table.size ≡ 8;
  line : IsLine l.near.members l.leaf;
  totals : length l.totals ≡ 8;
  marks : length l.marks ≡ 8;
}
