use Rattle.std.proofs.Common.{◌≡◌, ◌+◌, ◌-◌, ◌≤◌, length}
use Rattle.sg_io.proofs.DeviceLemmas.{Takes}
use Rattle.sg_io.proofs.reading.gather.Given as goal

abbrev pub invariant-loop-count : goal.invariant-loop-count
invariant-loop-count g l = record {
  taken : Takes l.bytes.items (g.S.Source.left l.fn.source) (g.S.Source.left l.source);
  within : length l.bytes.items ≤ l.limit;
  counted : g.S.Source.faults l.source ≡ g.S.Source.faults l.fn.source;
}

abbrev pub decreases-loop-count : goal.decreases-loop-count
decreases-loop-count g l = l.limit + 1 - length l.bytes.items
