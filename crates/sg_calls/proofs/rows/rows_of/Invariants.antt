use Rattle.std.proofs.Common.{◌≡◌, ◌+◌, map, flat_map, take}
use Rattle.std.specs.List.{range_with_len}
use Rattle.sg_calls.specs.Crossing.{entries_before}
use Rattle.sg_calls.proofs.rows.rows_of.Given as goal

abbrev pub invariant-loop-each : goal.invariant-loop-each
invariant-loop-each l = record {
  starts : l.starts.items ≡ map (entries_before (λ each. each.bonds) l.loops) (range_with_len 0 (l.each-index + 1));
  bonds : l.bonds.items ≡ flat_map (λ each. each.bonds) (take l.each-index l.loops);
}
