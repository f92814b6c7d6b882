use Rattle.std.proofs.Common.{◌≡◌, ◌+◌, map, flat_map, take}
use Rattle.std.specs.List.{range_with_len}
use Rattle.sg_calls.specs.Crossing.{entries_before}
use Rattle.sg_calls.proofs.tables.joined.Given as goal

abbrev pub invariant-loop-spin : goal.invariant-loop-spin
invariant-loop-spin l = record {
  starts : l.starts.items ≡ map (entries_before (λ list. list) l.rotation) (range_with_len 0 (l.spin + 1));
  darts : l.darts.items ≡ flat_map (λ list. list) (take l.spin l.rotation);
}
