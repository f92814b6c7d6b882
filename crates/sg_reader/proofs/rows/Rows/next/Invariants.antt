use Rattle.std.proofs.Common.{◌≡◌, ◌+◌, ◌<◌, ◌≤◌, ◌^◌, length, filter, sum_by}
use Rattle.sg_base.specs.Limits.{text_limit}
use Rattle.sg_reader.specs.Kept.{is_kept, numbered_from}
use Rattle.sg_reader.proofs.rows.Rows.next.Given as goal

-- the records that were read so far are all skipped
abbrev pub invariant-loop-self : goal.invariant-loop-self
invariant-loop-self l = record {
  kept : filter is_kept (numbered_from l.initial.self-inside.taken l.initial.self-inside.cursor)
      ≡ filter is_kept (numbered_from l.self-inside.taken l.self-inside.cursor);
  fits : l.self-inside.taken + length l.self-inside.cursor + 1 < 2 ^ 32;
  few : sum_by length l.self-inside.cursor ≤ text_limit;
}

abbrev pub decreases-loop-self : goal.decreases-loop-self
decreases-loop-self l = length l.self-inside.cursor
