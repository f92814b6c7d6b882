use Rattle.std.proofs.Common.{◌≡◌, ◌≤◌, ◌<◌, ℕ, true, [], get_or, length}
use Rattle.csv.specs.Records.{fields_of}
use Rattle.sg_reader.specs.Field.{is_empty, trimmed}
use Rattle.sg_reader.proofs.field.field_count.Given as goal

-- empty fields alone stand from the count on
abbrev pub invariant-loop-count : goal.invariant-loop-count
invariant-loop-count l = record {
  inside : l.count ≤ length (fields_of l.raw);
  empties : (k : ℕ) → l.count ≤ k → k < length (fields_of l.raw) → is_empty (trimmed (get_or (fields_of l.raw) k [])) ≡ true;
}

abbrev pub decreases-loop-count : goal.decreases-loop-count
decreases-loop-count l = l.count
