-- What reading a source to its end does.
use Rattle.std.specs.Prelude.{◌≡◌, ℕ, ◌+◌, ◌<◌, ◌≤◌, List, [], length, Option, None, Some, ⊤}
use Rattle.sg_io.specs.Devices.{DropsFront, AgreesWith, next_count}
use Rattle.sg_io.specs.declared.reading.ReadEnd.{ReadEnd}
use Rattle.sg_io.specs.declared.reading.ReadEnd.TheVariants as ends

-- the bytes are all that were still to come, if that is told, and none is left
abbrev pub Empties : List ℕ → Option (List ℕ) → Option (List ℕ) → Type 0
Empties bytes None new = new ≡ None
Empties bytes (Some left) new = (bytes ≡ left) × (new ≡ Some [])

-- no more than `limit` bytes are gone from the front of those still to come, if that is told
abbrev pub DropsAtMost : ℕ → Option (List ℕ) → Option (List ℕ) → Type 0
DropsAtMost limit old new = (n : ℕ) × (n ≤ limit) × DropsFront n old new

-- what is gone from the source if it was not read to its end: one byte past the limit, or no more than the limit
abbrev pub Stops : ReadEnd → ℕ → Option (List ℕ) → Option (List ℕ) → Type 0
Stops ends.ReadFault limit old new = DropsAtMost limit old new
Stops ends.TooLong limit old new = DropsFront (limit + 1) old new
Stops ends.NoMemory limit old new = DropsAtMost limit old new

-- there are more bytes than the limit
abbrev pub IsTooLong : ReadEnd → ℕ → Option (List ℕ) → Type 0
IsTooLong ends.TooLong limit old = (bytes : List ℕ) × AgreesWith old bytes × (limit < length bytes)
IsTooLong ends.ReadFault limit old = ⊤
IsTooLong ends.NoMemory limit old = ⊤

-- the count of faults if a source was not read to its end: one more if a read failed
abbrev pub end_faults : ReadEnd → ℕ → ℕ
end_faults ends.ReadFault faults = next_count faults
end_faults ends.TooLong faults = faults
end_faults ends.NoMemory faults = faults
