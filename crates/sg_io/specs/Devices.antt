-- What one call does to a device: the bytes still to come, the bytes written, the count of faults.
use Rattle.std.specs.Prelude.{◌≡◌, ℕ, ◌+◌, ◌≤◌, min, Bool, true, false, List, [], ◌++◌, length, take, drop, Option, None, Some, ⊤}
use Rattle.sg_io.specs.declared.devices.Took.{Took}
use Rattle.sg_io.specs.declared.devices.Took.TheVariants as took
use Rattle.sg_io.specs.declared.devices.Gave.{Gave}
use Rattle.sg_io.specs.declared.devices.Gave.TheVariants as gave

-- where a count of 64 bits stays, once it is there
abbrev pub last_count : ℕ
last_count = 18446744073709551615

-- one more, but never past the last value
abbrev pub next_count : ℕ → ℕ
next_count n = min (n + 1) last_count

-- one failed call is counted
abbrev pub FaultShown : ℕ → ℕ → Type 0
FaultShown old new = new ≡ next_count old

-- the bytes still to come, if they are told, have lost the first n
abbrev pub DropsFront : ℕ → Option (List ℕ) → Option (List ℕ) → Type 0
DropsFront n None new = new ≡ None
DropsFront n (Some left) new = (n ≤ length left) × (new ≡ Some (drop n left))

-- the bytes agree with what a device tells of its own: they are those that it tells, and any where it tells none
abbrev pub AgreesWith : Option (List ℕ) → List ℕ → Type 0
AgreesWith None bytes = ⊤
AgreesWith (Some known) bytes = bytes ≡ known

-- the first n bytes of the buffer are the first n of those still to come, if they are told
abbrev pub Delivers : ℕ → List ℕ → Option (List ℕ) → Type 0
Delivers n into None = ⊤
Delivers n into (Some left) = take n into ≡ take n left

-- no byte is still to come, if that is told
abbrev pub IsSpent : Option (List ℕ) → Type 0
IsSpent None = ⊤
IsSpent (Some left) = left ≡ []

-- at least one of at most `room`
abbrev pub IsCount : ℕ → ℕ → Type 0
IsCount n room = (1 ≤ n) × (n ≤ room)

-- how many bytes a read gave: at least one, and no more than the buffer holds
abbrev pub ReadsWithin : Took → List ℕ → Type 0
ReadsWithin (took.Got n) into = IsCount n (length into)
ReadsWithin took.End into = ⊤
ReadsWithin took.Failed into = ⊤

-- what a read did: it moved bytes from the source into the buffer, found none to come, or failed and left them all
abbrev pub Reads : Took → List ℕ → Option (List ℕ) → Option (List ℕ) → Type 0
Reads (took.Got n) into old new = Delivers n into old × DropsFront n old new
Reads took.End into old new = IsSpent old × (new ≡ old)
Reads took.Failed into old new = new ≡ old

-- whether a read failed
abbrev pub read_failed : Took → Bool
read_failed (took.Got n) = false
read_failed took.End = false
read_failed took.Failed = true

-- the count of faults after a read: one more if it failed, and never past the last value
abbrev pub read_faults : Took → ℕ → ℕ
read_faults (took.Got n) faults = faults
read_faults took.End faults = faults
read_faults took.Failed faults = next_count faults

-- the bytes written, if they are told, have grown by these
abbrev pub Grows : List ℕ → Option (List ℕ) → Option (List ℕ) → Type 0
Grows bytes None new = new ≡ None
Grows bytes (Some written) new = new ≡ Some (written ++ bytes)

-- how many bytes a write took: at least one, and no more than were offered
abbrev pub WritesWithin : Gave → List ℕ → Type 0
WritesWithin (gave.Took n) bytes = IsCount n (length bytes)
WritesWithin gave.Failed bytes = ⊤

-- what a write did: it took the first of the bytes, or failed and wrote nothing
abbrev pub Writes : Gave → List ℕ → Option (List ℕ) → Option (List ℕ) → Type 0
Writes (gave.Took n) bytes old new = Grows (take n bytes) old new
Writes gave.Failed bytes old new = new ≡ old

-- whether a write failed
abbrev pub write_failed : Gave → Bool
write_failed (gave.Took n) = false
write_failed gave.Failed = true

-- the count of faults after a write: one more if it failed, and never past the last value
abbrev pub write_faults : Gave → ℕ → ℕ
write_faults (gave.Took n) faults = faults
write_faults gave.Failed faults = next_count faults
