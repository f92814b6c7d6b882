-- The devices in memory, as clauses see them.
use Rattle.std.specs.Prelude.{ℕ, ◌-◌, ◌==◌, ◌||◌, Bool, true, false, if◌then◌else◌, min, List, ◌++◌, length, take, drop}
use Rattle.std.specs.List.{list_any}
use Rattle.sg_io.specs.Devices.{next_count}
use Rattle.sg_io.specs.declared.devices.Took.{Took}
use Rattle.sg_io.specs.declared.devices.Took.TheVariants as took
use Rattle.sg_io.specs.declared.devices.Gave.{Gave}
use Rattle.sg_io.specs.declared.devices.Gave.TheVariants as gave

-- the number of this call is in the list
abbrev pub is_listed : List ℕ → ℕ → Bool
is_listed calls call = list_any (λ n. n == call) calls

-- a source in memory
pub record SourceState : Type 0 where
  -- the bytes still to come
  pub left : List ℕ
  -- the most that one read gives
  pub piece : ℕ
  -- the numbers of the calls that fail
  pub fails : List ℕ
  -- the calls so far, those of them that failed, and whether the last one did
  pub calls : ℕ
  pub faults : ℕ
  pub failed : Bool

-- a read into `room` bytes fails exactly if it is listed, else ends exactly if no byte is left, else gives what
-- piece, buffer and rest allow
abbrev pub read_answer : SourceState → ℕ → Took
read_answer s room =
    if is_listed s.fails s.calls then took.Failed else
    (if length s.left == 0 then took.End else took.Got (min (min s.piece room) (length s.left)))

-- the source after a read with this answer
abbrev pub source_after : Took → SourceState → SourceState
source_after (took.Got n) s = record s { left = drop n s.left; calls = next_count s.calls; failed = false }
source_after took.End s = record s { calls = next_count s.calls; failed = false }
source_after took.Failed s = record s { calls = next_count s.calls; faults = next_count s.faults; failed = true }

-- a sink in memory
pub record SinkState : Type 0 where
  -- the bytes written so far, and the room that is left
  pub written : List ℕ
  pub room : ℕ
  -- the most that one write takes
  pub piece : ℕ
  -- the numbers of the calls that fail
  pub fails : List ℕ
  -- the calls so far, those of them that failed, and whether the last one did
  pub calls : ℕ
  pub faults : ℕ
  pub failed : Bool

-- a write of so many bytes fails exactly if it is listed or no room is left, else takes what piece, room and offer
-- allow
abbrev pub write_answer : SinkState → ℕ → Gave
write_answer s offered =
    if is_listed s.fails s.calls || (s.room == 0) then gave.Failed else gave.Took (min (min s.piece s.room) offered)

-- the sink after a write of these bytes with this answer
abbrev pub sink_after : Gave → List ℕ → SinkState → SinkState
sink_after (gave.Took n) bytes s = record s {
  written = s.written ++ take n bytes;
  room = s.room - n;
  calls = next_count s.calls;
  failed = false;
}
sink_after gave.Failed bytes s = record s { calls = next_count s.calls; faults = next_count s.faults; failed = true }
