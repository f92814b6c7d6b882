-- What an adapter passes on to the reader or writer of std inside it.
use Rattle.std.specs.Prelude.{ℕ, ◌==◌, Bool, if◌then◌else◌, List, Option, Ok, Err, take}
use Rattle.std.specs.declared.result.Result.{Result}
use Rattle.std.specs.Io.KnownBytes.{Appends, Consumes, IsAtEnd, Keeps}
use Rattle.sg_io.specs.Devices.{next_count}
use Rattle.sg_io.specs.declared.devices.Took.{Took}
use Rattle.sg_io.specs.declared.devices.Took.TheVariants as took
use Rattle.sg_io.specs.declared.devices.Gave.{Gave}
use Rattle.sg_io.specs.declared.devices.Gave.TheVariants as gave

-- the reader or writer, the failed calls so far, and whether the last call failed
pub record Adapter (Inner : Type 0) : Type 0 where
  pub inner : Inner
  pub faults : ℕ
  pub failed : Bool

-- what a reader of std answered: bytes, none, which is the end, or an error, which is a failure
abbrev pub took_by : {E : Type 0} → Result ℕ E → Took
took_by (Ok n) = if n == 0 then took.End else took.Got n
took_by (Err e) = took.Failed

-- what a writer of std answered: it took bytes, or none or an error, which are failures
abbrev pub gave_by : {E : Type 0} → Result ℕ E → Gave
gave_by (Ok n) = if n == 0 then gave.Failed else gave.Took n
gave_by (Err e) = gave.Failed

-- the count of faults after a call
abbrev pub faults_after : ℕ → Bool → ℕ
faults_after faults failed = if failed then next_count faults else faults

-- what a read did to the bytes that the reader has left, as far as std knows them
abbrev pub PassesRead : Took → List ℕ → Option (List ℕ) → Option (List ℕ) → Type 0
PassesRead (took.Got n) into old new = Consumes old new (take n into)
PassesRead took.End into old new = Keeps old new × IsAtEnd new
PassesRead took.Failed into old new = Keeps old new

-- what a write did to the bytes that the writer has, as far as std knows them
abbrev pub PassesWrite : Gave → List ℕ → Option (List ℕ) → Option (List ℕ) → Type 0
PassesWrite (gave.Took n) bytes old new = Appends old new (take n bytes)
PassesWrite gave.Failed bytes old new = Keeps old new
