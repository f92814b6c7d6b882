-- What a run owes, besides its status: the promises of the top call.
use Rattle.std.specs.Prelude.{◌≡◌, ℕ, ◌+◌, ◌<◌, ◌≤◌, Bool, Option, None, Some, List, [], length, drop}
use Rattle.sg_base.specs.Limits.{input_limit}
use Rattle.sg_io.specs.Devices.{Grows, AgreesWith, next_count}
use Rattle.sg_io.specs.Reading.{DropsAtMost}
use Rattle.sg_io.specs.Writing.{GrowsByPrefix}
use Rattle.sg_laws.specs.Named.{Law}
use Rattle.sg_words.specs.Command.{command_of}
use Rattle.sg_cli.specs.Served.{AnswersInput, Served, is_reading}
use Rattle.sg_words.specs.declared.command.Reading.{Reading}
use Rattle.sg_cli.specs.declared.serve.Stop.{Stop}
use Rattle.sg_cli.specs.declared.serve.Stop.TheVariants as stop
use Rattle.sg_report.specs.Exit.{IsReply}
use Rattle.sg_report.specs.declared.status.Status.{Status}
use Rattle.sg_report.specs.declared.status.Status.TheVariants.{ReadFault, WriteFault, NoMemory}

-- the words name a command that reads its source
abbrev pub reads : List (List ℕ) → Bool
reads words = is_reading (command_of words)

-- what a command answers to a source: there are bytes, those that the source tells where it tells them, and this is the
-- answer to them
pub record AnswersSource (reading : Reading) (left : Option (List ℕ)) (text : List ℕ) (status : Status) : Type 0 where
  pub bytes : List ℕ
  pub told : AgreesWith left bytes
  pub answers : AnswersInput reading bytes text status

-- what the words answer among these laws: there are bytes, those that the source tells where it tells them, and this
-- text is served to them
pub record IsServed (words : List (List ℕ)) (laws : List Law) (left : Option (List ℕ)) (text : List ℕ)
    (status : Status) : Type 0 where
  pub bytes : List ℕ
  pub told : AgreesWith left bytes
  pub served : Served words laws bytes text status

-- the sink has got exactly one text, and it is what the words answer to the input with this status
pub record AnswersWhole (words : List (List ℕ)) (laws : List Law) (status : Status)
    (left before after : Option (List ℕ)) : Type 0 where
  pub text : List ℕ
  pub served : IsServed words laws left text status
  pub written : Grows text before after

-- the sink has got a prefix of a text that the words answer to the input
pub record AnswersInPart (words : List (List ℕ)) (laws : List Law) (left before after : Option (List ℕ)) : Type 0 where
  pub text : List ℕ
  pub status : Status
  pub replied : IsReply status
  pub served : IsServed words laws left text status
  pub written : GrowsByPrefix text before after

-- the count of faults of the source after a run: one more after a read fault
abbrev pub source_faults : Status → ℕ → ℕ
source_faults ReadFault faults = next_count faults
source_faults _ faults = faults

-- the count of faults of the sink after a run: one more after a write fault
abbrev pub sink_faults : Status → ℕ → ℕ
sink_faults WriteFault faults = next_count faults
sink_faults _ faults = faults

-- the count of faults of the source if there is no reply: one more after a read fault
abbrev pub stop_faults : Stop → ℕ → ℕ
stop_faults stop.ReadFault faults = next_count faults
stop_faults stop.NoMemory faults = faults

-- a reading command has taken its whole input, or one byte more than the limit if it is longer
pub record TakesInput (old new : Option (List ℕ)) : Type 0 where
  pub untold : old ≡ None → new ≡ None
  pub whole : (bytes : List ℕ) → old ≡ Some bytes → length bytes ≤ input_limit → new ≡ Some []
  pub too_long : (bytes : List ℕ) → old ≡ Some bytes → input_limit < length bytes
      → new ≡ Some (drop (input_limit + 1) bytes)

-- what a reading command has taken, by how the run ended: if it was stopped, no more than that, from the front
abbrev pub SourceAfter : Status → Option (List ℕ) → Option (List ℕ) → Type 0
SourceAfter ReadFault old new = DropsAtMost (input_limit + 1) old new
SourceAfter NoMemory old new = DropsAtMost (input_limit + 1) old new
SourceAfter _ old new = TakesInput old new
