-- From the bytes that were read to what is answered to the source.
use Rattle.std.proofs.Common.{ℕ, ◌<◌, List, length, Option, None, Some, arith}
use Rattle.sg_base.specs.Limits.{input_limit}
use Rattle.sg_io.specs.Devices.{AgreesWith}
use Rattle.sg_io.specs.Reading.{Empties, IsTooLong}
use Rattle.sg_io.specs.declared.reading.ReadEnd.TheVariants as ends
use Rattle.sg_model.specs.declared.refusal.Refusal.TheVariants.{TooLong}
use Rattle.sg_cli.specs.Promises.{AnswersSource}
use Rattle.sg_cli.specs.Served.{AnswersInput}
use Rattle.sg_words.specs.declared.command.Reading.{Reading}
use Rattle.sg_report.specs.Refused.{IsRefused}
use Rattle.sg_report.specs.declared.status.Status.{Status}

-- the bytes that were read are those that the source told
pub empties-told : (items : List ℕ) (old new : Option (List ℕ)) → Empties items old new → AgreesWith old items
empties-told items None new emptied = tt
empties-told items (Some left) new emptied = emptied.0

-- an input that was read to its end
pub answers-told : (reading : Reading) (old new : Option (List ℕ)) (bytes text : List ℕ) (status : Status) → Empties bytes old new →
    AnswersInput reading bytes text status → AnswersSource reading old text status
answers-told reading old new bytes text status emptied answers = record {
  bytes = bytes;
  told = empties-told bytes old new emptied;
  answers = answers;
}

-- an input beyond the limit
pub answers-long : (reading : Reading) (old : Option (List ℕ)) (text : List ℕ) (status : Status) → IsTooLong ends.TooLong input_limit old →
    IsRefused (TooLong input_limit) text status → AnswersSource reading old text status
answers-long reading old text status too_long refused =
    let long : input_limit < length too_long.0 = too_long.2 in
    record {
      bytes = too_long.0;
      told = too_long.1;
      answers = record { too_long = λ _. refused; short = λ short. absurd (omega arith) };
    }
