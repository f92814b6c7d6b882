-- From what the parts of a run say to what the run owes.
use Rattle.std.proofs.Common.{◌≡◌, ℕ, List, [], Option, None, Some, refl}
use Rattle.sg_io.specs.Devices.{Grows, AgreesWith}
use Rattle.sg_io.specs.Writing.{GrowsByPrefix}
use Rattle.sg_laws.specs.Named.{Law, first_named}
use Rattle.sg_words.specs.Command.{command_of, law_word}
use Rattle.sg_report.specs.Exit.{IsReply}
use Rattle.sg_cli.specs.Promises.{AnswersInPart, AnswersWhole, IsServed}
use Rattle.sg_draws.specs.Drawn.{AnswersLaw}
use Rattle.sg_cli.specs.Served.{usage_text}
use Rattle.sg_words.specs.declared.command.Command.TheVariants.{Draw}
use Rattle.sg_words.specs.declared.command.Drawing.{Drawing}
use Rattle.sg_report.specs.declared.status.Status.{Status}
use Rattle.sg_report.specs.declared.status.Status.TheVariants.{Usage}

-- bytes that a source may have: those that it tells, or none
abbrev pub told_or_none : Option (List ℕ) → List ℕ
told_or_none None = []
told_or_none (Some bytes) = bytes

-- the bytes that are told are those told
pub told_or_none-told : (left : Option (List ℕ)) → AgreesWith left (told_or_none left)
told_or_none-told None = tt
told_or_none-told (Some bytes) = refl

-- words of no shape
pub usage-served : (words : List (List ℕ)) (laws : List Law) (left : Option (List ℕ)) → command_of words ≡ None → IsServed words laws left usage_text Usage
usage-served words laws left none = record {
  bytes = told_or_none left;
  told = told_or_none-told left;
  served = rw none (refl, refl);
}

-- words that name a command that draws
pub drawn-served : (words : List (List ℕ)) (laws : List Law) (drawing : Drawing) (left : Option (List ℕ)) (text : List ℕ) (status : Status) →
    command_of words ≡ Some (Draw drawing) → AnswersLaw drawing (first_named (law_word words) laws) text status → IsServed words laws left text status
drawn-served words laws drawing left text status named answers = record {
  bytes = told_or_none left;
  told = told_or_none-told left;
  served = rw named answers;
}

-- a text that is served and written, whole or in part
pub served-whole : (words : List (List ℕ)) (laws : List Law) (left before after : Option (List ℕ)) (text : List ℕ) (status : Status) →
    IsServed words laws left text status → Grows text before after → AnswersWhole words laws status left before after
served-whole words laws left before after text status served grown = record { text = text; served = served; written = grown }

-- a text of which a prefix is written is served in part
pub served-in_part : (words : List (List ℕ)) (laws : List Law) (left before after : Option (List ℕ)) (text : List ℕ) (status : Status) →
    IsServed words laws left text status → IsReply status → GrowsByPrefix text before after → AnswersInPart words laws left before after
served-in_part words laws left before after text status served replied prefix = record {
  text = text;
  status = status;
  replied = replied;
  served = served;
  written = prefix;
}

-- a text that was drawn for, under the name that the words give
pub drawn-whole : (words : List (List ℕ)) (laws : List Law) (drawing : Drawing) (name : List ℕ) (left before after : Option (List ℕ))
    (text sent : List ℕ) (status : Status) →
    command_of words ≡ Some (Draw drawing) → name ≡ law_word words → sent ≡ text → AnswersLaw drawing (first_named name laws) text status →
    Grows sent before after → AnswersWhole words laws status left before after
drawn-whole words laws drawing name left before after text sent status named second same answers grown =
    served-whole words laws left before after text status (drawn-served words laws drawing left text status named (rw second at answers)) (rw same at grown)

-- a prefix of a drawing's text is an answer in part
pub drawn-in_part : (words : List (List ℕ)) (laws : List Law) (drawing : Drawing) (name : List ℕ) (left before after : Option (List ℕ))
    (text sent : List ℕ) (status : Status) →
    command_of words ≡ Some (Draw drawing) → name ≡ law_word words → sent ≡ text → AnswersLaw drawing (first_named name laws) text status →
    IsReply status → GrowsByPrefix sent before after → AnswersInPart words laws left before after
drawn-in_part words laws drawing name left before after text sent status named second same answers replied prefix =
    served-in_part words laws left before after text status (drawn-served words laws drawing left text status named (rw second at answers)) replied
    (rw same at prefix)
