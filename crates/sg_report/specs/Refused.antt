-- What answers a refusal: its line, and the status that says so.
use Rattle.std.specs.Prelude.{◌≡◌, ℕ, List}
use Rattle.sg_model.specs.declared.refusal.Fault.{Fault}
use Rattle.sg_model.specs.declared.refusal.Fault.TheVariants as fault
use Rattle.sg_model.specs.declared.refusal.Refusal.{Refusal}
use Rattle.sg_report.specs.Text.{refusal_text}
use Rattle.sg_report.specs.declared.status.Status.{Status}
use Rattle.sg_report.specs.declared.status.Status.TheVariants.{Refused}

-- the line of a refusal
pub record IsRefused (refusal : Refusal) (text : List ℕ) (status : Status) : Type 0 where
  pub ended : status ≡ Refused
  pub printed : text ≡ refusal_text refusal

-- the line of a fault that refuses the input; out of memory has none
abbrev pub NamesFault : Fault → List ℕ → Status → Type 0
NamesFault (fault.Refused refusal) text status = IsRefused refusal text status
NamesFault fault.NoMemory text status = ⊥
