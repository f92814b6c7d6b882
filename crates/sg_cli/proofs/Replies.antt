-- From what a command answers to what the words answer, and what of it is settled by the input.
use Rattle.std.proofs.Common.{◌≡◌, ◌≤◌, ℕ, Option, Some, List, length, Result, Ok, Err, IfOk, sym, subst}
use Rattle.sg_base.specs.Limits.{input_limit}
use Rattle.sg_model.specs.declared.refusal.Refusal.{Refusal}
use Rattle.sg_model.specs.Ising.{Ising}
use Rattle.sg_input.specs.Input.{GivesFit, RefusesText}
use Rattle.sg_laws.specs.Named.{Law}
use Rattle.sg_words.specs.Command.{command_of, law_word}
use Rattle.sg_words.specs.declared.command.Command.{Command}
use Rattle.sg_words.specs.declared.command.Command.TheVariants.{Read}
use Rattle.sg_words.specs.declared.command.Reading.{Reading}
use Rattle.sg_words.specs.declared.command.Reading.TheVariants as reading
use Rattle.sg_words.specs.declared.command.Study.{Study}
use Rattle.sg_report.specs.declared.reply.Reply.{Reply}
use Rattle.sg_report.specs.declared.status.Status.TheVariants.{Done}
use Rattle.sg_report.specs.Refused.{IsRefused}
use Rattle.sg_cli.specs.Laws.{AreLaws, WithAllLaws}
use Rattle.sg_cli.specs.Served.{AnswersFit, AnswersInput, Served, ServedBy}
use Rattle.sg_cli.specs.Settled.{CanBeStudied, SettlesInput}
use Rattle.sg_cli.proofs.Settled.{fit-done, input-settled}

-- a reply of a command that reads
read-served : (words : List (List ℕ)) (laws : List Law) (bytes : List ℕ) (reading : Reading) (reply : Reply) → command_of words ≡ Some (Read reading)
    → Served words laws bytes reply.text.items reply.status → AnswersInput reading bytes reply.text.items reply.status
read-served words laws bytes reading reply named served =
    subst (λ (k : Option Command). ServedBy k (law_word words) laws bytes reply.text.items reply.status) named served

module _ {E : Type 0} (words : List (List ℕ)) (laws : List Law) (bytes : List ℕ) where
  abbrev pub Serves : Result Reply E → Type 0
  Serves r = IfOk r (λ reply. Served words laws bytes reply.text.items reply.status)

  -- what the words name, with the law that they name
  pub command-served : (named : Option Command) (name : List ℕ) (r : Result Reply E) → command_of words ≡ named → name ≡ law_word words
      → IfOk r (λ reply. ServedBy named name laws bytes reply.text.items reply.status) → Serves r
  command-served named name r is second h =
      subst (λ (k : Option Command). IfOk r (λ reply. ServedBy k (law_word words) laws bytes reply.text.items reply.status)) (sym is)
      (subst (λ (n : List ℕ). IfOk r (λ reply. ServedBy named n laws bytes reply.text.items reply.status)) second h)

  pub reply-settled : (r : Result Reply E) → Serves r → IfOk r (λ reply. (reading : Reading) → command_of words ≡ Some (Read reading)
      → SettlesInput reading bytes reply.text.items reply.status)
  reply-settled (Ok reply) served = λ reading named.
      input-settled reading bytes reply.text.items reply.status (read-served words laws bytes reading reply named served)
  reply-settled (Err e) served = tt

  -- of a study
  pub reply-fit : (r : Result Reply E) → Serves r → IfOk r (λ reply. (study : Study) (inst : Ising) →
      command_of words ≡ Some (Read (reading.Study study))
      → length bytes ≤ input_limit → GivesFit bytes inst → AnswersFit study inst reply.text.items reply.status)
  reply-fit (Ok reply) served = λ study inst named short given.
      ((reply-settled (Ok reply) served (reading.Study study) named).short short).fit inst given
  reply-fit (Err e) served = tt

  pub reply-done : (r : Result Reply E) → Serves r → IfOk r (λ reply. (study : Study) (inst : Ising) →
      command_of words ≡ Some (Read (reading.Study study))
      → length bytes ≤ input_limit → GivesFit bytes inst → CanBeStudied study inst → reply.status ≡ Done)
  reply-done (Ok reply) served = λ study inst named short given can.
      fit-done study inst reply.text.items reply.status (reply-fit (Ok reply) served study inst named short given) can
  reply-done (Err e) served = tt

  pub reply-refused : (r : Result Reply E) → Serves r → IfOk r (λ reply. (study : Study) (refusal : Refusal) →
      command_of words ≡ Some (Read (reading.Study study))
      → length bytes ≤ input_limit → RefusesText bytes refusal → IsRefused refusal reply.text.items reply.status)
  reply-refused (Ok reply) served = λ study refusal named short bad.
      ((reply-settled (Ok reply) served (reading.Study study) named).short short).refused refusal bad
  reply-refused (Err e) served = tt

-- what is served among the four laws
pub served-with_laws : {E : Type 0} (words : List (List ℕ)) (laws : List Law) (bytes : List ℕ) (r : Result Reply E) → AreLaws laws
    → IfOk r (λ reply. Served words laws bytes reply.text.items reply.status)
    → IfOk r (λ reply. WithAllLaws (λ known. Served words known bytes reply.text.items reply.status))
served-with_laws words laws bytes (Ok reply) are served = record { laws = laws; known = are; holds = served }
served-with_laws words laws bytes (Err e) are served = tt
