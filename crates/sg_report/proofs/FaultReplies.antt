-- The reply to a fault: where a line answers each refusal, it answers the fault.
use Rattle.std.proofs.Common.{ℕ, List, Result, IfOk}
use Rattle.std.proofs.lemmas.Result.{IfOk-weaker}
use Rattle.sg_model.specs.declared.refusal.Fault.{Fault}
use Rattle.sg_model.specs.declared.refusal.Fault.TheVariants.{NoMemory, Refused}
use Rattle.sg_model.specs.declared.refusal.Refusal.{Refusal}
use Rattle.sg_report.specs.Refused.{IsRefused, NamesFault}
use Rattle.sg_report.specs.declared.reply.Reply.{Reply}
use Rattle.sg_report.specs.declared.status.Status.{Status}

-- a fault that is shown, and a reply that has its line
pub answers_fault : {E : Type 0} (reply : Result Reply E) (fault : Fault) (Shows : Fault → Type 0) (Answers : List ℕ → Status → Type 0) → Shows fault →
    ((refusal : Refusal) (text : List ℕ) (status : Status) → Shows (Refused refusal) → IsRefused refusal text status → Answers text status) →
    IfOk reply (λ r. NamesFault fault r.text.items r.status) → IfOk reply (λ r. Answers r.text.items r.status)
answers_fault reply (Refused refusal) Shows Answers shown answer = IfOk-weaker reply
    (λ (r : Reply). IsRefused refusal r.text.items r.status) (λ (r : Reply). Answers r.text.items r.status)
    (λ r line. answer refusal r.text.items r.status shown line)
answers_fault reply NoMemory Shows Answers shown answer = IfOk-weaker reply (λ r. ⊥) (λ (r : Reply). Answers r.text.items r.status) (λ r none. absurd none)
