-- From what the calls of the readers and of the planar test say to the first fault of a text.
use Rattle.std.proofs.Common.{◌≡◌, ℕ, true, false, List, Result, Ok, Err, IfOk, sym, subst}
use Rattle.sg_model.specs.declared.refusal.Fault.{Fault}
use Rattle.sg_model.specs.declared.refusal.Fault.TheVariants.{Refused, NoMemory}
use Rattle.sg_model.specs.Faults.{OrNoMemory}
use Rattle.sg_model.specs.Ising.{Ising}
use Rattle.sg_reader.specs.Kept.{Kept, kept_of}
use Rattle.sg_reader.specs.ReadInstance.{ReadsInstance, RefusesInstance}
use Rattle.sg_reader.specs.Result.{ReadsResult, RefusesResult}
use Rattle.sg_reader.specs.Ended.{Fails, RefusesAlone}
use Rattle.sg_reader.proofs.RestLaws.{or-no-memory}
use Rattle.sg_planar.specs.Fit.{Embedding, IsFit, IsUnfit}
use Rattle.sg_json.specs.Text.{is_object_text}
use Rattle.sg_json.specs.ReadJson.{RefusesJson}
use Rattle.sg_input.specs.Input.{AtFitness, BehindInstance, GivesFit, GivesInstance, InInstance, OfJson, OfRecords}
use Rattle.sg_input.specs.Input.{RefusesText, RefusesProof}

-- what refuses the records refuses a text that is no object
pub by_records : (bytes : List ℕ) (fault : Fault) → is_object_text bytes ≡ false
    → OrNoMemory (RefusesAlone (ReadsInstance (kept_of bytes)) (RefusesInstance (kept_of bytes))) fault → OrNoMemory (RefusesText bytes) fault
by_records bytes (Refused refusal) kind shown = OfRecords kind shown
by_records bytes NoMemory kind shown = tt

-- what refuses the object refuses a text that is one
pub by_json : (bytes : List ℕ) (fault : Fault) → is_object_text bytes ≡ true → OrNoMemory (RefusesJson bytes) fault
    → OrNoMemory (RefusesText bytes) fault
by_json bytes (Refused refusal) kind shown = OfJson kind shown
by_json bytes NoMemory kind shown = tt

-- an instance that is not fit refuses the text
pub by_fitness : (bytes : List ℕ) (inst : Ising) (fault : Fault) → GivesInstance bytes inst → OrNoMemory (IsUnfit inst) fault
    → OrNoMemory (RefusesText bytes) fault
by_fitness bytes inst (Refused refusal) gives shown = AtFitness inst gives shown
by_fitness bytes inst NoMemory gives shown = tt

-- the instance of a text, where it passed
pub gives_fit : (bytes : List ℕ) (inst : Ising) (r : Result Embedding Fault) → GivesInstance bytes inst → IfOk r (λ p. p.instance ≡ inst)
    → IfOk r (λ _. IsFit inst) → IfOk r (λ p. GivesFit bytes p.instance)
gives_fit bytes inst (Ok p) gives same fit = subst (GivesFit bytes) (sym same) (record { gives = gives; fit = fit })
gives_fit bytes inst (Err e) gives same fit = tt

-- what refuses the instance refuses the proof
pub by_instance : (bytes : List ℕ) (rest : List Kept) (fault : Fault) → Fails (RefusesInstance (kept_of bytes)) (kept_of bytes) rest fault
    → OrNoMemory (RefusesProof bytes) fault
by_instance bytes rest fault shown =
    or-no-memory (RefusesInstance (kept_of bytes)) (RefusesProof bytes) (kept_of bytes) rest (λ refusal bad. InInstance rest bad) fault shown

-- behind the instance, what refuses the result, or a record more, refuses the proof
pub by_result : (bytes : List ℕ) (inst : Ising) (behind : List Kept) (fault : Fault) → ReadsInstance (kept_of bytes) inst behind
    → OrNoMemory (RefusesAlone (ReadsResult behind) (RefusesResult behind)) fault → OrNoMemory (RefusesProof bytes) fault
by_result bytes inst behind (Refused refusal) reads shown = BehindInstance inst behind reads shown
by_result bytes inst behind NoMemory reads shown = tt
