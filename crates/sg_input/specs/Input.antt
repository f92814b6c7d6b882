-- What an input gives to a solver, an instance that is fit for it, and what it gives to the checker, an instance with a
-- proof; or its first fault. The checker reads records alone.
use Rattle.std.specs.Prelude.{◌≡◌, ℕ, true, false, List, []}
use Rattle.sg_model.specs.declared.refusal.Refusal.{Refusal}
use Rattle.sg_model.specs.Ising.{Ising}
use Rattle.sg_reader.specs.Kept.{Kept, kept_of}
use Rattle.sg_reader.specs.ReadInstance.{ReadsInstance, RefusesInstance}
use Rattle.sg_check.specs.declared.packing.ResultText.{ResultText}
use Rattle.sg_reader.specs.Result.{ReadsResult, RefusesResult}
use Rattle.sg_reader.specs.Ended.{RefusesAlone}
use Rattle.sg_json.specs.Text.{is_object_text}
use Rattle.sg_json.specs.ReadJson.{ReadsJson, RefusesJson}
use Rattle.sg_planar.specs.Fit.{IsFit, IsUnfit}

-- the text gives the instance: as one JSON object if it begins as one, and else by its records, with none left
pub data GivesInstance (bytes : List ℕ) (inst : Ising) : Type 0 where
  ByJson : is_object_text bytes ≡ true → ReadsJson bytes inst → GivesInstance bytes inst
  ByRecords : is_object_text bytes ≡ false → ReadsInstance (kept_of bytes) inst [] → GivesInstance bytes inst

-- the text gives an instance that a planar solver can take. That it is an instance within the limits of the program is
-- a law (the clause `instance` of `inputs_have_one_answer`), since each text that gives one passes the tests of them
pub record GivesFit (bytes : List ℕ) (inst : Ising) : Type 0 where
  pub gives : GivesInstance bytes inst
  pub fit : IsFit inst

-- the first fault of a text: of the JSON object or of the records, or of the instance as a whole
pub data RefusesText (bytes : List ℕ) (refusal : Refusal) : Type 0 where
  OfJson : is_object_text bytes ≡ true → RefusesJson bytes refusal → RefusesText bytes refusal
  OfRecords : is_object_text bytes ≡ false
      → RefusesAlone (ReadsInstance (kept_of bytes)) (RefusesInstance (kept_of bytes)) refusal
      → RefusesText bytes refusal
  AtFitness : (inst : Ising) → GivesInstance bytes inst → IsUnfit inst refusal → RefusesText bytes refusal

-- the records of the text give the instance, those after it what a proof states, and none is left. The instance need
-- not be fit, and is one within the limits of the program (the clause `judged` of `inputs_have_one_answer`)
pub record GivesProof (bytes : List ℕ) (inst : Ising) (stated : ResultText) : Type 0 where
  pub behind : List Kept
  pub reads : ReadsInstance (kept_of bytes) inst behind
  pub states : ReadsResult behind stated []

-- the first fault of a text with a proof: in the instance, or after it. The instance as a whole is not tested
pub data RefusesProof (bytes : List ℕ) (refusal : Refusal) : Type 0 where
  InInstance : (rest : List Kept) → RefusesInstance (kept_of bytes) refusal rest → RefusesProof bytes refusal
  BehindInstance : (inst : Ising) (behind : List Kept) → ReadsInstance (kept_of bytes) inst behind
      → RefusesAlone (ReadsResult behind) (RefusesResult behind) refusal → RefusesProof bytes refusal
