-- What a reader asks first: what is answered to an input that gives what the command takes, and what to one that is
-- refused. Each input gives one thing at most or is refused by one refusal at most, and never both.
use Rattle.std.specs.Prelude.{◌≡◌, ◌≢◌, ◌<◌, ◌≤◌, ℕ, Option, List, [], length, ⊤}
use Rattle.sg_base.specs.Limits.{input_limit}
use Rattle.sg_model.specs.declared.refusal.Refusal.{Refusal}
use Rattle.sg_model.specs.declared.refusal.Refusal.TheVariants.{TooLong}
use Rattle.sg_model.specs.Ising.{Ising}
use Rattle.sg_check.specs.declared.packing.ResultText.{ResultText}
use Rattle.sg_graph.specs.Web.{Graph}
use Rattle.sg_io.specs.Devices.{Grows}
use Rattle.sg_graph_text.specs.Network.{GivesNetwork, RefusesNetwork}
use Rattle.sg_input.specs.Input.{GivesFit, GivesProof, RefusesProof, RefusesText}
use Rattle.sg_words.specs.declared.command.GraphTask.{GraphTask}
use Rattle.sg_words.specs.declared.command.Reading.{Reading}
use Rattle.sg_words.specs.declared.command.Reading.TheVariants as reading
use Rattle.sg_words.specs.declared.command.Study.{Study}
use Rattle.sg_words.specs.declared.command.Study.TheVariants.{Bonds, Clusters, Ranges, Wall}
use Rattle.sg_report.specs.Refused.{IsRefused}
use Rattle.sg_report.specs.declared.status.Status.{Status}
use Rattle.sg_report.specs.declared.status.Status.TheVariants.{Refused}
use Rattle.sg_cli.specs.Graphs.{AnswersTask, takes_terms}
use Rattle.sg_cli.specs.Served.{AnswersFit, PrintsVerdict}

-- a study: of the one instance that the input gives, or the line of its one refusal
pub record SettlesStudy (study : Study) (bytes text : List ℕ) (status : Status) : Type 0 where
  pub fit : (inst : Ising) → GivesFit bytes inst → AnswersFit study inst text status
  pub refused : (refusal : Refusal) → RefusesText bytes refusal → IsRefused refusal text status

-- `check`: the verdict on the one proof that the input gives, or the line of its one refusal
pub record SettlesCheck (bytes text : List ℕ) (status : Status) : Type 0 where
  pub judged : (inst : Ising) (stated : ResultText) → GivesProof bytes inst stated →
      PrintsVerdict inst stated text status
  pub refused : (refusal : Refusal) → RefusesProof bytes refusal → IsRefused refusal text status

-- a task on the one graph that the input gives, or the line of its one refusal
pub record SettlesGraph (task : GraphTask) (bytes text : List ℕ) (status : Status) : Type 0 where
  pub solved : (g : Graph) (terminals : List ℕ) → GivesNetwork (takes_terms task) bytes g terminals
      → AnswersTask task g terminals text status
  pub refused : (refusal : Refusal) → RefusesNetwork (takes_terms task) bytes refusal →
      IsRefused refusal text status

-- the text and the status are those of an input of this kind
abbrev pub SettlesText : Reading → List ℕ → List ℕ → Status → Type 0
SettlesText (reading.Study study) bytes text status = SettlesStudy study bytes text status
SettlesText reading.Check bytes text status = SettlesCheck bytes text status
SettlesText (reading.Graph task) bytes text status = SettlesGraph task bytes text status

-- an input that is too long is not looked at further
pub record SettlesInput (reading : Reading) (bytes text : List ℕ) (status : Status) : Type 0 where
  pub too_long : input_limit < length bytes → IsRefused (TooLong input_limit) text status
  pub short : length bytes ≤ input_limit → SettlesText reading bytes text status

-- a fit instance that the study is of: each, but for a wall if the seam is empty
abbrev pub CanBeStudied : Study → Ising → Type 0
CanBeStudied Wall inst = inst.seam ≢ []
CanBeStudied _ inst = ⊤

-- two replies of one kind: with one status, and if they refuse with one text. What else may differ: which ground
-- state, packing, T-join, cut or walk is printed
pub record IsSameKind (first second : Status) (text line : List ℕ) : Type 0 where
  pub ended : first ≡ second
  pub refused : first ≡ Refused → text ≡ line

-- a study that finds numbers alone, of which each instance has one
abbrev pub FindsNumbers : Study → Type 0
FindsNumbers Wall = ⊤
FindsNumbers Bonds = ⊤
FindsNumbers Clusters = ⊤
FindsNumbers Ranges = ⊤
FindsNumbers _ = ⊥

-- a command that reads and whose text leaves nothing free: a study that finds numbers alone, and `check`. The others
-- print one of several ground states, packings, T-joins or walks
abbrev pub HasOneText : Reading → Type 0
HasOneText (reading.Study study) = FindsNumbers study
HasOneText reading.Check = ⊤
HasOneText (reading.Graph task) = ⊥

-- a sink has got exactly one text, and this holds of it
pub record HasGot (Holds : List ℕ → Type 0) (before after : Option (List ℕ)) : Type 0 where
  pub text : List ℕ
  pub holds : Holds text
  pub written : Grows text before after
