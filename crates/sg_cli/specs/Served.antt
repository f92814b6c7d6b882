-- What is answered: the status and the whole text that belong to the words, the laws and the bytes.
use Rattle.std.specs.Prelude.{◌≡◌, ◌≢◌, ◌<◌, ◌≤◌, ◌-ℤ◌, ◌*ℤ◌, ℕ, ℤ, pos, Bool, true, false}
use Rattle.std.specs.Prelude.{Option, Some, None, List, [], ◌∷◌, length, map, codes}
use Rattle.sg_base.specs.Limits.{input_limit}
use Rattle.sg_model.specs.declared.refusal.Refusal.{Refusal}
use Rattle.sg_model.specs.declared.refusal.Refusal.TheVariants.{TooLong, NoSeam}
use Rattle.sg_model.specs.Ising.{Ising, bond_count}
use Rattle.sg_model.specs.Connected.{LeastsUp}
use Rattle.sg_model.specs.Changes.{negated}
use Rattle.sg_model.specs.Energy.{IsGroundState, energy, weight}
use Rattle.sg_laws.specs.Named.{Law, first_named}
use Rattle.sg_check.specs.declared.packing.Loop.{Loop}
use Rattle.sg_check.specs.declared.packing.ResultText.{ResultText}
use Rattle.sg_check.specs.declared.verdict.Verdict.{Verdict}
use Rattle.sg_check.specs.declared.verdict.Verdict.TheVariants as verdict
use Rattle.sg_check.specs.Packing.{IsShort, Proves}
use Rattle.sg_check.specs.Verdict.{IsVerdict}
use Rattle.sg_wall.specs.Wall.{IsWall}
use Rattle.sg_bonds.specs.Cost.{AreCosts}
use Rattle.sg_bonds.specs.Cluster.{AreClusters}
use Rattle.sg_graph.specs.Web.{Graph}
use Rattle.sg_graph_text.specs.Network.{GivesNetwork, RefusesNetwork}
use Rattle.sg_report.specs.Text.{bonds_text, clusters_text, energy_text, ground_text, wall_text}
use Rattle.sg_report.specs.Text.{verdict_text}
use Rattle.sg_report.specs.Report.{report_text}
use Rattle.sg_report.specs.Ranges.{maxcut_text, ranges_text}
use Rattle.sg_ranges.specs.Turn.{AreTurns}
use Rattle.sg_ranges.specs.Cut.{IsLargestCut, coupling_sum}
use Rattle.sg_words.specs.Command.{command_of, law_word}
use Rattle.sg_cli.specs.Graphs.{AnswersTask, takes_terms}
use Rattle.sg_input.specs.Input.{GivesFit, GivesProof, RefusesProof, RefusesText}
use Rattle.sg_words.specs.declared.command.Command.{Command}
use Rattle.sg_words.specs.declared.command.Command.TheVariants.{Read, Draw}
use Rattle.sg_words.specs.declared.command.GraphTask.{GraphTask}
use Rattle.sg_words.specs.declared.command.Reading.{Reading}
use Rattle.sg_words.specs.declared.command.Reading.TheVariants as reading
use Rattle.sg_words.specs.declared.command.Study.{Study}
use Rattle.sg_words.specs.declared.command.Study.TheVariants.{Energy, Ground, Wall, Bonds, Clusters}
use Rattle.sg_words.specs.declared.command.Study.TheVariants.{Report, Ranges, Maxcut}
use Rattle.sg_draws.specs.Drawn.{AnswersLaw}
use Rattle.sg_report.specs.Refused.{IsRefused}
use Rattle.sg_report.specs.declared.status.Status.{Status}
use Rattle.sg_report.specs.declared.status.Status.TheVariants.{Done, Usage, No}

-- the line if the words have no shape
abbrev pub usage_text : List ℕ
usage_text = codes "usage\n"

-- a ground state with the least spin of each component up, and its energy
pub record PrintsGroundState (inst : Ising) (text : List ℕ) (status : Status) : Type 0 where
  pub spins : List ℤ
  pub least : IsGroundState inst spins
  pub first_up : LeastsUp inst spins
  pub printed : text ≡ energy_text (energy inst spins) spins
  pub done : status ≡ Done

-- a ground state with the least spin of each component up, its energy, and a short packing of frustrated loops that
-- proves it
pub record PrintsGround (inst : Ising) (text : List ℕ) (status : Status) : Type 0 where
  pub energy : ℤ
  pub spins : List ℤ
  pub loops : List Loop
  pub least : IsGroundState inst spins
  pub proves : Proves inst spins energy loops
  pub short : IsShort inst loops
  pub first_up : LeastsUp inst spins
  pub printed : text ≡ ground_text energy spins loops
  pub done : status ≡ Done

-- the energies of a domain wall
pub record PrintsWall (inst : Ising) (text : List ℕ) (status : Status) : Type 0 where
  pub periodic : ℤ
  pub antiperiodic : ℤ
  pub difference : ℤ
  pub wall : IsWall inst periodic antiperiodic difference
  pub printed : text ≡ wall_text periodic antiperiodic difference
  pub done : status ≡ Done

-- the cost of each bond
pub record PrintsCosts (inst : Ising) (text : List ℕ) (status : Status) : Type 0 where
  pub costs : List ℤ
  pub exact : AreCosts inst costs
  pub printed : text ≡ bonds_text costs
  pub done : status ≡ Done

-- the cluster of each spin
pub record PrintsClusters (inst : Ising) (text : List ℕ) (status : Status) : Type 0 where
  pub names : List ℕ
  pub exact : AreClusters inst names
  pub printed : text ≡ clusters_text names
  pub done : status ≡ Done

-- a wall if the seam is empty is refused
pub record AnswersWall (inst : Ising) (text : List ℕ) (status : Status) : Type 0 where
  pub without_seam : inst.seam ≡ [] → IsRefused NoSeam text status
  pub with_seam : inst.seam ≢ [] → PrintsWall inst text status

-- the energies of the domain wall, in the order of `wall_text`, if there is a seam; none if it is empty
pub record IsSeamWall (inst : Ising) (energies : Option (List ℤ)) : Type 0 where
  pub without_seam : inst.seam ≡ [] → energies ≡ None
  pub with_seam : inst.seam ≢ [] → (periodic : ℤ) × (antiperiodic : ℤ) × (difference : ℤ)
      × IsWall inst periodic antiperiodic difference × (energies ≡ Some (periodic ∷ antiperiodic ∷ difference ∷ []))

-- what `ground`, `bonds`, `clusters` and, if there is a seam, `wall` find, with the number of bonds and their
-- weight
pub record PrintsReport (inst : Ising) (text : List ℕ) (status : Status) : Type 0 where
  pub energy : ℤ
  pub spins : List ℤ
  pub loops : List Loop
  pub costs : List ℤ
  pub names : List ℕ
  pub wall : Option (List ℤ)
  pub least : IsGroundState inst spins
  pub proves : Proves inst spins energy loops
  pub short : IsShort inst loops
  pub first_up : LeastsUp inst spins
  pub exact_costs : AreCosts inst costs
  pub exact_names : AreClusters inst names
  pub exact_wall : IsSeamWall inst wall
  pub printed : text ≡ report_text (bond_count inst) (pos (weight inst)) energy spins loops costs names wall
  pub done : status ≡ Done

-- the turning coupling of each bond
pub record PrintsTurns (inst : Ising) (text : List ℕ) (status : Status) : Type 0 where
  pub turns : List ℤ
  pub exact : AreTurns inst turns
  pub printed : text ≡ ranges_text (map (λ b. b.j) inst.bonds) turns
  pub done : status ≡ Done

-- a largest cut with the least spin of each component up, and a short packing of frustrated loops that proves it as it
-- proves a ground state if every sign is changed
pub record PrintsCut (inst : Ising) (text : List ℕ) (status : Status) : Type 0 where
  pub weight : ℤ
  pub spins : List ℤ
  pub loops : List Loop
  pub largest : IsLargestCut inst spins weight
  pub proves : Proves (negated inst) spins (coupling_sum inst -ℤ (pos 2 *ℤ weight)) loops
  pub short : IsShort (negated inst) loops
  pub first_up : LeastsUp inst spins
  pub printed : text ≡ maxcut_text weight spins loops
  pub done : status ≡ Done

-- how a run ends by the verdict on a proof
abbrev pub status_by : Verdict → Status
status_by verdict.Yes = Done
status_by _ = No

-- the verdict on a proof: yes if it holds, else the first failed check
pub record PrintsVerdict (inst : Ising) (stated : ResultText) (text : List ℕ) (status : Status) : Type 0 where
  pub judged : Verdict
  pub found : IsVerdict inst stated judged
  pub printed : text ≡ verdict_text judged
  pub ended : status ≡ status_by judged

-- what a study answers to an instance that is fit
abbrev pub AnswersFit : Study → Ising → List ℕ → Status → Type 0
AnswersFit Energy inst text status = PrintsGroundState inst text status
AnswersFit Ground inst text status = PrintsGround inst text status
AnswersFit Wall inst text status = AnswersWall inst text status
AnswersFit Bonds inst text status = PrintsCosts inst text status
AnswersFit Clusters inst text status = PrintsClusters inst text status
AnswersFit Report inst text status = PrintsReport inst text status
AnswersFit Ranges inst text status = PrintsTurns inst text status
AnswersFit Maxcut inst text status = PrintsCut inst text status

-- what a study answers to a text: the first fault, or the answer to its instance
pub data AnswersStudy (study : Study) (bytes text : List ℕ) (status : Status) : Type 0 where
  FaultNamed : (refusal : Refusal) → RefusesText bytes refusal → IsRefused refusal text status
      → AnswersStudy study bytes text status
  Studied : (inst : Ising) → GivesFit bytes inst → AnswersFit study inst text status
      → AnswersStudy study bytes text status

-- what `check` answers to a text: the first fault, or the verdict on its proof; the instance need not be fit
pub data AnswersCheck (bytes text : List ℕ) (status : Status) : Type 0 where
  ProofFaultNamed : (refusal : Refusal) → RefusesProof bytes refusal → IsRefused refusal text status
      → AnswersCheck bytes text status
  Judged : (inst : Ising) (stated : ResultText) → GivesProof bytes inst stated → PrintsVerdict inst stated text status
      → AnswersCheck bytes text status

-- what a task on a graph answers to a text: the first fault, or the answer to its graph
pub data AnswersGraph (task : GraphTask) (bytes text : List ℕ) (status : Status) : Type 0 where
  GraphFaultNamed : (refusal : Refusal) → RefusesNetwork (takes_terms task) bytes refusal
      → IsRefused refusal text status → AnswersGraph task bytes text status
  GraphSolved : (g : Graph) (terminals : List ℕ) → GivesNetwork (takes_terms task) bytes g terminals
      → AnswersTask task g terminals text status → AnswersGraph task bytes text status

-- what a command that reads answers to a text
abbrev pub AnswersText : Reading → List ℕ → List ℕ → Status → Type 0
AnswersText (reading.Study study) bytes text status = AnswersStudy study bytes text status
AnswersText reading.Check bytes text status = AnswersCheck bytes text status
AnswersText (reading.Graph task) bytes text status = AnswersGraph task bytes text status

-- what a command that reads answers to an input: an input that is too long is not looked at further
pub record AnswersInput (reading : Reading) (bytes text : List ℕ) (status : Status) : Type 0 where
  pub too_long : input_limit < length bytes → IsRefused (TooLong input_limit) text status
  pub short : length bytes ≤ input_limit → AnswersText reading bytes text status

-- what a command answers to the bytes, or with the first of the laws that has the name; without a command the answer
-- is the usage
abbrev pub ServedBy : Option Command → List ℕ → List Law → List ℕ → List ℕ → Status → Type 0
ServedBy None name laws bytes text status = (status ≡ Usage) × (text ≡ usage_text)
ServedBy (Some (Read reading)) name laws bytes text status = AnswersInput reading bytes text status
ServedBy (Some (Draw drawing)) name laws bytes text status = AnswersLaw drawing (first_named name laws) text status

-- what the words answer to the bytes, among these laws
abbrev pub Served : List (List ℕ) → List Law → List ℕ → List ℕ → Status → Type 0
Served words laws bytes text status = ServedBy (command_of words) (law_word words) laws bytes text status

-- whether the source is read
abbrev pub is_reading : Option Command → Bool
is_reading None = false
is_reading (Some (Read reading)) = true
is_reading (Some (Draw drawing)) = false
