-- What is answered of a connected weighted graph: a minimum T-join of its terminals, or a shortest closed walk over
-- every edge.
use Rattle.std.specs.Prelude.{◌≡◌, ℕ, ◌*◌, ℤ, pos, Bool, true, false, List, map, sum_by}
use Rattle.sg_check.specs.declared.packing.Loop.{Loop}
use Rattle.sg_graph.specs.declared.cut.Cut.{Cut}
use Rattle.sg_graph.specs.Join.{IsLeastJoin}
use Rattle.sg_graph.specs.OddCut.{CutsPack, odd_cut_weight}
use Rattle.sg_graph.specs.Web.{Graph, weight_of}
use Rattle.sg_postman.specs.declared.steps.Step.{Step}
use Rattle.sg_postman.specs.Tour.{IsLeastTour}
use Rattle.sg_report.specs.Graphs.{postman_text, tjoin_text}
use Rattle.sg_words.specs.declared.command.GraphTask.{GraphTask}
use Rattle.sg_words.specs.declared.command.GraphTask.TheVariants.{TJoin, Postman}
use Rattle.sg_report.specs.declared.status.Status.{Status}
use Rattle.sg_report.specs.declared.status.Status.TheVariants.{Done}

-- whether terminals may be given
abbrev pub takes_terms : GraphTask → Bool
takes_terms TJoin = true
takes_terms Postman = false

-- a cut as the texts take it: with its edges as the bonds of a loop
abbrev pub cut_as_loop : Cut → Loop
cut_as_loop c = record { y = c.y; bonds = c.edges }

-- a minimum T-join of the terminals, its weight, and a packing of odd cuts that proves it
pub record PrintsJoin (g : Graph) (terminals text : List ℕ) (status : Status) : Type 0 where
  pub edges : List ℕ
  pub cuts : List Cut
  pub least : IsLeastJoin g terminals edges
  pub packs : CutsPack g terminals cuts
  pub tight : sum_by odd_cut_weight cuts ≡ 2 * weight_of g edges
  pub printed : text ≡ tjoin_text (pos (weight_of g edges)) edges (map cut_as_loop cuts)
  pub done : status ≡ Done

-- a step as a pair: its edge, and the node that it leads to
abbrev pub pair_of_step : Step → ℕ × ℕ
pair_of_step s = (s.edge, s.to)

-- a tour than which no closed walk over every edge weighs less, its weight, and a packing of odd cuts that proves it
pub record PrintsTour (g : Graph) (text : List ℕ) (status : Status) : Type 0 where
  pub weight : ℤ
  pub steps : List Step
  pub cuts : List Cut
  pub least : IsLeastTour g weight steps cuts
  pub printed : text ≡ postman_text weight (map pair_of_step steps) (map cut_as_loop cuts)
  pub done : status ≡ Done

-- what a task answers in a graph with these terminals
abbrev pub AnswersTask : GraphTask → Graph → List ℕ → List ℕ → Status → Type 0
AnswersTask TJoin g terminals text status = PrintsJoin g terminals text status
AnswersTask Postman g terminals text status = PrintsTour g text status
