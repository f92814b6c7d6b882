-- Which connected graph a text gives, or why it is refused: the first test that fails.
use Rattle.std.specs.Prelude.{◌≡◌, ℕ, ◌<◌, ◌≤◌, ◌%◌, Bool, pos, List, [], length}
use Rattle.sg_base.specs.Limits.{sum_limit}
use Rattle.sg_model.specs.declared.refusal.Refusal.{Refusal}
use Rattle.sg_model.specs.declared.refusal.Refusal.TheVariants.{NotJoined, SumTooLarge}
use Rattle.sg_graph.specs.Join.{AreTerminals}
use Rattle.sg_graph.specs.Walk.{IsConnectedWeb, IsFirstUnreached}
use Rattle.sg_graph.specs.Web.{Graph, total_weight}
use Rattle.sg_reader.specs.Kept.{kept_of}
use Rattle.sg_reader.specs.Ended.{RefusesAlone}
use Rattle.sg_graph_text.specs.declared.graph.GraphText.{GraphText}
use Rattle.sg_graph_text.specs.Graph.{ReadsGraph, RefusesGraph}

-- the graph without its terminals, and with them
abbrev pub graph_in : GraphText → Graph
graph_in text = record { nodes = text.nodes; edges = text.edges }

-- a graph and its terminals as the text gives them
abbrev pub with_terminals : Graph → List ℕ → GraphText
with_terminals g terminals = record { nodes = g.nodes; edges = g.edges; terminals = terminals }

-- all weights together are above the limit
pub record IsTooHeavy (g : Graph) (refusal : Refusal) : Type 0 where
  pub heavy : sum_limit < total_weight g
  pub named : refusal ≡ SumTooLarge (pos (total_weight g))

-- some node is not reached from node 0, and the least such is named
pub record IsUnjoined (g : Graph) (refusal : Refusal) : Type 0 where
  pub node : ℕ
  pub first : IsFirstUnreached g node
  pub named : refusal ≡ NotJoined node

-- a connected graph within the limit of weight, with an even number of terminals, if any
pub record IsNetwork (g : Graph) (terminals : List ℕ) : Type 0 where
  pub light : total_weight g ≤ sum_limit
  pub connected : IsConnectedWeb g
  pub nodes : AreTerminals g terminals
  pub even : length terminals % 2 ≡ 0

-- the text gives a connected graph within the limit of weight, and terminals; no record is left
pub record GivesNetwork (terms : Bool) (bytes : List ℕ) (g : Graph) (terminals : List ℕ) : Type 0 where
  pub gives : ReadsGraph terms (kept_of bytes) (with_terminals g terminals) []
  pub light : total_weight g ≤ sum_limit
  pub connected : IsConnectedWeb g

-- the first fault of a text: of its records or of one that is left, then of the weights, then of the whole graph
pub data RefusesNetwork (terms : Bool) (bytes : List ℕ) (refusal : Refusal) : Type 0 where
  AtRecords : RefusesAlone (ReadsGraph terms (kept_of bytes)) (RefusesGraph terms (kept_of bytes)) refusal
      → RefusesNetwork terms bytes refusal
  AtWeight : (text : GraphText) → ReadsGraph terms (kept_of bytes) text [] → IsTooHeavy (graph_in text) refusal
      → RefusesNetwork terms bytes refusal
  AtReach : (text : GraphText) → ReadsGraph terms (kept_of bytes) text []
      → total_weight (graph_in text) ≤ sum_limit
      → IsUnjoined (graph_in text) refusal → RefusesNetwork terms bytes refusal
