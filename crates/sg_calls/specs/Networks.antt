-- Weighted graphs and terminals by numbers: what they say, which numbers give a connected graph, and what is wrong with
-- others.
use Rattle.std.specs.Prelude.{◌≡◌, ◌⊎◌, ℕ, ℤ, pos, ◌+◌, ◌*◌, ◌-◌, ◌^◌, ◌≤◌, min, ◌==◌, ◌&&◌, Bool, not, nat_lt, int_le, if◌then◌else◌, Option, Some, None, option_map, find, List, [], ◌∷◌, length, map, slice_index_or}
use Rattle.std.specs.List.{range_with_len}
use Rattle.sg_base.specs.Limits.{sum_limit}
use Rattle.sg_model.specs.Faults.{OrNoMemory}
use Rattle.sg_model.specs.declared.refusal.Fault.{Fault}
use Rattle.sg_model.specs.declared.refusal.Refusal.{Refusal}
use Rattle.sg_model.specs.declared.refusal.Refusal.TheVariants.{BadMember}
use Rattle.sg_graph.specs.Walk.{IsConnectedWeb}
use Rattle.sg_graph.specs.Web.{Graph, total_weight}
use Rattle.sg_graph.specs.declared.web.Edge.{Edge}
use Rattle.sg_graph_text.specs.Graph.{terminals_fault, terminals_of}
use Rattle.sg_graph_text.specs.Network.{IsTooHeavy, IsUnjoined}
use Rattle.sg_draft.specs.Limits.{large_limits}
use Rattle.sg_draft.specs.Numbers.{bond_count_fault, many_spins_fault}
use Rattle.sg_draft.specs.Tests.{Refuses, first_of, refuse_if}
use Rattle.sg_calls.specs.declared.networks.GivenWeb.{GivenWeb}
use Rattle.sg_calls.specs.Crossing.{entries_of, entry, wrong_start}

-- the numbers of a weighted graph: its nodes, and two ends and a weight for each edge
pub record WebNumbers : Type 0 where
  pub nodes : ℕ
  pub ends : List ℕ
  pub weights : List ℤ

-- the same, list by list
abbrev pub web_numbers : ℕ → List ℕ → List ℤ → WebNumbers
web_numbers nodes ends weights = record { nodes = nodes; ends = ends; weights = weights }

-- those that a caller gives
abbrev pub web_numbers_of : GivenWeb → WebNumbers
web_numbers_of g = web_numbers g.nodes g.ends.now g.weights.now

-- edge k joins the ends at the places 2k and 2k + 1
abbrev pub edge_by : List ℕ → List ℤ → ℕ → Edge
edge_by ends weights k =
    record { a = entry ends (2 * k); b = entry ends (2 * k + 1); w = slice_index_or weights k (pos 0) }

-- all edges, in their order
abbrev pub edges_by : List ℕ → List ℤ → List Edge
edges_by ends weights = map (edge_by ends weights) (range_with_len 0 (length weights))

-- the graph that the numbers say
abbrev pub web_by : WebNumbers → Graph
web_by g = record { nodes = g.nodes; edges = edges_by g.ends g.weights }

-- both ends are among n nodes, and the weight is not negative
abbrev pub joins_nodes : ℕ → Edge → Bool
joins_nodes n edge = nat_lt edge.a n && (nat_lt edge.b n && int_le (pos 0) edge.w)

-- the place of the number of nodes in the line of a refusal
abbrev pub nodes_place : ℕ
nodes_place = 17

-- the place of the edges
abbrev pub edges_place : ℕ
edges_place = 18

-- the place of the starts of many lists of terminals
abbrev pub list_starts_place : ℕ
list_starts_place = 19

-- an entry at this place is wrong, the first such; its number is told up to the largest of 32 bits
abbrev pub wrong_at : ℕ → ℕ → Refusal
wrong_at place entry = BadMember place (min entry (2 ^ 32 - 1))

-- the check of what has this place: no entry is wrong
abbrev pub place_fault : ℕ → Option ℕ → Option Refusal
place_fault place wrong = option_map (wrong_at place) wrong

-- the first edge that joins no two of n nodes or has a negative weight, and 0 if there are not two ends for each
abbrev pub wrong_edge : ℕ → List ℕ → List ℤ → Option ℕ
wrong_edge n ends weights =
    if length ends == 2 * length weights
    then find (λ k. not (joins_nodes n (edge_by ends weights k))) (range_with_len 0 (length weights))
    else Some 0

-- the tests of these numbers, each by itself
abbrev pub web_fault : WebNumbers → Option Refusal
web_fault g = first_of (
    refuse_if (g.nodes == 0) (wrong_at nodes_place 0)
    ∷ many_spins_fault large_limits g.nodes
    ∷ place_fault edges_place (wrong_edge g.nodes g.ends g.weights)
    ∷ bond_count_fault large_limits (length g.weights)
    ∷ [])

-- the same and after them a test of terminals
abbrev pub network_fault : WebNumbers → Option Refusal → Option Refusal
network_fault g test = first_of (web_fault g ∷ test ∷ [])

-- the numbers and the terminals pass their tests, and the graph is connected and within the limit of weight
pub record GivesWeb (g : WebNumbers) (test : Option Refusal) : Type 0 where
  pub passes : network_fault g test ≡ None
  pub light : total_weight (web_by g) ≤ sum_limit
  pub connected : IsConnectedWeb (web_by g)

-- what is wrong with a graph as a whole: its weight is tested first
pub data IsWholeFault (g : Graph) (refusal : Refusal) : Type 0 where
  ByWeight : IsTooHeavy g refusal → IsWholeFault g refusal
  ByReach : total_weight g ≤ sum_limit → IsUnjoined g refusal → IsWholeFault g refusal

-- the first thing that is wrong: a test of the numbers or of the terminals fails, or else the graph as a whole is wrong
pub data RefusesWeb (g : WebNumbers) (test : Option Refusal) (refusal : Refusal) : Type 0 where
  AtTest : network_fault g test ≡ Some refusal → RefusesWeb g test refusal
  AtWhole : network_fault g test ≡ None → IsWholeFault (web_by g) refusal → RefusesWeb g test refusal

-- the same, or out of memory
abbrev pub IsWebFault : WebNumbers → Option Refusal → Fault → Type 0
IsWebFault g test fault = OrNoMemory (RefusesWeb g test) fault

-- why they give no verdict: they give no connected graph, or a test of what is stated of it fails
abbrev pub IsStatedFault : WebNumbers → Option Refusal → Option Refusal → Fault → Type 0
IsStatedFault g test stated fault = IsWebFault g test fault ⊎ (GivesWeb g test × OrNoMemory (Refuses stated) fault)

-- how many lists there are between so many starts
abbrev pub list_count : List ℕ → ℕ
list_count starts = length starts - 1

-- the test of the terminals of one list of a graph of n nodes
abbrev pub list_fault : ℕ → List ℕ → List ℕ → ℕ → Option Refusal
list_fault n starts entries k = terminals_fault n (entries_of starts entries k)

-- the tests of each list, one after another
abbrev pub list_faults : ℕ → List ℕ → List ℕ → Option Refusal
list_faults n starts entries = first_of (map (list_fault n starts entries) (range_with_len 0 (list_count starts)))

-- the tests of many lists of terminals: of their starts, and then of each list
abbrev pub lists_test : ℕ → List ℕ → List ℕ → Option Refusal
lists_test n starts entries = first_of (
    place_fault list_starts_place (wrong_start starts (list_count starts) (length entries))
    ∷ list_faults n starts entries
    ∷ [])

-- the terminals of each list, rising
abbrev pub terminal_lists : ℕ → List ℕ → List ℕ → List (List ℕ)
terminal_lists n starts entries =
    map (λ k. terminals_of n (entries_of starts entries k)) (range_with_len 0 (list_count starts))
