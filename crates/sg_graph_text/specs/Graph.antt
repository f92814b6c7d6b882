-- The records of a weighted graph: which word is in which place, the tests of each record, and the graph that they
-- give; the first failed check of a record, in the order of the records, refuses them.
use Rattle.std.specs.Prelude.{◌≡◌, ℕ, ◌+◌, ◌%◌, ◌≤◌, ◌==◌, ◌&&◌, Bool, nat_lt, if◌then◌else◌, List, [], ◌∷◌, length, map, filter, find, drop, codes, All, slice_index, Option, Some, option_map, is_some, unwrap_or}
use Rattle.std.specs.List.{range_with_len}
use Rattle.sg_base.specs.Sets.{chosen_below, holds}
use Rattle.sg_base.specs.Limits.{bond_limit, spin_limit}
use Rattle.sg_model.specs.declared.refusal.Refusal.{Refusal}
use Rattle.sg_model.specs.declared.refusal.Refusal.TheVariants.{BadTerminal, OddTerminals, UnknownKind}
use Rattle.sg_model.specs.Misplaced.{is_misplaced}
use Rattle.sg_graph.specs.declared.web.Edge.{Edge}
use Rattle.sg_graph.specs.Web.{IsEdge}
use Rattle.sg_graph.specs.Join.{AreTerminals}
use Rattle.sg_reader.specs.Kept.{Kept, begins}
use Rattle.sg_draft.specs.Limits.{program_limits}
use Rattle.sg_draft.specs.Numbers.{bond_count_fault, many_spins_fault}
use Rattle.sg_draft.specs.Tests.{first_of, refuse_if}
use Rattle.sg_reader.specs.Tests.{at_least, field_count_fault, field_fault, number_in, size_in, word_fault}
use Rattle.sg_reader.specs.Body.{link_fault, sole_list_fault, says_end, sizes_from}
use Rattle.sg_reader.specs.Ended.{RefusesRecords, StatesToEnd, record_at}
use Rattle.sg_graph_text.specs.declared.body.GraphBody.{GraphBody}
use Rattle.sg_graph_text.specs.declared.graph.GraphText.{GraphText}

-- what a record begins with
abbrev pub says_edge : Kept → Bool
says_edge r = begins (codes "edge") r

-- whether a record is a list of terminals
abbrev pub says_term : Kept → Bool
says_term r = begins (codes "term") r

-- the edges `edge,A,B,W`
abbrev pub edge_of : Kept → Edge
edge_of r = record { a = size_in r 1; b = size_in r 2; w = number_in r 3 }

-- the edges of the records, in their order
unfoldable pub edges_in : List Kept → List Edge
edges_in body = map edge_of (filter says_edge body)

-- the entries of the record `term,T,..`, in their order
unfoldable pub entries_given : List Kept → Option (List ℕ)
entries_given body = option_map (λ r. sizes_from r 1) (find says_term body)

-- none if there is no such record
abbrev pub entries_in : List Kept → List ℕ
entries_in body = unwrap_or (entries_given body) []

-- the first record, `graph,N` with the number of nodes
abbrev pub size_fault : Kept → Option Refusal
size_fault r = first_of (
    word_fault (codes "graph") r
    ∷ field_count_fault 2 r
    ∷ field_fault (at_least 1) 1 r
    ∷ many_spins_fault program_limits (size_in r 1)
    ∷ [])

-- an edge of a graph of n nodes, after m edges: its ends are nodes, its weight is not negative, and there is room
abbrev pub edge_fault : ℕ → ℕ → Kept → Option Refusal
edge_fault n m r = first_of (link_fault (at_least 0) n r ∷ bond_count_fault program_limits (m + 1) ∷ [])

-- t is one of n nodes
abbrev pub is_node : ℕ → ℕ → Bool
is_node n t = nat_lt t n

-- the first entry that is not a node, or repeats an earlier one
unfoldable pub bad_terminal : ℕ → List ℕ → Option ℕ
bad_terminal n entries =
    option_map (slice_index entries) (find (is_misplaced (is_node n) entries) (range_with_len 0 (length entries)))

-- the test of the entries of a list of terminals: the first that is not a node, or repeats an earlier one
abbrev pub entry_fault : ℕ → List ℕ → Option Refusal
entry_fault n entries = option_map (λ t. BadTerminal t) (bad_terminal n entries)

-- the terminals are odd in number
abbrev pub odd_fault : ℕ → Option Refusal
odd_fault count = refuse_if (count % 2 == 1) (OddTerminals count)

-- the tests of all terminals of a graph of n nodes
abbrev pub terminals_fault : ℕ → List ℕ → Option Refusal
terminals_fault n entries = first_of (entry_fault n entries ∷ odd_fault (length entries) ∷ [])

-- the record that ends the graph
abbrev pub graph_end_fault : ℕ → List ℕ → Kept → Option Refusal
graph_end_fault n entries r = first_of (field_count_fault 1 r ∷ terminals_fault n entries ∷ [])

-- the tests of a record after the first, in a graph of n nodes; only where `terms` is set may terminals be given
unfoldable pub body_fault : Bool → ℕ → List Kept → Kept → Option Refusal
body_fault terms n body r =
    if says_edge r then edge_fault n (length (edges_in body)) r
    else (if terms && says_term r then sole_list_fault (is_some (entries_given body)) r
    else (if says_end r then graph_end_fault n (entries_in body) r
    else Some (UnknownKind r.at)))

-- the tests of a record of a graph: the number of nodes comes first
unfoldable pub graph_fault : Bool → List Kept → Kept → Option Refusal
graph_fault terms [] r = size_fault r
graph_fault terms (first ∷ body) r = body_fault terms (size_in first 1) body r

-- the nodes among the entries, rising
abbrev pub terminals_of : ℕ → List ℕ → List ℕ
terminals_of n entries = chosen_below (holds entries) n

-- the graph of n nodes that the records after the first give
unfoldable pub body_graph : ℕ → List Kept → GraphText
body_graph n body = record { nodes = n; edges = edges_in body; terminals = terminals_of n (entries_in body) }

-- the graph that the records before the `end` give
unfoldable pub graph_of : List Kept → GraphText
graph_of records = body_graph (size_in (record_at records 0) 1) (drop 1 records)

-- what a graph within the limits keeps: a node or more, edges between nodes with no negative weight, and an even
-- number of terminals
pub record IsGraphText (g : GraphText) : Type 0 where
  pub has_node : 1 ≤ g.nodes
  pub few_nodes : g.nodes ≤ spin_limit
  pub few_edges : length g.edges ≤ bond_limit
  pub joined : All (IsEdge g.nodes) g.edges
  pub terminals : AreTerminals (record { nodes = g.nodes; edges = g.edges }) g.terminals
  pub even : length g.terminals % 2 ≡ 0

-- the records give the graph, and `rest` is left after its `end`. Terminals may be given where `terms` is set
abbrev pub ReadsGraph : Bool → List Kept → GraphText → List Kept → Type 0
ReadsGraph terms records g rest = StatesToEnd (graph_fault terms) graph_of records g rest

-- the records are refused: at a record that fails a test, or because they run out
abbrev pub RefusesGraph : Bool → List Kept → Refusal → List Kept → Type 0
RefusesGraph terms records refusal rest = RefusesRecords (graph_fault terms) records refusal rest

-- what is kept while they are read: the edges of the records, and the entries of their terminals
pub record HoldsGraph (start : GraphBody) (body : List Kept) (now : GraphBody) : Type 0 where
  pub nodes : now.nodes ≡ start.nodes
  pub terms : now.terms ≡ start.terms
  pub some : 1 ≤ now.nodes
  pub few_nodes : now.nodes ≤ spin_limit
  pub edges : now.edges ≡ edges_in body
  pub few : length now.edges ≤ bond_limit
  pub joined : All (IsEdge now.nodes) now.edges
  pub entries : now.entries ≡ entries_given body
