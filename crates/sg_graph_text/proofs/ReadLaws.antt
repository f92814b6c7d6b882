-- A graph by its first record and those behind it.
use Rattle.std.proofs.Common.{◌≡◌, ℕ, Bool, false, List, [], ◌∷◌, None, refl, sym, ap, ap₂, subst, ◌∙◌, codes}
use Rattle.sg_model.specs.declared.refusal.Fault.{Fault}
use Rattle.sg_reader.specs.Kept.{Kept}
use Rattle.sg_reader.specs.Tests.{size_in}
use Rattle.sg_reader.specs.Body.{says_end}
use Rattle.sg_reader.specs.Ended.{IsEnded, RefusesRecords, StatesToEnd, TestTable, Fails, HoldsToEnd, RefusesNext}
use Rattle.sg_draft.specs.Tests.{Refuses}
use Rattle.sg_reader.proofs.EndedLaws.{end-fault, first-fault, refuses-cons, states-cons}
use Rattle.sg_reader.proofs.RestLaws.{fails-on}
use Rattle.sg_reader.proofs.ResultLaws.{word-passes}
use Rattle.sg_graph_text.specs.declared.body.GraphBody.{GraphBody}
use Rattle.sg_graph_text.specs.Graph.{HoldsGraph, body_fault, body_graph, graph_fault, graph_of, size_fault, ReadsGraph, RefusesGraph}
use Rattle.sg_graph_text.specs.declared.graph.GraphText.{GraphText}
use Rattle.sg_model.specs.Faults.{OrNoMemory}

size-no_end : (r : Kept) → size_fault r ≡ None → says_end r ≡ false
size-no_end r h = word-passes (codes "graph") (codes "end") r _ refl h

-- what refuses the first record refuses the graph
pub size-fault : (terms : Bool) (all : List Kept) (r : Kept) (rest : List Kept) (e : Fault) → all ≡ r ∷ rest → OrNoMemory (Refuses (size_fault r)) e
    → Fails (RefusesGraph terms all) all rest e
unfolding graph_fault
size-fault terms all r rest e split bad = first-fault (graph_fault terms) all r rest e split bad

-- the tests of the body are those of the graph
tests-graph : (terms : Bool) (n : ℕ) (start : GraphBody) → start.terms ≡ terms → start.nodes ≡ n → body_fault start.terms start.nodes ≡ body_fault terms n
tests-graph terms n start allowed nodes = ap₂ body_fault allowed nodes

-- what refuses a record behind the first refuses the body
pub body-fails : (terms : Bool) (n : ℕ) (start : GraphBody) (all rest : List Kept) (e : Fault) → start.terms ≡ terms → start.nodes ≡ n
    → Fails (RefusesRecords (body_fault start.terms start.nodes) all) all rest e → Fails (RefusesRecords (body_fault terms n) all) all rest e
body-fails terms n start all rest e allowed nodes bad =
    subst (λ (t : TestTable). Fails (RefusesRecords t all) all rest e) (tests-graph terms n start allowed nodes) bad

module _ (terms : Bool) (n : ℕ) (start : GraphBody) (all : List Kept) (now : GraphBody) (last : Kept) (rest : List Kept)
    (h : HoldsToEnd (λ s. body_fault s.terms s.nodes) HoldsGraph start all now last rest) where
  -- what refuses the `end` refuses the body
  pub end-fails : (e : Fault) → start.terms ≡ terms → start.nodes ≡ n → RefusesNext (λ s. body_fault s.terms s.nodes) HoldsGraph now last e
      → Fails (RefusesRecords (body_fault terms n) all) all rest e
  end-fails e allowed nodes bad = body-fails terms n start all rest e allowed nodes
      (end-fault (λ s. body_fault s.terms s.nodes) HoldsGraph start all now last rest h e (bad.refused start h.body h.held))

  -- an `end` that passes makes the graph that is stated
  pub body-states : (g : GraphText) → start.terms ≡ terms → start.nodes ≡ n → body_fault start.terms start.nodes h.body last ≡ None
      → g ≡ body_graph start.nodes h.body → StatesToEnd (body_fault terms n) (body_graph n) all g rest
  body-states g allowed nodes good value = record {
    body = h.body;
    last = last;
    ended = subst (λ (t : TestTable). IsEnded t all h.body last rest) (tests-graph terms n start allowed nodes) h.ended;
    passes = ap (λ (t : TestTable). t h.body last) (sym (tests-graph terms n start allowed nodes)) ∙ good;
    value = value ∙ ap (λ (k : ℕ). body_graph k h.body) nodes;
  }

-- behind a good first record, what refuses the body refuses the graph
pub behind-fault : (terms : Bool) (all : List Kept) (r : Kept) (more rest : List Kept) (e : Fault) → all ≡ r ∷ more → size_fault r ≡ None
    → Fails (RefusesRecords (body_fault terms (size_in r 1)) more) more rest e → Fails (RefusesGraph terms all) all rest e
unfolding graph_fault
behind-fault terms all r more rest e split good bad =
    fails-on (RefusesRecords (body_fault terms (size_in r 1)) more) (RefusesGraph terms all) all (r ∷ []) more rest split
    (λ x refused. refuses-cons (graph_fault terms) all more r x rest split (size-no_end r good) good refused) e bad

-- a first record that passes, and the records behind it, give the graph
pub behind-graph : (terms : Bool) (all : List Kept) (r : Kept) (more : List Kept) (g : GraphText) (rest : List Kept) → all ≡ r ∷ more
    → size_fault r ≡ None → StatesToEnd (body_fault terms (size_in r 1)) (body_graph (size_in r 1)) more g rest → ReadsGraph terms all g rest
unfolding graph_fault graph_of
behind-graph terms all r more g rest split good st = states-cons (graph_fault terms) graph_of all more r g rest split (size-no_end r good) good st
