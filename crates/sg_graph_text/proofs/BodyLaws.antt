-- The records of a graph behind the first, one more at a time.
use Rattle.std.proofs.Common.{◌≡◌, ℕ, ◌%◌, ◌<◌, ◌≤◌, Bool, true, false, List, [], ◌∷◌, ◌++◌, length, Option, Some, None, refl, sym, ap, ◌∙◌, arith, codes}
use Rattle.std.proofs.Common.{◌&&◌, is_some, unwrap_or, length-append}
use Rattle.std.proofs.lemmas.List.Elements.{All-append, All-cons, All-nil, All-same}
use Rattle.sg_base.specs.Limits.{bond_limit, spin_limit}
use Rattle.sg_model.specs.declared.refusal.Fault.{Fault}
use Rattle.sg_model.specs.declared.refusal.Fault.TheVariants.{Refused, NoMemory}
use Rattle.sg_model.specs.declared.refusal.Refusal.{Refusal}
use Rattle.sg_model.specs.declared.refusal.Refusal.TheVariants.{UnknownKind}
use Rattle.sg_graph.specs.declared.web.Edge.{Edge}
use Rattle.sg_graph.specs.Web.{IsEdge}
use Rattle.sg_reader.specs.Kept.{Kept}
use Rattle.sg_draft.specs.Tests.{Refuses}
use Rattle.sg_reader.specs.Body.{sole_list_fault, says_end, sizes_from}
use Rattle.sg_reader.specs.Tests.{field_count_fault}
use Rattle.sg_reader.proofs.BodyLaws.{given-first, given-other, sole_list_fault-passes, other-word, said-more, said-other}
use Rattle.sg_reader.specs.Ended.{HoldsSome, RefusesNext, TakesNext}
use Rattle.sg_graph_text.specs.declared.body.GraphBody.{GraphBody}
use Rattle.sg_graph_text.specs.Graph.{IsGraphText, body_fault, body_graph, edge_fault, edge_of, edges_in, entries_given, entries_in, graph_end_fault, says_edge, says_term, terminals_fault, terminals_of, HoldsGraph}
use Rattle.sg_graph_text.proofs.TerminalLaws.{are_terminals}
use Rattle.sg_model.specs.Faults.{OrNoMemory}

-- an `edge` is tested as one behind the edges before it
pub body_fault-edge : (terms : Bool) (n : ℕ) (body : List Kept) (r : Kept) → says_edge r ≡ true
    → body_fault terms n body r ≡ edge_fault n (length (edges_in body)) r
unfolding body_fault
body_fault-edge terms n body r h = rw h refl

-- where terminals may stand a `term` is tested as one behind the others
pub body_fault-term : (terms : Bool) (n : ℕ) (body : List Kept) (r : Kept) → terms ≡ true → says_term r ≡ true
    → body_fault terms n body r ≡ sole_list_fault (is_some (entries_given body)) r
unfolding body_fault
body_fault-term terms n body r allowed h = rw (other-word r (codes "term") (codes "edge") h refl, allowed, h) refl

and-no : (terms : Bool) → (terms && false) ≡ false
and-no true = refl
and-no false = refl

-- where terminals may not stand no record is taken for a `term`
pub not_allowed : (terms is : Bool) → terms ≡ false → (terms && is) ≡ false
not_allowed terms is h = rw h refl

-- a record that is no `term` is not taken for one
pub no_term : (terms is : Bool) → is ≡ false → (terms && is) ≡ false
no_term terms is h = rw h (and-no terms)

-- an `end` is tested with the terminals before it
pub body_fault-end : (terms : Bool) (n : ℕ) (body : List Kept) (r : Kept) → says_end r ≡ true
    → body_fault terms n body r ≡ graph_end_fault n (entries_in body) r
unfolding body_fault
body_fault-end terms n body r h = rw (other-word r (codes "end") (codes "edge") h refl, other-word r (codes "end") (codes "term") h refl, and-no terms, h) refl

-- any other record is of no known kind
pub body_fault-other : (terms : Bool) (n : ℕ) (body : List Kept) (r : Kept) → says_edge r ≡ false → (terms && says_term r) ≡ false → says_end r ≡ false
    → body_fault terms n body r ≡ Some (UnknownKind r.at)
unfolding body_fault
body_fault-other terms n body r a b c = rw (a, b, c) refl

-- the edges of one more record
edges_in-more : (body : List Kept) (r : Kept) → says_edge r ≡ true → edges_in (body ++ r ∷ []) ≡ edges_in body ++ edge_of r ∷ []
unfolding edges_in
edges_in-more body r h = said-more says_edge edge_of body r h

edges_in-other : (body : List Kept) (r : Kept) → says_edge r ≡ false → edges_in (body ++ r ∷ []) ≡ edges_in body
unfolding edges_in
edges_in-other body r h = said-other says_edge edge_of body r h

-- the entries of one more record
entries_given-first : (body : List Kept) (r : Kept) → is_some (entries_given body) ≡ false → says_term r ≡ true
    → entries_given (body ++ r ∷ []) ≡ Some (sizes_from r 1)
unfolding entries_given
entries_given-first body r none is = given-first says_term (λ q. sizes_from q 1) body r none is

entries_given-other : (body : List Kept) (r : Kept) → says_term r ≡ false → entries_given (body ++ r ∷ []) ≡ entries_given body
unfolding entries_given
entries_given-other body r other = given-other says_term (λ q. sizes_from q 1) body r other

-- nothing was read yet
pub holds-none : (state : GraphBody) → 1 ≤ state.nodes → state.nodes ≤ spin_limit → state.edges ≡ [] → state.entries ≡ None → HoldsGraph state [] state
unfolding edges_in entries_given
holds-none state some few none no_entries = record {
  nodes = refl;
  terms = refl;
  some = some;
  few_nodes = few;
  edges = none;
  few = omega (arith, ap length none);
  joined = All-same (IsEdge state.nodes) state.edges [] none (All-nil (IsEdge state.nodes));
  entries = no_entries;
}

edge-tested : (old : GraphBody) (r : Kept) (m : ℕ) → m ≡ length old.edges → says_edge r ≡ true → (start : GraphBody) (body : List Kept)
    → HoldsGraph start body old → body_fault start.terms start.nodes body r ≡ edge_fault old.nodes m r
edge-tested old r m many is start body h =
    body_fault-edge start.terms start.nodes body r is ∙ ap (λ (l : List Edge). edge_fault start.nodes (length l) r) (sym h.edges)
    ∙ ap (λ (k : ℕ). edge_fault start.nodes k r) (sym many) ∙ ap (λ (k : ℕ). edge_fault k m r) (sym h.nodes)

-- an `edge` is taken
pub edge-taken : (old new : GraphBody) (r : Kept) (m : ℕ) → m ≡ length old.edges → says_edge r ≡ true → edge_fault old.nodes m r ≡ None
    → new.nodes ≡ old.nodes → new.terms ≡ old.terms → new.entries ≡ old.entries → new.edges ≡ old.edges ++ edge_of r ∷ []
    → IsEdge old.nodes (edge_of r) → m < bond_limit → TakesNext (λ s. body_fault s.terms s.nodes) HoldsGraph old r new
edge-taken old new r m many is good same_nodes same_terms same_entries added sound room = record {
  passes = λ start body h. edge-tested old r m many is start body h ∙ good;
  goes_on = λ start body h. record {
    nodes = same_nodes ∙ h.nodes;
    terms = same_terms ∙ h.terms;
    some = omega (arith, same_nodes, h.some);
    few_nodes = omega (arith, same_nodes, h.few_nodes);
    edges = added ∙ ap (λ (l : List Edge). l ++ edge_of r ∷ []) h.edges ∙ sym (edges_in-more body r is);
    few = omega (arith, ap length added, length-append old.edges (edge_of r ∷ []), many, room);
    joined = rw same_nodes (All-same (IsEdge old.nodes) new.edges (old.edges ++ edge_of r ∷ []) added
        (All-append (IsEdge old.nodes) old.edges (edge_of r ∷ []) h.joined (All-cons (IsEdge old.nodes) (edge_of r) [] sound
        (All-nil (IsEdge old.nodes)))));
    entries = same_entries ∙ h.entries ∙ sym (entries_given-other body r (other-word r (codes "edge") (codes "term") is refl));
  };
}

-- an `edge` is refused
pub edge-refused : (old : GraphBody) (r : Kept) (m : ℕ) (x : Refusal) → m ≡ length old.edges → says_edge r ≡ true → edge_fault old.nodes m r ≡ Some x
    → RefusesNext (λ s. body_fault s.terms s.nodes) HoldsGraph old r (Refused x)
edge-refused old r m x many is bad = record { refused = λ start body h. edge-tested old r m many is start body h ∙ bad }

term-tested : (old : GraphBody) (r : Kept) (seen : Bool) → is_some old.entries ≡ seen → old.terms ≡ true → says_term r ≡ true
    → (start : GraphBody) (body : List Kept) → HoldsGraph start body old → body_fault start.terms start.nodes body r ≡ sole_list_fault seen r
term-tested old r seen was allowed is start body h = body_fault-term start.terms start.nodes body r (sym h.terms ∙ allowed) is
    ∙ ap (λ (b : Bool). sole_list_fault b r) (sym (ap is_some h.entries) ∙ was)

-- a `term` is taken
pub term-taken : (old new : GraphBody) (r : Kept) (seen : Bool) (list : List ℕ) → is_some old.entries ≡ seen → old.terms ≡ true
    → says_term r ≡ true → sole_list_fault seen r ≡ None → list ≡ sizes_from r 1 → new.nodes ≡ old.nodes → new.terms ≡ old.terms
    → new.edges ≡ old.edges → new.entries ≡ Some list → TakesNext (λ s. body_fault s.terms s.nodes) HoldsGraph old r new
term-taken old new r seen list was allowed is good value same_nodes same_terms same_edges given = record {
  passes = λ start body h. term-tested old r seen was allowed is start body h ∙ good;
  goes_on = λ start body h.
      let now = entries_given-first body r (ap is_some (sym h.entries) ∙ was ∙ sole_list_fault-passes seen r good) is in
      record {
        nodes = same_nodes ∙ h.nodes;
        terms = same_terms ∙ h.terms;
        some = omega (arith, same_nodes, h.some);
        few_nodes = omega (arith, same_nodes, h.few_nodes);
        edges = same_edges ∙ h.edges ∙ sym (edges_in-other body r (other-word r (codes "term") (codes "edge") is refl));
        few = omega (arith, ap length same_edges, h.few);
        joined = rw (same_nodes, same_edges) h.joined;
        entries = given ∙ ap (λ (l : List ℕ). Some l) value ∙ sym now;
      };
}

-- a `term` is refused
pub term-refused : (old : GraphBody) (r : Kept) (seen : Bool) (e : Fault) → is_some old.entries ≡ seen → old.terms ≡ true → says_term r ≡ true
    → OrNoMemory (Refuses (sole_list_fault seen r)) e → RefusesNext (λ s. body_fault s.terms s.nodes) HoldsGraph old r e
term-refused old r seen e was allowed is bad = record { refused = λ start body h. rw (term-tested old r seen was allowed is start body h) bad }

-- any other record is refused
pub other-refused : (old : GraphBody) (r : Kept) → says_edge r ≡ false → (old.terms && says_term r) ≡ false → says_end r ≡ false
    → RefusesNext (λ s. body_fault s.terms s.nodes) HoldsGraph old r (Refused (UnknownKind r.at))
other-refused old r a b c = record {
  refused = λ start body h. body_fault-other start.terms start.nodes body r a (ap (λ (t : Bool). t && says_term r) (sym h.terms) ∙ b) c;
}

-- a bare `end` is tested with the terminals before it
end-tested : (now : GraphBody) (r : Kept) → says_end r ≡ true → (start : GraphBody) (body : List Kept) → HoldsGraph start body now
    → body_fault start.terms start.nodes body r ≡ graph_end_fault now.nodes (unwrap_or now.entries []) r
end-tested now r end start body h =
    body_fault-end start.terms start.nodes body r end ∙ ap (λ (o : Option (List ℕ)). graph_end_fault start.nodes (unwrap_or o []) r) (sym h.entries)
    ∙ ap (λ (n : ℕ). graph_end_fault n (unwrap_or now.entries []) r) (sym h.nodes)

-- a bare `end` behind good terminals passes
pub end-passes : (now : GraphBody) (r : Kept) → says_end r ≡ true → field_count_fault 1 r ≡ None → terminals_fault now.nodes (unwrap_or now.entries []) ≡ None
    → (start : GraphBody) (body : List Kept) → HoldsGraph start body now → body_fault start.terms start.nodes body r ≡ None
end-passes now r end bare good start body h = end-tested now r end start body h ∙ rw (bare, good) refl

-- an `end` with another field is refused for that
pub end-bare : (now : GraphBody) (r : Kept) (x : Refusal) → says_end r ≡ true → field_count_fault 1 r ≡ Some x
    → RefusesNext (λ s. body_fault s.terms s.nodes) HoldsGraph now r (Refused x)
end-bare now r x end bad = record { refused = λ start body h. end-tested now r end start body h ∙ rw bad refl }

-- a bare `end` is refused for its terminals
pub end-terminals : (now : GraphBody) (r : Kept) (e : Fault) → says_end r ≡ true → field_count_fault 1 r ≡ None
    → OrNoMemory (Refuses (terminals_fault now.nodes (unwrap_or now.entries []))) e → RefusesNext (λ s. body_fault s.terms s.nodes) HoldsGraph now r e
end-terminals now r (Refused x) end bare bad = record { refused = λ start body h. end-tested now r end start body h ∙ rw (bare, bad) refl }
end-terminals now r NoMemory end bare bad = record { refused = λ start body h. tt }

-- the graph that is kept
pub graph-held : (now : GraphBody) (list : List ℕ) → list ≡ terminals_of now.nodes (unwrap_or now.entries [])
    → (start : GraphBody) (body : List Kept) → HoldsGraph start body now
    → record { nodes = now.nodes; edges = now.edges; terminals = list } ≡ body_graph start.nodes body
unfolding body_graph
graph-held now list value start body h =
    let same : list ≡ terminals_of now.nodes (entries_in body) = value ∙ ap (λ (o : Option (List ℕ)). terminals_of now.nodes (unwrap_or o [])) h.entries in
    rw (← h.nodes) (λ i. record { nodes = now.nodes; edges = h.edges i; terminals = same i })

-- what is kept makes a graph within the limits
pub sound-held : (now : GraphBody) (list : List ℕ) → list ≡ terminals_of now.nodes (unwrap_or now.entries []) → length list % 2 ≡ 0
    → HoldsSome HoldsGraph now → IsGraphText (record { nodes = now.nodes; edges = now.edges; terminals = list })
sound-held now list value even h = record {
  has_node = h.held.some;
  few_nodes = h.held.few_nodes;
  few_edges = h.held.few;
  joined = h.held.joined;
  terminals = rw value (are_terminals now.nodes now.edges (unwrap_or now.entries []));
  even = even;
}
