use Rattle.std.proofs.Common.{inl, inr, ◌≡◌, ◌∙◌, ap, subst, arith, ◌<◌, ℕ, length, slice_index}
use Rattle.std.proofs.lemmas.Bool.{cases_Bool}
use Rattle.sg_graph.specs.Incidence.{EndsAt, list_at}
use Rattle.sg_postman.specs.Tour.{end_of}
use Rattle.sg_postman.specs.Tracing.{IsUsedUp, left_of, one_less}
use Rattle.sg_postman.proofs.OpenEdges.{all_end, spent_at, tried_less}
use Rattle.sg_postman.proofs.Tracings.{stands_low, forward, backed, one_less_low}
use Rattle.sg_postman.proofs.hierholzer.advance.Goals as goal
use Rattle.sg_postman.proofs.hierholzer.advance.Goals.{After-nodes-nodes}

node_is : (c : After-nodes-nodes) → c.standing-node.result ≡ end_of 0 c.args.out.now.items
node_is c = c.standing-node.ensures ∙ ap (end_of 0) c.as_slice.ensures.value

-- where one stands is a node
low : (c : After-nodes-nodes) → c.standing-node.result < c.args.web.now.nodes
low c =
    rw (node_is c) (stands_low c.args.web.now c.nodes-nodes.ensures.web c.requires.tracing.0 c.args.left.now c.args.out.now.items
    c.args.back.now.items c.requires.tracing.1)

pub open_edge-requires-clause-node : goal.open_edge-requires-clause-node
open_edge-requires-clause-node c = omega (arith, low (goal.at.open_edge-requires-clause-node c).After-nodes-nodes, c.requires.incident.count)

pub open_edge-requires-clause-edges : goal.open_edge-requires-clause-edges
open_edge-requires-clause-edges c = λ k d l.
    let low' = low (goal.at.open_edge-requires-clause-edges c).After-nodes-nodes in
    omega (arith, (all_end c.args.web.now c.args.incidence.now c.requires.incident c.standing-node.result low' k d l).0, c.requires.tracing.1.count)

-- an edge of the list ends where one stands
ends : (c : After-nodes-nodes) (k e : ℕ) → k < length (list_at c.args.incidence.now c.standing-node.result)
    → slice_index (list_at c.args.incidence.now c.standing-node.result) k ≡ e → EndsAt c.args.web.now (end_of 0 c.args.out.now.items) e
ends c k e l is =
    subst (λ n. EndsAt c.args.web.now n e) (node_is c)
    (subst (EndsAt c.args.web.now c.standing-node.result) is
    (all_end c.args.web.now c.args.incidence.now c.requires.incident c.standing-node.result (low c) k 0 l))

-- where no edge of the list has a copy left, the node is spent
spent : (c : After-nodes-nodes) → ((k : ℕ) → k < length (list_at c.args.incidence.now c.standing-node.result)
    → left_of c.args.left.now (slice_index (list_at c.args.incidence.now c.standing-node.result) k) ≡ 0)
    → IsUsedUp c.args.web.now c.args.left.now (end_of 0 c.args.out.now.items)
spent c none =
    subst (IsUsedUp c.args.web.now c.args.left.now) (node_is c)
    (spent_at c.args.web.now c.args.incidence.now c.requires.incident c.standing-node.result (low c) c.args.left.now none)

pub go-requires-clause-ends : goal.go-requires-clause-ends
go-requires-clause-ends c =
    let found = c.in-Some.ensures.found in
    ends (goal.at.go-requires-clause-ends c).After-nodes-nodes found.0 c.in-Some.edge found.1 found.2

pub returns-in_ok-go-in-Some-clause-tracing : goal.returns-in_ok-go-in-Some-clause-tracing
returns-in_ok-go-in-Some-clause-tracing c = λ copies tracing.
    let found = c.in-Some.ensures.found in
    let here = ends (goal.at.returns-in_ok-go-in-Some-clause-tracing c).After-nodes-nodes found.0 c.in-Some.edge found.1 found.2 in
    rw (c.in_ok-go-in-Some.ensures.out, c.in_ok-go-in-Some.ensures.left)
    (forward c.args.web.now c.nodes-nodes.ensures.web copies c.args.left.now c.args.out.now.items c.args.back.now.items c.in-Some.edge
    tracing here found.3)

pub returns-in_ok-go-in-Some-clause-tried : goal.returns-in_ok-go-in-Some-clause-tried
returns-in_ok-go-in-Some-clause-tried c =
    let found = c.in-Some.ensures.found in
    let here = ends (goal.at.returns-in_ok-go-in-Some-clause-tried c).After-nodes-nodes found.0 c.in-Some.edge found.1 found.2 in
    let low' : c.in-Some.edge < length c.args.left.now = omega (arith, here.0, c.requires.tracing.1.count) in
    rw (c.in_ok-go-in-Some.ensures.left)
    (tried_less c.args.incidence.now c.args.left.now (one_less c.args.left.now c.in-Some.edge) c.open_edge.new.tried.items
    (λ e. one_less_low c.args.left.now c.in-Some.edge e low' found.3) c.in-Some.ensures.tried)

pub returns-in_ok-more-in-None-clause-tracing : goal.returns-in_ok-more-in-None-clause-tracing
returns-in_ok-more-in-None-clause-tracing c = λ copies tracing.
    let none' = spent (goal.at.returns-in_ok-more-in-None-clause-tracing c).After-nodes-nodes c.in-None.ensures.found in
    elim (cases_Bool c.in_ok-more-in-None.more) [
      | inl more ↦
          let s = c.in_ok-more-in-None.ensures.more more in
          backed c.args.web.now c.nodes-nodes.ensures.web copies c.args.left.now c.retreat.new.out.items c.args.out.now.items
          c.args.back.now.items c.retreat.new.back.items s.0 tracing s.1 s.2 none'
      | inr last ↦ (let e = c.in_ok-more-in-None.ensures.none last in rw (e.1, e.2) (rw e.0 at tracing))
    ]

pub returns-in_ok-more-in-None-clause-done : goal.returns-in_ok-more-in-None-clause-done
returns-in_ok-more-in-None-clause-done c = λ last.
    let none' = spent (goal.at.returns-in_ok-more-in-None-clause-done c).After-nodes-nodes c.in-None.ensures.found in
    let e = c.in_ok-more-in-None.ensures.none last in
    (e.1, rw e.0 at none')
