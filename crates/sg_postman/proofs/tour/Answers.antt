use Rattle.std.proofs.Common.{◌≡◌, ◌∙◌, sym, ap, subst, arith, ℕ, ◌+◌, ◌%◌, ◌<◌, ◌≤◌, ◌^◌, List, length, cond, pos, sum_by}
use Rattle.sg_base.specs.Sets.{holds}
use Rattle.sg_graph.specs.declared.web.Edge.{Edge}
use Rattle.sg_graph.specs.Join.{AreTerminals, IsLeastJoin}
use Rattle.sg_graph.specs.OddCut.{CutsPack}
use Rattle.sg_graph.specs.Web.{edge_count, total_weight, weight_at, weight_of}
use Rattle.sg_graph.proofs.OnceLists.{rising_light}
use Rattle.sg_postman.specs.Tour.{odd_nodes}
use Rattle.sg_postman.specs.Tracing.{left_of, IsEulerTour}
use Rattle.sg_postman.proofs.OddNodes.{odd_nodes_even, odd_nodes_terminals}
use Rattle.sg_postman.proofs.DoubledJoins.{even_copies, euler_least}
use Rattle.sg_postman.proofs.TourWeights.{sum_fits, sum_is}
use Rattle.sg_postman.proofs.tour.Goals as goal
use Rattle.sg_postman.proofs.tour.Goals.{After-deref_mut}

pub least_join-requires-clause-terminals : goal.least_join-requires-clause-terminals
least_join-requires-clause-terminals c =
    subst (AreTerminals c.args.web.now) (sym c.in_ok-terminals.ensures) (odd_nodes_terminals c.args.web.now)

pub least_join-requires-clause-even : goal.least_join-requires-clause-even
least_join-requires-clause-even c = ap (λ ts. length ts % 2) c.in_ok-terminals.ensures ∙ odd_nodes_even c.args.web.now c.edges.ensures.web

least : (c : After-deref_mut) → IsLeastJoin c.args.web.now (odd_nodes c.args.web.now) c.in_ok-join.join.edges
least c = subst (λ ts. IsLeastJoin c.args.web.now ts c.in_ok-join.join.edges) c.in_ok-terminals.ensures c.in_ok-join.ensures.least

-- how often each edge is used
used : (c : After-deref_mut) → (e : ℕ) → e < edge_count c.args.web.now → left_of c.deref_mut.result.now e ≡ 1 + cond (holds c.in_ok-join.join.edges e) 1 0
used c e l =
    let all : c.as_slice-edges.result.now ≡ c.args.web.now.edges = c.as_slice-edges.ensures ∙ c.edges.ensures.value in
    ap (λ xs. left_of xs e) c.deref_mut.ensures.value
    ∙ c.in_ok-left.ensures.copies e (omega (arith, l, ap (length {A = Edge}) all))
    ∙ ap (λ es. 1 + cond {A = ℕ} (holds es e) 1 0) c.as_slice.ensures

pub trace-requires-clause-even : goal.trace-requires-clause-even
trace-requires-clause-even c = even_copies c.args.web.now c.in_ok-join.join.edges c.deref_mut.result.now (least c).join (used c)

total : (c : After-deref_mut) → sum_by weight_at c.as_slice-edges.result.now ≡ total_weight c.args.web.now
total c = ap (λ (es : List Edge). sum_by weight_at es) (c.as_slice-edges.ensures ∙ c.edges.ensures.value)

light : (c : After-deref_mut) → total_weight c.args.web.now + weight_of c.args.web.now c.in_ok-join.join.edges ≤ 2 ^ 60
light c = omega (arith, c.requires.light, rising_light c.args.web.now c.in_ok-join.join.edges (least c).join.below (least c).join.rising)

pub overflow_add-result : goal.overflow_add-result
overflow_add-result c =
    let at = (goal.at.overflow_add-result c).After-deref_mut in
    sum_fits (total_weight c.args.web.now) (weight_of c.args.web.now c.in_ok-join.join.edges) c.all_weight.result c.in_ok-join.join.weight
    (c.all_weight.ensures ∙ ap (λ n. pos n) (total at)) c.in_ok-join.ensures.weight (light at)

pub returns : goal.returns
returns c =
    let at = (goal.at.returns c).After-deref_mut in
    let g = c.args.web.now in
    let join = c.in_ok-join.join.edges in
    let euler : IsEulerTour g (left_of c.deref_mut.result.now) c.from_vec.result =
    subst (IsEulerTour g (left_of c.deref_mut.result.now)) (sym c.from_vec.ensures) c.in_ok-steps.ensures in
    euler_least g join c.deref_mut.result.now (least at).join (used at) c.from_vec.result euler _ c.in_ok-join.join.cuts (least at)
    (sum_is (total_weight g) (weight_of g join) c.all_weight.result c.in_ok-join.join.weight
    (c.all_weight.ensures ∙ ap (λ n. pos n) (total at)) c.in_ok-join.ensures.weight (light at))
    (subst (λ ts. CutsPack g ts c.in_ok-join.join.cuts) c.in_ok-terminals.ensures c.in_ok-join.ensures.packs) c.in_ok-join.ensures.tight
