use Rattle.std.proofs.Common.{◌≡◌, ◌∙◌, sym, ap, arith, length, List, Bool, ℕ}
use Rattle.std.proofs.lemmas.Result.{IfOk-weaker}
use Rattle.sg_base.specs.Parity.{odd, parity_below}
use Rattle.sg_base.specs.Sets.{chosen_below, is_marked}
use Rattle.sg_base.proofs.Choosing.{chosen_below_same}
use Rattle.sg_graph.specs.declared.web.Edge.{Edge}
use Rattle.sg_graph.specs.Web.{degree_of, edge_count}
use Rattle.sg_postman.specs.Tour.{odd_nodes}
use Rattle.sg_postman.proofs.OddNodes.{degree_parity, is_end_at}
use Rattle.sg_postman.proofs.degrees.odd_nodes.Goals as goal

pub returns : goal.returns
returns c =
    let g = c.args.web.now in
    let marks : List Bool = c.loop-k.odd.items in
    let ended : c.loop-k.k ≡ edge_count g = omega (arith, c.loop-k.auto.k-end, c.loop-k-test.false, ap (length {A = Edge}) c.loop-k.invariant.list) in
    let chosen : List ℕ = chosen_below (is_marked c.deref.result.now) (length c.deref.result.now) in
    let is : chosen ≡ odd_nodes g =
    ap (λ ms. chosen_below (is_marked ms) (length ms)) c.deref.ensures.value
    ∙ ap (chosen_below (is_marked marks)) c.loop-k.invariant.room
    ∙ chosen_below_same (is_marked marks) (λ x. odd (degree_of g x)) g.nodes
    (λ x l. c.loop-k.invariant.marks x ∙ ap (parity_below (is_end_at g x)) ended ∙ sym (degree_parity g x)) in
    IfOk-weaker c.places.result (λ (list : List ℕ). list ≡ chosen) (λ list. list ≡ odd_nodes g) (λ list same. same ∙ is) c.places.ensures
