use Rattle.std.proofs.Common.{◌≡◌, ◌<◌, ◌∙◌, ap, arith, false, true, get_or, length, sym}
use Rattle.std.proofs.lemmas.Grind.{common_steps}
use Rattle.std.proofs.lemmas.List.{get_or_read}
use Rattle.sg_graph.specs.Incidence.{EndsAt}
use Rattle.sg_graph.proofs.Searching.{Visits-more_new, Visits-more_same, other_in}
use Rattle.sg_graph.proofs.search.visit.Goals as goal
use Rattle.sg_graph.proofs.search.visit.Goals.{then-not-index+in_ok-push, else-not-index}

pub loop-k-preserved : goal.loop-k-preserved
loop-k-preserved c =
    let low : c.loop-k.k-index < length c.args.edges_here.now = omega arith in
    let same : c.as_slice-edges.result.now ≡ c.args.web.now.edges = c.as_slice-edges.ensures ∙ c.edges.ensures.value in
    let ends : EndsAt c.args.web.now c.args.node (get_or c.args.edges_here.now c.loop-k.k-index 0) = c.requires.here c.loop-k.k-index 0 low in
    let other_node : c.other-other.result < c.args.web.now.nodes = other_in c.args.web.now c.args.node c.args.edges_here.now c.loop-k.k-index
    c.other-other.result c.as_slice-edges.result.now c.edges.ensures.web same c.other-other.ensures ends in
    let in' : c.other-other.result < length c.loop-k.marks.items = omega arith in
    let read : c.index.result.now ≡ get_or c.loop-k.marks.items c.other-other.result false = get_or_read c.loop-k.marks.items c.other-other.result
    c.index.result.now in' c.index.ensures false in
    elim c.if-not-index.branch [
      | then-not-index+in_ok-push w ↦ (
          let h : c.index.result.now ≡ false = w.if-not-index.true in
          Visits-more_new c.args.web.now c.args.node c.args.edges_here.now c.loop-k.k-index c.other-other.result c.as_slice-edges.result.now
          c.args.marks.now.items c.loop-k.marks.items c.args.found.now.items c.loop-k.found.items low same c.other-other.ensures c.loop-k.invariant
          c.if-not-index.marks.items c.if-not-index.found.items ends in' (sym read ∙ h) (ap (λ v. v.items) w.marks-is)
          (ap (λ v. v.items) w.found-is ∙ w.in_ok-push.ensures.items))
      | else-not-index w ↦ (
          let h : c.index.result.now ≡ true = w.if-not-index.false in
          Visits-more_same c.args.web.now c.args.node c.args.edges_here.now c.loop-k.k-index c.other-other.result c.as_slice-edges.result.now
          c.args.marks.now.items c.loop-k.marks.items c.args.found.now.items c.loop-k.found.items low same c.other-other.ensures c.loop-k.invariant
          c.if-not-index.marks.items c.if-not-index.found.items (sym read ∙ h) (ap (λ v. v.items) w.marks-is) (ap (λ v. v.items) w.found-is))
    ]

pub returns : goal.returns
returns c = grind (arith, common_steps)
