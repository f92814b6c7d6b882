use Rattle.std.proofs.Common.{◌∙◌, ◌<◌, ◌++◌, ◌∷◌, [], ap, arith, false, length, replicate, subst}
use Rattle.std.proofs.lemmas.Grind.{common_steps}
use Rattle.std.proofs.lemmas.List.{get_or_read}
use Rattle.sg_graph.specs.Search.{VisitsEdges}
use Rattle.sg_graph.proofs.Incidences.{incident_ends}
use Rattle.sg_graph.proofs.Searching.{Explores-first, Explores-more, MarksReached-all, marked_low}
use Rattle.sg_graph.proofs.search.marks_from_first.Goals as goal

pub loop-next-init : goal.loop-next-init
loop-next-init c =
    Explores-first c.args.web.now c.in_ok-marks.marks.items c.push.new.self.items c.nodes.ensures.web
    (c.in_ok-marks.ensures.items_if_clones_equal (λ y e. e) ∙ ap (λ n. replicate n false) c.nodes.ensures.value)
    (c.in_ok-push.ensures.items ∙ ap (λ xs. xs ++ 0 ∷ []) c.new-found.ensures.items)

pub visit-requires-clause-here : goal.visit-requires-clause-here
visit-requires-clause-here c = grind (arith, marked_low, incident_ends)

pub loop-next-preserved : goal.loop-next-preserved
loop-next-preserved c =
    let low : c.loop-next.next < length c.loop-next.found.items = omega arith in
    Explores-more c.args.web.now c.loop-next.marks.items _ c.loop-next.found.items _ c.loop-next.next c.index-node.result.now
    c.in_ok-incidence.incidence c.in_ok-incidence.ensures low
    (get_or_read c.loop-next.found.items c.loop-next.next c.index-node.result.now low c.index-node.ensures 0) c.loop-next.invariant
    (subst (λ es. VisitsEdges c.args.web.now c.index-node.result.now es c.loop-next.marks.items c.visit.new.marks.items c.loop-next.found.items
    c.visit.new.found.items) c.at.ensures c.in_ok-visit.ensures)

pub returns : goal.returns
returns c = MarksReached-all c.args.web.now c.loop-next.marks.items c.loop-next.found.items c.loop-next.next c.loop-next.invariant (omega arith)

pub at-requires : goal.at-requires
at-requires c = grind (arith, common_steps)
