use Rattle.std.proofs.Common.{◌∙◌, ap, arith, get_or, pos, sym}
use Rattle.sg_graph.specs.Walk.{other_end}
use Rattle.sg_dist.proofs.Ways.{Follows-next, next_edge}
use Rattle.sg_dist.proofs.walk.way_back.Goals as goal

pub bounds-edges-edge : goal.bounds-edges-edge
bounds-edges-edge c = grind (arith, next_edge)

pub loop-edge-preserved : goal.loop-edge-preserved
loop-edge-preserved c =
    Follows-next c.args.web.now c.args.table.now c.requires.table c.args.to c.loop-edge.at c.in-Some.edge c.loop-edge.back.items
    c.loop-edge.invariant (sym c.in-Some.ensures)
    c.push.new.self.items c.other-at.result c.in_ok-push.ensures.items
    (c.other-at.ensures ∙ ap (λ es. other_end c.loop-edge.at (get_or es c.in-Some.edge (record { a = 0; b = 0; w = pos 0 })))
    (c.as_slice-edges.ensures ∙ c.edges.ensures.value))
