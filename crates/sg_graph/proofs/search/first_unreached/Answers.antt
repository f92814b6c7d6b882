use Rattle.std.proofs.Common.{◌<◌, ◌∙◌, arith, false, length, sym}
use Rattle.std.proofs.lemmas.List.{get_or_read}
use Rattle.sg_graph.proofs.Searching.{all_marked, first_unmarked}
use Rattle.sg_graph.proofs.search.first_unreached.Goals as goal

pub returns-then-not-index : goal.returns-then-not-index
returns-then-not-index c =
    let marks = c.in_ok-marks.marks.items in
    let low : c.loop-node.node < c.args.web.now.nodes = omega arith in
    let in' : c.loop-node.node < length marks = omega (arith, low, c.in_ok-marks.ensures.count) in
    first_unmarked c.args.web.now marks c.loop-node.node c.in_ok-marks.ensures low
    (sym (get_or_read marks c.loop-node.node c.index.result.now in' c.index.ensures false) ∙ c.if-not-index.true) c.loop-node.invariant

pub returns : goal.returns
returns c = all_marked c.args.web.now c.in_ok-marks.marks.items c.in_ok-marks.ensures (λ y l. c.loop-node.invariant y (omega (arith, l)))
