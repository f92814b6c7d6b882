-- `place_of_inner`: the node stands in some tree edge.
use Rattle.std.proofs.Common.{◌<◌, length, sym, ◌∙◌, arith}
use Rattle.std.proofs.lemmas.List.{get_or-map}
use Rattle.sg_match.proofs.TreeLemmas.{length-inners}
use Rattle.sg_match.proofs.expand_tree.place_of_inner.Goals as goal
use Rattle.sg_match.specs.Tree.{blank_tree_edge}

pub unreachable-requires : goal.unreachable-requires
unreachable-requires c =
    let low : c.requires.0 < length c.args.edges.now = omega (arith, c.requires.1, length-inners c.args.edges.now) in
    c.loop-i.invariant c.requires.0 (omega (arith, low, c.loop-i-test.false))
    (sym (get_or-map (λ l. l.inner) c.args.edges.now c.requires.0 blank_tree_edge c.args.node low) ∙ c.requires.2)
