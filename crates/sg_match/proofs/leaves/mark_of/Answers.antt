-- `mark_of`: a tree edge has the top, or none has.
use Rattle.std.proofs.Common.{◌≢◌, ℕ, zero, suc, ◌<◌, length, get_or, sym, ◌∙◌, arith}
use Rattle.sg_match.proofs.TreeLemmas.{inner_at, length-inners, length-outers, outer_at}
use Rattle.sg_match.proofs.leaves.mark_of.Goals as goal
use Rattle.sg_match.specs.Tree.{outers}

pub returns-then-tree_edge-top : goal.returns-then-tree_edge-top
returns-then-tree_edge-top c =
    let i = c.loop-tree_edge.tree_edge-index in
    let low : i < length c.args.edges.now = omega arith in
    (suc i, omega (arith, low, length-outers c.args.root c.args.edges.now), outer_at c.args.root c.args.edges.now i low ∙ c.if-tree_edge-top.true)

pub returns : goal.returns
returns c = record {
  outer = outside;
  inner = λ k low same.
      let within : k < length c.args.edges.now = omega (arith, low, length-inners c.args.edges.now) in
      (c.loop-tree_edge.invariant k (omega arith)).1 (sym (inner_at c.args.edges.now k within) ∙ same);
}
  where
    outside : (k : ℕ) → k < length (outers c.args.root c.args.edges.now) → get_or (outers c.args.root c.args.edges.now) k 0 ≢ c.args.top
    outside zero low same = c.if-top-root.false (sym same)
    outside (suc k) low same =
        let within : k < length c.args.edges.now = omega (arith, low, length-outers c.args.root c.args.edges.now) in
        (c.loop-tree_edge.invariant k (omega arith)).0 (sym (outer_at c.args.root c.args.edges.now k within) ∙ same)
