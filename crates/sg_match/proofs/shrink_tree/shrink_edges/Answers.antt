-- `shrink_edges`: a tree edge goes, or stays with the blossom in place of its base.
use Rattle.std.proofs.Common.{◌≡◌, ◌+◌, ◌<◌, true, false, [], ◌∷◌, ◌++◌, length, set, take, sym, ap, ◌∙◌, arith, vec_capacity}
use Rattle.std.proofs.lemmas.List.{get_or-set_other, get_or_default, take_more, take_more_set}
use Rattle.std.proofs.Math.ListN.{length-set}
use Rattle.sg_arena.specs.Family.{holds}
use Rattle.sg_match.proofs.ShrinkTreeLemmas.{shrunk-gone, shrunk-kept}
use Rattle.sg_match.proofs.shrink_tree.shrink_edges.Goals as goal
use Rattle.sg_match.proofs.shrink_tree.shrink_edges.Goals.{then-not-lies_in, else-not-lies_in}
use Rattle.sg_match.specs.ShrunkTree.{renamed_edge, shrunk_edges}
use Rattle.sg_match.specs.Tree.{blank_tree_edge, tree_edge_at}
use Rattle.sg_match.specs.declared.TreeEdge.{TreeEdge}

pub loop-i-preserved : goal.loop-i-preserved
loop-i-preserved c =
    let f = c.args.arena.now in
    let b = c.args.blossom in
    let old = c.args.edges.now.items in
    let items = c.loop-i.edges.items in
    let i = c.loop-i.i in
    let was = c.loop-i.invariant in
    let low_now : i < length items = omega arith in
    let low : i < length old = omega (arith, was.count) in
    let e : TreeEdge = tree_edge_at old i in
    let read : c.index-tree_edge.result.now ≡ e = c.index-tree_edge.ensures ∙ get_or_default items i c.index-tree_edge.result.now blank_tree_edge low_now ∙
    was.same i (omega arith) in
    let more : take (i + 1) old ≡ take i old ++ e ∷ [] = take_more old i blank_tree_edge low in
    elim c.if-not-lies_in.branch [
      | then-not-lies_in w ↦
          let made = w.rename_outer.result in
          let now : c.if-not-lies_in.edges.items ≡ set items c.loop-i.kept made = ap (λ v. v.items) w.edges-is in
          let stays : holds f b e.up.from ≡ false = cc in
          record {
            kept = omega (arith, w.kept-is, was.kept);
            count = ap (λ xs. length xs) now ∙ length-set items c.loop-i.kept made ∙ was.count;
            room = ap (λ v. vec_capacity v) w.edges-is ∙ was.room;
            same = λ k from. ap (λ xs. tree_edge_at xs k) now ∙ get_or-set_other items c.loop-i.kept k made blank_tree_edge (omega (arith, was.kept, from)) ∙
                was.same k (omega (arith, from));
            done = ap (λ n. take n c.if-not-lies_in.edges.items) w.kept-is
                ∙ ap (λ xs. take (c.loop-i.kept + 1) xs) now
                ∙ take_more_set items c.loop-i.kept made (omega (arith, was.kept))
                ∙ ap (λ xs. xs ++ made ∷ []) was.done
                ∙ ap (λ x. shrunk_edges f b (take i old) ++ x ∷ []) (w.rename_outer.ensures ∙ ap (λ x. renamed_edge f b x) read)
                ∙ sym (ap (λ xs. shrunk_edges f b xs) more ∙ shrunk-kept f b (take i old) e stays);
          }
      | else-not-lies_in w ↦
          let gone : holds f b e.up.from ≡ true = cc in
          let now : c.if-not-lies_in.edges.items ≡ items = ap (λ v. v.items) w.edges-is in
          record {
            kept = omega (arith, w.kept-is, was.kept);
            count = ap (λ xs. length xs) now ∙ was.count;
            room = ap (λ v. vec_capacity v) w.edges-is ∙ was.room;
            same = λ k from. ap (λ xs. tree_edge_at xs k) now ∙ was.same k (omega (arith, from));
            done = ap (λ n. take n c.if-not-lies_in.edges.items) w.kept-is
                ∙ ap (λ xs. take c.loop-i.kept xs) now
                ∙ was.done
                ∙ sym (ap (λ xs. shrunk_edges f b xs) more ∙ shrunk-gone f b (take i old) e gone);
          }
    ]
