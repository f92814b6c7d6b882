-- `expand_edge`: the tree edges of a ring take the place of one.
use Rattle.std.proofs.Common.{◌≡◌, ℕ, suc, ◌+◌, ◌<◌, List, ◌++◌, drop, length, take, ap, ◌∙◌, arith, append_assoc, length-drop}
use Rattle.std.proofs.lemmas.List.{drop-append-le, drop_all, get_or_default, length-take-le, take-append-le, take_all}
use Rattle.std.specs.List.{remove}
use Rattle.sg_arena.specs.Family.{link_at}
use Rattle.sg_match.proofs.expand_tree.expand_edge.Goals as goal
use Rattle.sg_match.specs.ExpandedTree.{ring_edges, ring_start}
use Rattle.sg_match.specs.Tree.{blank_tree_edge}
use Rattle.sg_match.specs.declared.TreeEdge.{TreeEdge}

rotated : (n : ℕ) (xs ys : List TreeEdge) → length xs ≡ n → drop n (xs ++ ys) ++ take n (xs ++ ys) ≡ ys ++ xs
rotated n xs ys count =
    ap (λ zs. zs ++ take n (xs ++ ys)) (drop-append-le n xs ys (omega (arith, count)) ∙ ap (λ zs. zs ++ ys) (drop_all n xs (omega (arith, count))))
    ∙ ap (λ zs. ys ++ zs) (take-append-le n xs ys (omega (arith, count)) ∙ take_all n xs (omega (arith, count)))

-- taken out, rotated to the end, lengthened and rotated back
turned : (old ring removed front longer new : List TreeEdge) (at n : ℕ) → removed ≡ remove old at → front ≡ drop at removed ++ take at removed →
    longer ≡ front ++ ring → new ≡ drop n longer ++ take n longer → at < length old → n + suc at ≡ length old →
    new ≡ take at old ++ (ring ++ drop (suc at) old)
turned old ring removed front longer new at n taken first more last low count =
    let a = take at old in
    let z = drop (suc at) old in
    let swapped : longer ≡ z ++ (a ++ ring) = more ∙ ap (λ xs. xs ++ ring) (first ∙ ap (λ xs. drop at xs ++ take at xs) taken ∙
    rotated at a z (length-take-le at old (omega (arith, low)))) ∙ append_assoc z a ring in
    last ∙ ap (λ xs. drop n xs ++ take n xs) swapped ∙ rotated n z (a ++ ring) (omega (arith, length-drop (suc at) old, count)) ∙ append_assoc a ring z

pub returns-clause-edges : goal.returns-clause-edges
returns-clause-edges c =
    let old = c.args.edges.now.items in
    let ring = c.args.ring.now in
    let links = drop (ring_start c.args.entry (length ring)) ring in
    let read = c.remove-tree_edge.ensures.value ∙ get_or_default old c.args.at c.remove-tree_edge.result blank_tree_edge c.requires.within in
    turned old _ c.remove-tree_edge.new.self.items c.rotate_left.new.self.items c.push_ring.new.edges.items c.rotate_left-2.new.self.items c.args.at _
    c.remove-tree_edge.ensures.items c.rotate_left.ensures.items
    (c.push_ring.ensures.edges ∙ ap (λ (l : TreeEdge). c.rotate_left.new.self.items ++ ring_edges l (link_at ring 0).node l.up links) read)
    c.rotate_left-2.ensures.items c.requires.within (omega (arith, c.remove-tree_edge.ensures.len))
