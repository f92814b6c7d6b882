-- `push_ring`: two nodes of the ring at a time, and its first node at the end.
use Rattle.std.proofs.Common.{◌≡◌, ℕ, ◌+◌, ◌≤◌, List, [], ◌∷◌, ◌++◌, drop, length, refl, sym, ap, ◌∙◌, arith, append_assoc, length-drop}
use Rattle.std.proofs.lemmas.List.{drop_more}
use Rattle.sg_arena.specs.Family.{blank_link, link_at}
use Rattle.sg_arena.specs.declared.Link.{Link}
use Rattle.sg_match.proofs.expand_tree.push_ring.Goals as goal
use Rattle.sg_match.specs.ExpandedTree.{ring_edges}
use Rattle.sg_match.specs.declared.Edge.{Edge}
use Rattle.sg_match.specs.declared.TreeEdge.{TreeEdge}

-- at the end of the ring its first node is left
last_edge : (l : TreeEdge) (first : ℕ) (up : Edge) (links : List Link) → length links ≤ 1 →
    ring_edges l first up links ≡ record { inner = first; outer = l.outer; up = up; pair = l.pair } ∷ []
last_edge l first up [] few = refl
last_edge l first up (one ∷ []) few = refl
last_edge l first up (one ∷ (two ∷ rest)) few = absurd (omega (arith, few))

pub loop-i-preserved : goal.loop-i-preserved
loop-i-preserved c =
    let ring = c.args.ring.now in
    let i = c.loop-i.i in
    let items = c.loop-i.edges.items in
    let was = c.loop-i.invariant in
    let first = (link_at ring 0).node in
    let two = link_at ring (i + 1) in
    let again : Edge = record { from = two.to; to = two.from } in
    let rest = ring_edges c.args.tree_edge first again (drop (i + 2) ring) in
    let more : drop i ring ≡ link_at ring i ∷ two ∷ drop (i + 2) ring = drop_more ring i blank_link (omega arith)
    ∙ ap (λ ls. link_at ring i ∷ ls) (drop_more ring (i + 1) blank_link (omega arith) ∙ ap (λ k. two ∷ drop k ring) (omega arith)) in
    record {
      low = omega arith;
      count = omega (arith, was.count, c.push_reserved.ensures.len, c.push_reserved.new.self.ok, c.loop-i.edges.ok);
      room = c.push_reserved.ensures.capacity ∙ was.room;
      rest = ap (λ xs. xs ++ rest) c.push_reserved.ensures.items
          ∙ append_assoc items _ rest
          ∙ ap (λ ls. items ++ ring_edges c.args.tree_edge first c.loop-i.up ls) (sym more)
          ∙ was.rest;
    }

pub returns-clause-edges : goal.returns-clause-edges
returns-clause-edges c =
    let rest = drop c.loop-i.i c.args.ring.now in
    c.push_reserved-2.ensures.items
    ∙ ap (λ ls. c.loop-i.edges.items ++ ls) (sym (last_edge c.args.tree_edge (link_at c.args.ring.now 0).node c.loop-i.up rest
    (omega (arith, length-drop c.loop-i.i c.args.ring.now, c.loop-i-test.false))))
    ∙ c.loop-i.invariant.rest
