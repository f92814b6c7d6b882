-- `find_cycle`: from the last tree edge down, the path grows where a tree edge ends at its head or its tail.
use Rattle.std.proofs.Common.{◌≡◌, ◌+◌, ◌-◌, ◌<◌, List, [], ◌∷◌, ◌++◌, length, sym, ap, ◌∙◌, subst, arith, length-append}
use Rattle.sg_slack.proofs.TightLemmas.{tight-back}
use Rattle.sg_match.proofs.shrink_cycle.find_cycle.Goals as goal
use Rattle.sg_match.proofs.shrink_cycle.find_cycle.Goals.{In-loop-head}
use Rattle.sg_arena.proofs.FamilyLemmas.{leaf_bound}
use Rattle.sg_arena.specs.Family.{Holds}
use Rattle.sg_arena.specs.declared.Link.{Link}
use Rattle.sg_match.proofs.TreeCycleLemmas.{AreTight-head, AreTight-one, AreTight-tail, IsTreeCycle-head, IsTreeCycle-init, IsTreeCycle-skip, IsTreeCycle-tail, tree_cycle-back}
use Rattle.sg_match.specs.Links.{down_link, up_link}
use Rattle.sg_match.specs.Path.{AreTight}
use Rattle.sg_match.specs.TreeCycle.{IsTreeCycle}
use Rattle.sg_match.specs.Tree.{tree_edge_at}

pub top-head-requires : goal.top-head-requires
top-head-requires c = leaf_bound c.args.arena.now c.requires.family _ c.args.v c.requires.v.2

pub top-tail-requires : goal.top-tail-requires
top-tail-requires c = leaf_bound c.args.arena.now c.requires.family _ c.args.u c.requires.u.2

pub loop-head-init : goal.loop-head-init
loop-head-init c =
    let made : c.push_reserved.new.self.items ≡ record { node = c.top-head.result; from = c.args.v; to = c.args.u } ∷ [] = c.push_reserved.ensures.items ∙
    ap (λ (xs : List Link). xs ++ record { node = c.top-head.result; from = c.args.v; to = c.args.u } ∷ []) c.clear.ensures.items in
    record {
      within = omega arith;
      count = omega (arith, ap (λ xs. length xs) made);
      room = c.push_reserved.ensures.capacity ∙ c.clear.ensures.capacity;
      find_cycle = subst (λ xs. IsTreeCycle c.args.arena.now c.args.root c.args.edges.now xs (length c.args.edges.now) c.top-head.result c.top-tail.result)
          (sym made)
          (IsTreeCycle-init c.args.arena.now c.args.root c.args.edges.now c.requires.family c.requires.shape c.args.u c.args.v c.top-head.result
          c.top-tail.result c.top-head.ensures.top c.top-tail.ensures.top c.top-head.ensures.holds c.top-tail.ensures.holds
          (λ same. c.requires.apart c.top-head.result c.top-head.ensures.top
          (subst (λ n. Holds c.args.arena.now n c.args.u) (sym same) c.top-tail.ensures.holds) c.top-head.ensures.holds)
          c.requires.u c.requires.v);
      tight = λ cost has back is. subst (λ xs. AreTight c.args.arena.now cost xs) (sym made)
          (AreTight-one c.args.arena.now cost (record { node = c.top-head.result; from = c.args.v; to = c.args.u })
          (tight-back c.args.arena.now cost c.args.u c.args.v back is));
    }

-- the cycle is behind one tree edge more
next_edge : (c : In-loop-head) → (c.loop-head.i ≡ (c.loop-head.i - 1) + 1) × (c.loop-head.i - 1 < length c.args.edges.now) ×
    IsTreeCycle c.args.arena.now c.args.root c.args.edges.now c.loop-head.cycle.items (c.loop-head.i - 1 + 1) c.loop-head.head c.loop-head.tail
next_edge c = tree_cycle-back c.args.arena.now c.args.root c.args.edges.now c.requires.family c.requires.shape c.loop-head.cycle.items c.loop-head.i
    c.loop-head.head c.loop-head.tail c.loop-head-test.true c.loop-head.invariant.within c.loop-head.invariant.find_cycle

pub top-tail-requires-then-tree_edge-tail : goal.top-tail-requires-then-tree_edge-tail
top-tail-requires-then-tree_edge-tail c =
    let f = c.args.arena.now in
    let edges = c.args.edges.now in
    let i = c.loop-head.i - 1 in
    let at = next_edge (goal.at.top-tail-requires-then-tree_edge-tail c).In-loop-head in
    leaf_bound f c.requires.family _ (tree_edge_at edges i).up.to ((c.requires.shape.edge i at.1).up_to).2

pub loop-head-preserved-then-tree_edge-tail : goal.loop-head-preserved-then-tree_edge-tail
loop-head-preserved-then-tree_edge-tail c =
    let f = c.args.arena.now in
    let edges = c.args.edges.now in
    let i = c.loop-head.i - 1 in
    let at = next_edge (goal.at.loop-head-preserved-then-tree_edge-tail c).In-loop-head in
    let next = c.top-tail-then-tree_edge-tail in
    let made = c.lengthen_tail.ensures.items in
    record {
      within = omega (arith, at.1);
      count = omega (
        arith,
        c.loop-head.invariant.count,
        at.0,
        ap (λ xs. length xs) made,
        length-append c.loop-head.cycle.items (down_link (tree_edge_at edges i) ∷ up_link (tree_edge_at edges i) ∷ []),
      );
      room = c.lengthen_tail.ensures.capacity ∙ c.loop-head.invariant.room;
      find_cycle = subst (λ xs. IsTreeCycle f c.args.root edges xs i c.loop-head.head next.result) (sym made)
          (IsTreeCycle-tail f c.args.root edges c.requires.family c.requires.shape c.loop-head.cycle.items i c.loop-head.head c.loop-head.tail at.1
          c.loop-head-test.true at.2 c.if-tree_edge-tail.true next.result next.ensures.top next.ensures.holds);
      tight = λ cost has sides is. subst (λ xs. AreTight f cost xs) (sym made)
          (AreTight-tail f cost c.args.root edges c.requires.family c.requires.shape has i at.1 c.loop-head.cycle.items
          (c.loop-head.invariant.tight cost has sides is));
    }

pub top-head-requires-then-tree_edge-head : goal.top-head-requires-then-tree_edge-head
top-head-requires-then-tree_edge-head c =
    let f = c.args.arena.now in
    let edges = c.args.edges.now in
    let i = c.loop-head.i - 1 in
    let at = next_edge (goal.at.top-head-requires-then-tree_edge-head c).In-loop-head in
    leaf_bound f c.requires.family _ (tree_edge_at edges i).up.to ((c.requires.shape.edge i at.1).up_to).2

pub loop-head-preserved-then-tree_edge-head : goal.loop-head-preserved-then-tree_edge-head
loop-head-preserved-then-tree_edge-head c =
    let f = c.args.arena.now in
    let edges = c.args.edges.now in
    let i = c.loop-head.i - 1 in
    let at = next_edge (goal.at.loop-head-preserved-then-tree_edge-head c).In-loop-head in
    let next = c.top-head-then-tree_edge-head in
    let made = c.lengthen_head.ensures.items in
    record {
      within = omega (arith, at.1);
      count = omega (arith, c.loop-head.invariant.count, at.0, ap (λ xs. length xs) made);
      room = c.lengthen_head.ensures.capacity ∙ c.loop-head.invariant.room;
      find_cycle = subst (λ xs. IsTreeCycle f c.args.root edges xs i next.result c.loop-head.tail) (sym made)
          (IsTreeCycle-head f c.args.root edges c.requires.family c.requires.shape c.loop-head.cycle.items i c.loop-head.head c.loop-head.tail at.1
          c.loop-head-test.true at.2 c.if-tree_edge-head.true next.result next.ensures.top next.ensures.holds);
      tight = λ cost has sides is. subst (λ xs. AreTight f cost xs) (sym made)
          (AreTight-head f cost c.args.root edges c.requires.family c.requires.shape has i at.1 c.loop-head.cycle.items next.result
          (c.loop-head.invariant.tight cost has sides is));
    }

pub loop-head-preserved : goal.loop-head-preserved
loop-head-preserved c =
    let f = c.args.arena.now in
    let edges = c.args.edges.now in
    let i = c.loop-head.i - 1 in
    let at = next_edge (goal.at.loop-head-preserved c).In-loop-head in
    record {
      within = omega (arith, at.1);
      count = omega (arith, c.loop-head.invariant.count, at.0);
      room = c.loop-head.invariant.room;
      find_cycle = IsTreeCycle-skip f c.args.root edges c.requires.family c.requires.shape c.loop-head.cycle.items i c.loop-head.head c.loop-head.tail at.1
          c.loop-head-test.true at.2 c.if-tree_edge-tail.false c.if-tree_edge-head.false;
      tight = c.loop-head.invariant.tight;
    }
