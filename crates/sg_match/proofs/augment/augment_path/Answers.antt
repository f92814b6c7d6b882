-- `augment_path`: each tree edge on the way to the root is turned over.
use Rattle.std.proofs.Common.{◌≡◌, ℕ, ◌+◌, ◌-◌, ◌<◌, List, Option, length, Some, None, set, refl, sym, ap, ◌∙◌, subst, arith}
use Rattle.std.proofs.Math.ListN.{length-set}
use Rattle.sg_match.proofs.augment.augment_path.Goals as goal
use Rattle.sg_match.proofs.AugmentLemmas.{IsAugmented-done, IsAugmenting, IsAugmenting-init, IsAugmenting-skip, IsAugmenting-turn}
use Rattle.sg_match.specs.Augmented.{IsAugmented}
use Rattle.sg_match.specs.Pairs.{flipped}
use Rattle.sg_match.specs.Tree.{tree_edge_at}
use Rattle.sg_match.specs.declared.Edge.{Edge}

pub loop-i-init : goal.loop-i-init
loop-i-init c = record {
  within = omega arith;
  count = refl;
  top = c.top-there.ensures.top;
  augmenting = λ cost can. IsAugmenting-init c.args.arena.now cost c.args.pairs.now c.args.pairs.now c.args.root c.args.edges.now c.args.u c.args.v
      c.requires.family can c.requires.names refl c.top-here.result c.top-there.result c.top-here.ensures.top c.top-there.ensures.top
      c.top-here.ensures.holds c.top-there.ensures.holds;
}

pub loop-i-preserved-then-tree_edge-here : goal.loop-i-preserved-then-tree_edge-here
loop-i-preserved-then-tree_edge-here c =
    let i = c.loop-i.i - 1 in
    let f = c.args.arena.now in
    let tree_edge = tree_edge_at c.args.edges.now i in
    let edge = c.loop-i.edge in
    let back : c.loop-i.i ≡ i + 1 = omega arith in
    let within : i < length c.args.edges.now = omega (arith, c.loop-i.invariant.within) in
    let made : c.pair_tops.new.pairs ≡ set (set (set (set c.loop-i.pairs tree_edge.inner None) tree_edge.outer None) tree_edge.outer (Some edge))
    c.loop-i.there (Some (flipped edge)) =
    c.pair_tops.ensures ∙ ap (λ p. set (set p tree_edge.outer (Some edge)) c.loop-i.there (Some (flipped edge))) c.unpair_tops.ensures in
    record {
      within = omega (arith, within);
      count = ap (λ p. length p) made ∙ four c.loop-i.pairs tree_edge.inner tree_edge.outer tree_edge.outer c.loop-i.there None None (Some edge)
          (Some (flipped edge)) ∙ c.loop-i.invariant.count;
      top = (c.requires.edges i within).inner;
      augmenting = λ cost can.
          subst (λ p. IsAugmenting f cost c.args.pairs.now p c.args.root c.args.edges.now c.args.v i c.top-here-then-tree_edge-here.result tree_edge.inner
          c.flipped-edge.result) (sym made)
          (subst (λ e. IsAugmenting f cost c.args.pairs.now
          (set (set (set (set c.loop-i.pairs tree_edge.inner None) tree_edge.outer None) tree_edge.outer (Some edge)) c.loop-i.there
          (Some (flipped edge))) c.args.root c.args.edges.now c.args.v i c.top-here-then-tree_edge-here.result tree_edge.inner e)
          (sym c.flipped-edge.ensures)
          (IsAugmenting-turn f cost c.args.pairs.now c.loop-i.pairs c.args.root c.args.edges.now c.args.u c.args.v c.requires.family can
          (λ t top. omega (arith, c.requires.names t top, c.loop-i.invariant.count)) i c.loop-i.here c.loop-i.there edge within c.if-tree_edge-here.true
          c.loop-i.invariant.top
          (subst (λ n. IsAugmenting f cost c.args.pairs.now c.loop-i.pairs c.args.root c.args.edges.now c.args.v n c.loop-i.here c.loop-i.there edge) back
          (c.loop-i.invariant.augmenting cost can))
          c.top-here-then-tree_edge-here.result c.top-here-then-tree_edge-here.ensures.top c.top-here-then-tree_edge-here.ensures.holds));
    }
  where
    four : (p : List (Option Edge)) (a b x y : ℕ) (s t u v : Option Edge) → length (set (set (set (set p a s) b t) x u) y v) ≡ length p
    four p a b x y s t u v = length-set (set (set (set p a s) b t) x u) y v ∙ length-set (set (set p a s) b t) x u ∙ length-set (set p a s) b t ∙
        length-set p a s

pub loop-i-preserved : goal.loop-i-preserved
loop-i-preserved c =
    let i = c.loop-i.i - 1 in
    let back : c.loop-i.i ≡ i + 1 = omega arith in
    let within : i < length c.args.edges.now = omega (arith, c.loop-i.invariant.within) in
    record {
      within = omega (arith, within);
      count = c.loop-i.invariant.count;
      top = c.loop-i.invariant.top;
      augmenting = λ cost can.
          IsAugmenting-skip c.args.arena.now cost c.args.pairs.now c.loop-i.pairs c.args.root c.args.edges.now c.args.u c.args.v c.requires.family can
          (λ t top. omega (arith, c.requires.names t top, c.loop-i.invariant.count)) i c.loop-i.here c.loop-i.there c.loop-i.edge within
          c.if-tree_edge-here.false
          (subst (λ n. IsAugmenting c.args.arena.now cost c.args.pairs.now c.loop-i.pairs c.args.root c.args.edges.now c.args.v n c.loop-i.here
          c.loop-i.there c.loop-i.edge) back (c.loop-i.invariant.augmenting cost can));
    }

pub returns : goal.returns
returns c cost can =
    let none : c.loop-i.i ≡ 0 = omega (arith, c.loop-i-test.false) in
    subst (λ p. IsAugmented c.args.arena.now cost c.args.pairs.now p c.args.root c.args.v) (sym c.pair_tops-2.ensures)
    (IsAugmented-done c.args.arena.now cost c.args.pairs.now c.loop-i.pairs c.args.root c.args.edges.now c.args.u c.args.v c.requires.family can
    (λ t top. omega (arith, c.requires.names t top, c.loop-i.invariant.count)) c.loop-i.here c.loop-i.there c.loop-i.edge c.loop-i.invariant.top
    (subst (λ n. IsAugmenting c.args.arena.now cost c.args.pairs.now c.loop-i.pairs c.args.root c.args.edges.now c.args.v n c.loop-i.here c.loop-i.there
    c.loop-i.edge) none (c.loop-i.invariant.augmenting cost can))
    c.loop-i.invariant.count)
