-- `mate_of`: from the top down to the leaf's node.
use Rattle.std.proofs.Common.{◌<◌, ◌≤◌, List, length, suc, ap, ◌∙◌, refl, subst, sym, arith}
use Rattle.std.proofs.lemmas.Grind.{common_steps}
use Rattle.sg_arena.proofs.FamilyLemmas.{alive_from_holds, child-smaller}
use Rattle.sg_arena.specs.Family.{cycle_of, leaves_of}
use Rattle.sg_arena.specs.declared.Link.{Link}
use Rattle.sg_match.proofs.AboveLemmas.{plain_is}
use Rattle.sg_match.proofs.SetPairLemmas.{pair_from}
use Rattle.sg_match.proofs.mates.mate_of.Goals as goal
use Rattle.sg_match.specs.MatePairs.{IsSetPair}

pub pair_inside-pair-requires-clause-from : goal.pair_inside-pair-requires-clause-from
pair_inside-pair-requires-clause-from c =
    pair_from c.args.arena.now c.requires.family c.args.pairs.now (λ u v. Unit {0}) c.requires.paired c.loop-child.node c.loop-child.pair
    c.loop-child.invariant.pair

pub loop-child-smaller : goal.loop-child-smaller
loop-child-smaller c =
    let f = c.args.arena.now in
    let at = c.child-child.ensures.child in
    subst (λ n. length (leaves_of f n) < length (leaves_of f c.loop-child.node)) at.1.here
    (child-smaller f c.requires.family c.loop-child.node at.0 at.1.within)

pub loop-child-preserved : goal.loop-child-preserved
loop-child-preserved c =
    let was = c.loop-child.invariant in
    let child = c.child-child in
    record {
      alive = alive_from_holds c.args.arena.now child.result c.args.leaf child.ensures.holds;
      held = child.ensures.holds;
      pair = (suc was.pair.0, (c.loop-child.node, c.loop-child.pair, was.pair.1, c.pair_inside-pair.ensures.inside));
      room = c.pair_inside-pair.ensures.capacity ∙ was.room;
    }

pub returns-clause-mate : goal.returns-clause-mate
returns-clause-mate c =
    let f = c.args.arena.now in
    let node = c.loop-child.node in
    let plain : length (cycle_of f node) ≤ 0 = omega (arith, ap (λ (xs : List Link). length xs) (c.is_leaf.ensures.0 c.loop-child-test.false)) in
    let here = plain_is f c.requires.family node c.args.leaf plain c.loop-child.invariant.held in
    (c.loop-child.pair, subst (λ n. IsSetPair f c.args.pairs.now n c.loop-child.pair) (sym here) c.loop-child.invariant.pair, refl)

pub offset_bounds-pairs-node : goal.offset_bounds-pairs-node
offset_bounds-pairs-node c = grind (arith, common_steps)

pub bounds : goal.bounds
bounds c = grind (arith, common_steps)

pub bounds-pairs-node : goal.bounds-pairs-node
bounds-pairs-node c = grind (arith, common_steps)

pub child-child-requires-clause-blossom : goal.child-child-requires-clause-blossom
child-child-requires-clause-blossom c = grind (arith, common_steps)
