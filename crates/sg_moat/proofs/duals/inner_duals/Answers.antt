use Rattle.std.proofs.Common.{◌+◌, sym, subst, arith}
use Rattle.sg_moat.proofs.Climb.{Climbing, Climbing-bound, Climbing-start, Climbing-step, room_falls}
use Rattle.sg_moat.proofs.duals.inner_duals.Goals as goal

pub loop-at-init : goal.loop-at-init
loop-at-init c =
    subst (λ n. Climbing c.args.family.now c.args.name c.args.leaf n 0) (sym c.leaf_node-at.ensures.value)
    (Climbing-start c.args.family.now c.room-room.ensures.family c.args.name c.args.leaf c.requires)

pub returns-in_default : goal.returns-in_default
returns-in_default c = grind (arith, c.room-room.ensures.family, c.loop-at.inner, c.loop-at-test.true, c.in_default.ensures, c.loop-at.invariant)

pub overflow_add-inner : goal.overflow_add-inner
overflow_add-inner c =
    omega (
      arith,
      c.dual-inner.ensures,
      Climbing-bound c.args.family.now c.room-room.ensures.family c.args.name c.args.leaf c.loop-at.at c.loop-at.inner c.loop-at.invariant,
    )

pub loop-at-smaller : goal.loop-at-smaller
loop-at-smaller c = grind (arith, room_falls, c.room-room.ensures.family, c.in-Some.ensures, c.loop-at.invariant.held)

pub loop-at-preserved : goal.loop-at-preserved
loop-at-preserved c =
    let f = c.args.family.now in
    let inner = c.loop-at.inner in
    let p = c.in-Some.parent in
    subst (λ d. Climbing f c.args.name c.args.leaf p (inner + d)) (sym c.dual-inner.ensures)
    (Climbing-step f c.room-room.ensures.family c.args.leaf c.loop-at.at p c.in-Some.ensures.0 c.loop-at.invariant.held c.in-Some.ensures.1 c.args.name
    inner c.loop-at-test.true c.loop-at.invariant)

pub returns : goal.returns
returns c = grind (arith, c.loop-at-test.false, c.args.leaf, c.loop-at.invariant.held, c.loop-at.invariant.sum)
