use Rattle.std.proofs.Common.{arith, rules}
use Rattle.std.proofs.lemmas.Grind.{elements}
use Rattle.std.proofs.lemmas.List.{with_items_is}
use Rattle.sg_base.specs.Sets.{is_marked}
use Rattle.sg_planar.proofs.FollowedBonds.{set_to_more, set_to_all}
use Rattle.sg_planar.proofs.assignment.follow.Goals as goal

pub loop-spin-preserved : goal.loop-spin-preserved
loop-spin-preserved c =
    rw (with_items_is c.loop-spin.down c.set_heads.new.down (search rules))
    (set_to_more c.args.inst.now c.n.ensures.instance (is_marked c.args.unlike.now) c.args.order.now c.requires.order c.loop-spin.spin-index
    c.loop-spin.down.items c.set_heads.new.down c.loop-spin-test.true c.loop-spin.invariant (rw c.deref_mut.ensures.value at c.set_heads.ensures))

pub returns : goal.returns
returns c =
    set_to_all c.args.inst.now c.n.ensures.instance (is_marked c.args.unlike.now) c.args.order.now c.requires.order c.loop-spin.spin-index
    c.loop-spin.down.items (omega arith) c.loop-spin.invariant

pub loop-spin-init : goal.loop-spin-init
loop-spin-init c = grind (arith, elements)
