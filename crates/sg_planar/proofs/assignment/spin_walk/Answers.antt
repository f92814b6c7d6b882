use Rattle.std.proofs.Common.{◌≡◌, ℤ, pos, List, map, sym, subst}
use Rattle.std.proofs.lemmas.Result.{IfOk-weaker}
use Rattle.sg_model.specs.Spins.{spin}
use Rattle.sg_planar.specs.BrokenLists.{BreaksExactly}
use Rattle.sg_planar.specs.Following.{value_of}
use Rattle.sg_planar.proofs.FollowedBonds.{walked_spins}
use Rattle.sg_planar.proofs.assignment.spin_walk.Goals as goal

pub walk_order-requires : goal.walk_order-requires
walk_order-requires c = rw c.instance-inst.ensures.value c.requires.connected

pub returns-clause-first_up : goal.returns-clause-first_up
returns-clause-first_up c =
    let walked = walked_spins c.args.planar.now c.instance-inst.ensures.planar c.requires.connected c.args.broken.now c.requires.fits c.deref.result.now
    c.deref-3.result.now
    (rw (c.deref.ensures.value, sym c.instance-inst.ensures.value) c.in_ok-unlike.ensures.marks)
    (rw (c.deref-3.ensures.value, sym c.instance-inst.ensures.value) c.in_ok-down.ensures) in
    IfOk-weaker c.values.result (λ (s : List ℤ). s ≡ map value_of c.deref-3.result.now) (λ (s : List ℤ). spin s 0 ≡ pos 1)
    (λ s e. rw e walked.0) c.values.ensures

pub returns-clause-breaks : goal.returns-clause-breaks
returns-clause-breaks c =
    let walked = walked_spins c.args.planar.now c.instance-inst.ensures.planar c.requires.connected c.args.broken.now c.requires.fits c.deref.result.now
    c.deref-3.result.now
    (rw (c.deref.ensures.value, sym c.instance-inst.ensures.value) c.in_ok-unlike.ensures.marks)
    (rw (c.deref-3.ensures.value, sym c.instance-inst.ensures.value) c.in_ok-down.ensures) in
    IfOk-weaker c.values.result (λ (s : List ℤ). s ≡ map value_of c.deref-3.result.now)
    (λ (s : List ℤ). BreaksExactly c.args.planar.now.instance s c.args.broken.now)
    (λ s e. subst (λ (s : List ℤ). BreaksExactly c.args.planar.now.instance s c.args.broken.now) (sym e) walked.1) c.values.ensures
