use Rattle.std.proofs.Common.{◌/◌, arith, Bool, false, get_or, not}
use Rattle.std.proofs.Math.Bool.{beq}
use Rattle.sg_base.specs.Sets.{is_marked}
use Rattle.sg_planar.proofs.FollowedBonds.{heads_more, ne_is_xor}
use Rattle.sg_planar.proofs.assignment.set_heads.Goals as goal

pub loop-dart-preserved : goal.loop-dart-preserved
loop-dart-preserved c =
    let dart = c.darts_from-dart-items.ensures.leave c.loop-dart.dart-index 0 c.loop-dart-test.true in
    let here : Bool = get_or c.loop-dart.down c.args.spin false in
    let asked : Bool = get_or c.args.unlike.now (get_or c.darts_from-dart-items.result.now c.loop-dart.dart-index 0 / 2) false in
    heads_more c.args.inst.now (is_marked c.args.unlike.now) c.args.spin c.darts_from-dart-items.result.now c.args.down.now c.loop-dart.down
    c.loop-dart.dart-index c.head-to.result (not (beq here asked)) c.loop-dart-test.true dart.0 dart.1 c.head-to.ensures.value
    (omega arith) (ne_is_xor here asked) c.loop-dart.invariant
