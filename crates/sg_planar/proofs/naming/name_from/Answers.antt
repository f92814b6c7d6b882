use Rattle.std.proofs.Common.{◌≡◌, ◌<◌, length, get_or, false, ap, arith}
use Rattle.std.proofs.lemmas.List.{get_or_default}
use Rattle.sg_base.proofs.MarkLaws.{marked_in}
use Rattle.sg_planar.proofs.SpinNames.{named_more}
use Rattle.sg_planar.proofs.naming.name_from.Goals as goal

pub give-requires : goal.give-requires
give-requires c = λ k d l.
    let items : c.deref.result.now ≡ c.walk.new.order.items = c.deref.ensures.value in
    let here : k < length c.walk.new.order.items = omega (arith, ap length items) in
    let inside : get_or c.walk.new.order.items k 0 < length c.walk.new.marks = marked_in _ (get_or c.walk.new.order.items k 0)
    (c.in_ok-walk.ensures.marked k here) in
    rw (items, get_or_default _ k d 0 here) (omega (arith, inside, c.in_ok-walk.ensures.lengths, c.requires.named.marks_count, c.requires.named.names_count))

pub returns-in_ok-walk : goal.returns-in_ok-walk
returns-in_ok-walk c =
    let items : c.deref.result.now ≡ c.walk.new.order.items = c.deref.ensures.value in
    let free : get_or c.args.marks.now c.args.spin false ≡ false = c.if-not-marks-spin.true in
    named_more _ _ _ _ _ _ _ _ c.requires.named free c.in_ok-walk.ensures
    (rw items at c.give.ensures.given) (rw items at c.give.ensures.others) c.give.auto.names
