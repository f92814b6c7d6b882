use Rattle.std.proofs.Common.{◌<◌, ◌≤◌, arith, of_z, rules, to_z, w64}
use Rattle.sg_base.specs.Naturals.{nat_of}
use Rattle.sg_arena.proofs.FamilyLemmas.{leaf_bound}
use Rattle.sg_web_rows.proofs.RaiseLemmas.{CanRaise-one, CanRaise-two, nat_of-bound}
use Rattle.sg_web_rows.proofs.blossoms.change_duals.Goals as goal

pub raise-requires-clause-tops : goal.raise-requires-clause-tops
raise-requires-clause-tops g c =
    let delta = to_z w64 (of_z w64 c.in-Lift.delta) in
    let small : nat_of delta ≤ 1000 = nat_of-bound delta 1000 (search rules) in
    CanRaise-one c.args.arena.now c.top-outer.result (nat_of delta) c.top-outer.ensures.top
    (λ leaf held.
    let low : leaf < c.args.k = omega (arith, c.requires, leaf_bound c.args.arena.now c.room-room.ensures.family c.top-outer.result leaf held) in
    omega (arith, small, c.totals_fit.ensures (search rules) leaf low))

pub raise-requires-in-Shift-clause-tops : goal.raise-requires-in-Shift-clause-tops
raise-requires-in-Shift-clause-tops g c =
    let delta = to_z w64 (of_z w64 c.in-Shift.delta) in
    let outer = c.top-outer-in-Shift in
    let inner = c.top-inner-in-Shift in
    let small : nat_of delta ≤ 1000 = nat_of-bound delta 1000 (search rules) in
    CanRaise-two c.args.arena.now outer.result (nat_of delta) outer.ensures.top
    (λ leaf held.
    let low : leaf < c.args.k = omega (arith, c.requires, leaf_bound c.args.arena.now c.room-room.ensures.family outer.result leaf held) in
    omega (arith, small, c.totals_fit.ensures (search rules) leaf low))
    inner.result inner.ensures.top (search rules) (search rules)
