use Rattle.std.proofs.Common.{ap, ◌∙◌, pos}
use Rattle.std.specs.Int.{w128}
use Rattle.std.proofs.lemmas.Int.{to_z_pos}
use Rattle.sg_check.proofs.judge.judge_loops.Goals as goal

pub returns-in-Some-first_uneven-clause-verdict : goal.returns-in-Some-first_uneven-clause-verdict
returns-in-Some-first_uneven-clause-verdict c =
    let e = c.as_slice-loops.ensures in
    let bad = c.in-Some-first_uneven.ensures in
    (c.requires.energy, rw (← e) c.in_default.ensures.none, rw (← e) bad.first_loop, rw (← e) bad.first_spin)

pub returns-in-Some-first_unfrustrated-clause-verdict : goal.returns-in-Some-first_unfrustrated-clause-verdict
returns-in-Some-first_unfrustrated-clause-verdict c =
    let e = c.as_slice-loops.ensures in
    let bad = c.in-Some-first_unfrustrated.ensures.some in
    (c.requires.energy, rw (← e) c.in_default.ensures.none, rw (← e) c.in_default-first_uneven.ensures.none, rw (← e) bad)

pub returns-in-Some-first_overload-clause-verdict : goal.returns-in-Some-first_overload-clause-verdict
returns-in-Some-first_overload-clause-verdict c =
    let e = c.as_slice-loops.ensures in (
      c.requires.energy,
      rw (← e)
          (record { shaped = c.in_default.ensures.none; even = c.in_default-first_uneven.ensures.none; odd = c.in_default-first_unfrustrated.ensures.none }),
      rw (← e) c.in-Some-first_overload.ensures.bond,
      rw (← e) (to_z_pos w128 c.in-Some-first_overload.over.load c.in-Some-first_overload.ensures.size ∙ ap pos c.in-Some-first_overload.ensures.load),
    )

pub judge_sum-requires-clause-loops : goal.judge_sum-requires-clause-loops
judge_sum-requires-clause-loops c = rw (← c.as_slice-loops.ensures)
    (record { shaped = c.in_default.ensures.none; even = c.in_default-first_uneven.ensures.none; odd = c.in_default-first_unfrustrated.ensures.none })
