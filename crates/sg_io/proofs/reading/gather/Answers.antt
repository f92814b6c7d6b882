use Rattle.std.proofs.Common.{◌≡◌, ◌+◌, ◌<◌, ◌++◌, ℕ, length, take, subst, arith, length-append, length-take}
use Rattle.std.proofs.lemmas.Grind.{common_steps}
use Rattle.std.proofs.lemmas.Result.{err_from_is_err_and}
use Rattle.sg_io.specs.Devices.{DropsFront}
use Rattle.sg_io.proofs.DeviceLemmas.{Loses-more, too-long}
use Rattle.sg_io.proofs.reading.gather.Goals as goal

pub returns-then-len-count-clause-stopped : goal.returns-then-len-count-clause-stopped
returns-then-len-count-clause-stopped g c =
    let left = g.S.Source.left in
    let bytes = c.loop-count.bytes.items in
    let full : length bytes + c.in-Got.count ≡ c.args.limit + 1 =
    omega (arith, c.in-Got.ensures.count.1, c.read.auto.into, length-take c.min-room.result c.loop-count.piece) in
    subst (λ (n : ℕ). DropsFront n (left c.args.source.now) (left c.read.new.self)) full
    (Loses-more bytes c.in-Got.count (left c.args.source.now) (left c.loop-count.source) (left c.read.new.self)
    c.loop-count.invariant.taken c.in-Got.ensures.bytes.1)

pub returns-then-len-count-clause-too_long : goal.returns-then-len-count-clause-too_long
returns-then-len-count-clause-too_long g c =
    let left = g.S.Source.left in
    let bytes = c.loop-count.bytes.items in
    let more = take c.in-Got.count c.read.new.into in
    let long : c.args.limit < length (bytes ++ more) =
    omega (arith, length-append bytes more, c.in-Got.ensures.count.1, length-take c.in-Got.count c.read.new.into) in
    too-long (bytes ++ more) c.args.limit (left c.args.source.now) (left c.read.new.self) long
    (returns-then-len-count-clause-stopped g c)

pub returns-in_err-extend_from_slice-in-Got-clause-stopped :
    goal.returns-in_err-extend_from_slice-in-Got-clause-stopped
returns-in_err-extend_from_slice-in-Got-clause-stopped g c =
    let left = g.S.Source.left in
    let bytes = c.loop-count.bytes.items in
    let p = err_from_is_err_and c.from_residual.result c.from_residual.ensures.1 in
    rw (p.1, p.2) (
      length bytes + c.in-Got.count,
      omega arith,
      Loses-more bytes c.in-Got.count (left c.args.source.now) (left c.loop-count.source) (left c.read.new.self)
          c.loop-count.invariant.taken c.in-Got.ensures.bytes.1,
    )

pub loop-count-preserved : goal.loop-count-preserved
loop-count-preserved g c = grind (arith, common_steps)

pub returns-in-Failed-clause-stopped : goal.returns-in-Failed-clause-stopped
returns-in-Failed-clause-stopped g c = grind (arith, common_steps)
