use Rattle.std.proofs.Common.{ap, length, map, string_bytes}
use Rattle.sg_calls.specs.Running.{Answered}
use Rattle.ising2d_c.proofs.running.ising2d_c_run.Goals as goal

pub returns-in-Ok : goal.returns-in-Ok
returns-in-Ok c =
    Answered (map string_bytes c.in-Ok-Some.list.items) c.in-Ok.reply.text.items c.in-Ok.reply.status
    (rw c.in-Ok-Some.field-0-is at c.in-Ok-Some.ensures.ended)
    (record { replied = c.in-Ok.ensures.replied; served = rw c.as_slice.ensures.value at c.in-Ok.ensures.served })
    (rw c.as_slice-text.ensures.value at c.fill.ensures) (ap length c.as_slice-text.ensures.value) c.exit_code-in-Ok.ensures
