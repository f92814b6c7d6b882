use Rattle.std.proofs.Common.{arith}
use Rattle.std.proofs.lemmas.Grind.{common_steps}
use Rattle.sg_cli.proofs.InputLemmas.{answers-long, answers-told}
use Rattle.sg_cli.proofs.serve.serve.Goals as goal

pub returns-in_ok-input_reply-in-Ok-clause-served : goal.returns-in_ok-input_reply-in-Ok-clause-served
returns-in_ok-input_reply-in-Ok-clause-served g c =
    let reply = c.in_ok-input_reply-in-Ok.field-0 in
    answers-told c.args.reading (g.S.Source.left c.args.source.now) (g.S.Source.left c.read_all.new.source) c.in-Ok.bytes.items reply.text.items reply.status
    c.in-Ok.ensures.whole (rw c.as_slice.ensures.value at c.in_ok-input_reply-in-Ok.ensures.served)

pub returns-in_ok-refuse-in-Err-TooLong-clause-served : goal.returns-in_ok-refuse-in-Err-TooLong-clause-served
returns-in_ok-refuse-in-Err-TooLong-clause-served g c =
    let reply = c.in_ok-refuse-in-Err-TooLong.field-0 in
    answers-long c.args.reading (g.S.Source.left c.args.source.now) reply.text.items reply.status
    (rw c.in-Err-TooLong.field-0-is at c.in-Err-TooLong.ensures.too_long) c.in_ok-refuse-in-Err-TooLong.ensures.refused

pub returns-in_err-input_reply-in-Ok-clause-stopped : goal.returns-in_err-input_reply-in-Ok-clause-stopped
returns-in_err-input_reply-in-Ok-clause-stopped c = grind (arith, common_steps)
