use Rattle.std.proofs.Common.{map, string_bytes, Some, ap, sym, ◌∙◌}
use Rattle.sg_report.specs.declared.status.Status.TheVariants.{Usage}
use Rattle.sg_cli.specs.Served.{usage_text}
use Rattle.sg_cli.proofs.AnswerLemmas.{drawn-in_part, drawn-whole, served-in_part, served-whole, usage-served}
use Rattle.sg_cli.proofs.serve.run.Goals as goal

pub returns-in-None-clause-answer : goal.returns-in-None-clause-answer
returns-in-None-clause-answer g c = λ replied.
    let words = map string_bytes c.args.words.now in
    let left = g.S.Source.left c.args.source.now in
    let sent = c.send.ensures.sent replied in
    rw sent.0 (served-whole words _ left (g.K.Sink.written c.args.sink.now) (g.K.Sink.written c.send.new.sink) usage_text Usage
    (usage-served words _ left (sym c.parse_command.ensures.value ∙ c.in-None.is)) sent.1)

pub returns-in-None-clause-write_fault : goal.returns-in-None-clause-write_fault
returns-in-None-clause-write_fault g c = λ stopped.
    let words = map string_bytes c.args.words.now in
    let left = g.S.Source.left c.args.source.now in (
      (c.send.ensures.fault stopped).0,
      served-in_part words _ left (g.K.Sink.written c.args.sink.now) (g.K.Sink.written c.send.new.sink) usage_text Usage
          (usage-served words _ left (sym c.parse_command.ensures.value ∙ c.in-None.is)) tt (c.send.ensures.fault stopped).1,
    )

pub returns-in-Ok-draw_reply-clause-answer : goal.returns-in-Ok-draw_reply-clause-answer
returns-in-Ok-draw_reply-clause-answer g c = λ replied.
    let reply = c.in-Ok-draw_reply.reply in
    let sent = c.send-in-Ok-draw_reply.ensures.sent replied in
    rw sent.0 (drawn-whole (map string_bytes c.args.words.now) _ c.in-Some-Draw.drawing c.law_word.result.now
    (g.S.Source.left c.args.source.now) (g.K.Sink.written c.args.sink.now) (g.K.Sink.written c.send-in-Ok-draw_reply.new.sink)
    reply.text.items c.as_slice-in-Ok-draw_reply.result.now reply.status
    (sym c.parse_command.ensures.value ∙ c.in-Some-Draw.is ∙ ap Some c.in-Some-Draw.field-0-is) c.law_word.ensures c.as_slice-in-Ok-draw_reply.ensures.value
    c.in-Ok-draw_reply.ensures.served sent.1)

pub returns-in-Ok-draw_reply-clause-write_fault : goal.returns-in-Ok-draw_reply-clause-write_fault
returns-in-Ok-draw_reply-clause-write_fault g c = λ stopped.
    let reply = c.in-Ok-draw_reply.reply in (
      (c.send-in-Ok-draw_reply.ensures.fault stopped).0,
      drawn-in_part (map string_bytes c.args.words.now) _ c.in-Some-Draw.drawing c.law_word.result.now
          (g.S.Source.left c.args.source.now) (g.K.Sink.written c.args.sink.now) (g.K.Sink.written c.send-in-Ok-draw_reply.new.sink)
          reply.text.items c.as_slice-in-Ok-draw_reply.result.now reply.status
          (sym c.parse_command.ensures.value ∙ c.in-Some-Draw.is ∙ ap Some c.in-Some-Draw.field-0-is) c.law_word.ensures
          c.as_slice-in-Ok-draw_reply.ensures.value
          c.in-Ok-draw_reply.ensures.served c.in-Ok-draw_reply.ensures.replied (c.send-in-Ok-draw_reply.ensures.fault stopped).1,
    )
