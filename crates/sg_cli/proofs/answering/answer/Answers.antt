use Rattle.std.proofs.Common.{map, string_bytes, None, Some, refl, sym, ◌∙◌}
use Rattle.sg_words.specs.Command.{law_word}
use Rattle.sg_cli.proofs.Replies.{command-served, reply-done, reply-fit, reply-refused, reply-settled}
use Rattle.sg_cli.proofs.answering.answer.Goals as goal

pub returns-in-Some-clause-served : goal.returns-in-Some-clause-served
returns-in-Some-clause-served g c =
    command-served (map string_bytes c.args.words.now) _ c.args.bytes.now (Some c.in-Some.command) c.law_word.result.now c.command_reply.result
    (sym c.parse_command.ensures.value ∙ c.in-Some.is) c.law_word.ensures c.command_reply.ensures.served

pub returns-in-Some-clause-fit : goal.returns-in-Some-clause-fit
returns-in-Some-clause-fit g c = reply-fit (map string_bytes c.args.words.now) _ c.args.bytes.now c.command_reply.result (returns-in-Some-clause-served g c)

pub returns-in-Some-clause-done : goal.returns-in-Some-clause-done
returns-in-Some-clause-done g c = reply-done (map string_bytes c.args.words.now) _ c.args.bytes.now c.command_reply.result (returns-in-Some-clause-served g c)

pub returns-in-Some-clause-refused : goal.returns-in-Some-clause-refused
returns-in-Some-clause-refused g c =
    reply-refused (map string_bytes c.args.words.now) _ c.args.bytes.now c.command_reply.result (returns-in-Some-clause-served g c)

pub returns-in-Some-clause-settled : goal.returns-in-Some-clause-settled
returns-in-Some-clause-settled g c =
    reply-settled (map string_bytes c.args.words.now) _ c.args.bytes.now c.command_reply.result (returns-in-Some-clause-served g c)

pub returns-in-None-clause-served : goal.returns-in-None-clause-served
returns-in-None-clause-served g c =
    command-served (map string_bytes c.args.words.now) _ c.args.bytes.now None (law_word (map string_bytes c.args.words.now)) c.usage_reply.result
    (sym c.parse_command.ensures.value ∙ c.in-None.is) refl c.usage_reply.ensures.served

pub returns-in-None-clause-fit : goal.returns-in-None-clause-fit
returns-in-None-clause-fit g c = reply-fit (map string_bytes c.args.words.now) _ c.args.bytes.now c.usage_reply.result (returns-in-None-clause-served g c)

pub returns-in-None-clause-done : goal.returns-in-None-clause-done
returns-in-None-clause-done g c = reply-done (map string_bytes c.args.words.now) _ c.args.bytes.now c.usage_reply.result (returns-in-None-clause-served g c)

pub returns-in-None-clause-refused : goal.returns-in-None-clause-refused
returns-in-None-clause-refused g c =
    reply-refused (map string_bytes c.args.words.now) _ c.args.bytes.now c.usage_reply.result (returns-in-None-clause-served g c)

pub returns-in-None-clause-settled : goal.returns-in-None-clause-settled
returns-in-None-clause-settled g c =
    reply-settled (map string_bytes c.args.words.now) _ c.args.bytes.now c.usage_reply.result (returns-in-None-clause-served g c)
