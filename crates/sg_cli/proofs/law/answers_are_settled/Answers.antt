use Rattle.sg_cli.proofs.OneText.{input-text, words-one}
use Rattle.sg_cli.proofs.Settled.{fit-done, input-kind, input-settled, told-settled}
use Rattle.sg_cli.proofs.law.answers_are_settled.Goals as goal

pub returns-clause-settled : goal.returns-clause-settled
returns-clause-settled c = λ reading bytes text status answers. input-settled reading bytes text status answers

pub returns-clause-done : goal.returns-clause-done
returns-clause-done c = λ study inst text status answers can. fit-done study inst text status answers can

pub returns-clause-one_kind : goal.returns-clause-one_kind
returns-clause-one_kind c = λ reading bytes text line first second p q. input-kind reading bytes first second text line p q

pub returns-clause-one_text : goal.returns-clause-one_text
returns-clause-one_text c = λ reading bytes text line first second one p q. input-text reading bytes text line first second one p q

pub returns-clause-one_reply : goal.returns-clause-one_reply
returns-clause-one_reply c = λ drawing words laws bytes other text line first second named p q.
    words-one drawing words laws bytes other text line first second named p q

pub returns-clause-told : goal.returns-clause-told
returns-clause-told c = λ words laws status left before after bytes reading whole told named.
    told-settled words laws status left before after bytes reading whole told named
