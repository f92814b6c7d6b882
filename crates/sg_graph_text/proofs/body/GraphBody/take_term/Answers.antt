use Rattle.std.proofs.Common.{sym, refl}
use Rattle.sg_graph_text.proofs.BodyLaws.{term-refused, term-taken}
use Rattle.sg_reader.proofs.RestLaws.{failed}
use Rattle.sg_graph_text.proofs.body.GraphBody.take_term.Goals as goal

pub returns-in_err-entries-clause-fault : goal.returns-in_err-entries-clause-fault
returns-in_err-entries-clause-fault c =
    failed _ _ c.from_residual.ensures.1 (term-refused _ _ _ _ (sym c.is_some.ensures) c.requires.allowed c.requires.word c.in_err-entries.ensures.fault)

pub returns-clause-taken : goal.returns-clause-taken
returns-clause-taken c = term-taken _ _ _ _ _ (sym c.is_some.ensures)
    c.requires.allowed c.requires.word c.in_ok-entries.ensures.passes c.in_ok-entries.ensures.value refl refl refl refl
