use Rattle.std.proofs.Common.{◌∷◌, ◌++◌, [], ◌∙◌, ap}
use Rattle.sg_check.specs.declared.packing.Loop.{Loop}
use Rattle.sg_reader.proofs.ResultLaws.{loop-refused, loop-taken}
use Rattle.sg_reader.proofs.RestLaws.{failed}
use Rattle.sg_reader.proofs.result.LoopsBodyGather.take.Goals as goal

pub returns-in_err-entry-clause-fault : goal.returns-in_err-entry-clause-fault
returns-in_err-entry-clause-fault c = failed _ _ c.from_residual.ensures.1 (loop-refused _ _ _ c.requires.other c.in_err-entry.ensures.fault)

pub returns-in_err-push-clause-fault : goal.returns-in_err-push-clause-fault
returns-in_err-push-clause-fault c = failed _ _ c.from_residual-in_err-push.ensures.1 (loop-refused _ _ _ c.requires.other tt)

pub returns-clause-taken : goal.returns-clause-taken
returns-clause-taken c = loop-taken _ _ _ c.requires.other c.in_ok-entry.ensures.passes
    (c.in_ok-push.ensures.ok ∙ ap (λ (l : Loop). c.args.self.now.loops ++ l ∷ []) c.in_ok-entry.ensures.value) c.in_ok-entry.ensures.count
