use Rattle.sg_model.specs.declared.refusal.Fault.TheVariants.{Refused}
use Rattle.sg_reader.proofs.EndedLaws.{without-first}
use Rattle.sg_reader.proofs.RestLaws.{failed, rest-none}
use Rattle.sg_graph_text.proofs.ReadLaws.{size-fault}
use Rattle.sg_graph_text.proofs.read.next_size.Goals as goal

pub returns-in_err-next-clause-fault : goal.returns-in_err-next-clause-fault
returns-in_err-next-clause-fault c = failed _ _ c.from_residual.ensures.1 (rest-none _ _ c.in_err-next.ensures.failed)

pub returns-then-not-branch-clause-fault : goal.returns-then-not-branch-clause-fault
returns-then-not-branch-clause-fault c =
    let none = rw c.if-not-branch.true at c.in_ok-next.ensures.found in
    without-first _ _ _ none.0 none.1

pub returns-in_err-nodes-clause-fault : goal.returns-in_err-nodes-clause-fault
returns-in_err-nodes-clause-fault c =
    let first = rw c.if-not-branch.false at c.in_ok-next.ensures.found in
    failed _ _ c.from_residual-in_err-nodes.ensures.1 (size-fault _ _ _ _ (Refused c.in_err-nodes.field-0.0) first c.in_err-nodes.ensures.refused)
