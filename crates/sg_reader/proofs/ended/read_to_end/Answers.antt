use Rattle.std.proofs.Common.{◌≡◌, true, false, sym, ◌∙◌}
use Rattle.sg_reader.specs.Body.{says_end}
use Rattle.sg_reader.proofs.EndedLaws.{taken-end, taken-fault, taken-more, taken-none, taken-without}
use Rattle.sg_reader.proofs.RestLaws.{failed, rest-none}
use Rattle.sg_reader.proofs.ended.read_to_end.Goals as goal

pub loop-row-init : goal.loop-row-init
loop-row-init g c = taken-none g.B.Gather.tests g.B.Gather.holds c.args.body.now c.args.rows.now c.requires

pub returns-in_err-next-clause-fault : goal.returns-in_err-next-clause-fault
returns-in_err-next-clause-fault g c = failed _ _ c.from_residual.ensures.1 (rest-none _ _ c.in_err-next.ensures.failed)

pub returns-then-begins-clause-ended : goal.returns-then-begins-clause-ended
returns-then-begins-clause-ended g c =
    let end : says_end c.next.new.row ≡ true = sym c.begins.ensures ∙ c.if-begins.true in
    taken-end g.B.Gather.tests g.B.Gather.holds _ _ _ _ c.loop-row.invariant _ _ (rw c.if-branch.true at c.in_ok-next.ensures.found) end

pub returns-in_err-take-clause-fault : goal.returns-in_err-take-clause-fault
returns-in_err-take-clause-fault g c =
    failed _ _ c.from_residual-in_err-take.ensures.1 (taken-fault g.B.Gather.tests g.B.Gather.holds _ _ _ _ c.loop-row.invariant _
    _ _ (rw c.if-branch.true at c.in_ok-next.ensures.found) c.in_err-take.ensures.fault)

pub take-requires-clause-held : goal.take-requires-clause-held
take-requires-clause-held g c = record { start = c.args.body.now; body = c.loop-row.invariant.body; held = c.loop-row.invariant.held }

pub loop-row-preserved : goal.loop-row-preserved
loop-row-preserved g c =
    let next = rw c.if-branch.true at c.in_ok-next.ensures.found in
    let other : says_end c.next.new.row ≡ false = sym c.begins.ensures ∙ c.if-begins.false in
    taken-more g.B.Gather.tests g.B.Gather.holds _ _ _ _ c.loop-row.invariant _ _ _ next other c.in_ok-take.ensures.taken

pub returns-clause-fault : goal.returns-clause-fault
returns-clause-fault g c =
    let none = rw c.if-branch.false at c.in_ok-next.ensures.found in
    taken-without g.B.Gather.tests g.B.Gather.holds _ _ _ _ c.loop-row.invariant _ none.0 none.1
