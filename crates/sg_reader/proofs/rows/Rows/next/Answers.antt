use Rattle.std.proofs.Common.{List, ap, arith, rules}
use Rattle.std.proofs.lemmas.Grind.{common_steps}
use Rattle.sg_reader.specs.Kept.{Kept}
use Rattle.sg_reader.proofs.RecordCounts.{field_total, field_total-numbered}
use Rattle.sg_reader.proofs.rows.Rows.next.Goals as goal

pub returns-in_err-fill-clause-few : goal.returns-in_err-fill-clause-few
returns-in_err-fill-clause-few c =
    omega (arith, ap (λ (l : List Kept). field_total l) c.self.view_is, field_total-numbered c.self.inside.taken c.self.inside.cursor, c.self.invariant.1)

pub returns-then-is_kept-clause-few : goal.returns-then-is_kept-clause-few
returns-then-is_kept-clause-few c =
    omega (arith, ap (λ (l : List Kept). field_total l) c.self.view_is, field_total-numbered c.self.inside.taken c.self.inside.cursor, c.self.invariant.1)

pub invariant_of-self-then-is_kept : goal.invariant_of-self-then-is_kept
invariant_of-self-then-is_kept c = grind (arith, common_steps)

pub loop-self-preserved : goal.loop-self-preserved
loop-self-preserved c = grind (arith, common_steps)

pub returns-then-is_kept-clause-failed : goal.returns-then-is_kept-clause-failed
returns-then-is_kept-clause-failed c = search rules
