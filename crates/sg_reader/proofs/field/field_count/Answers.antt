use Rattle.std.proofs.Common.{sym, ◌∙◌, ap, arith}
use Rattle.sg_reader.specs.Field.{is_empty}
use Rattle.sg_reader.proofs.FieldLaws.{fields_in_is}
use Rattle.sg_reader.proofs.field.field_count.Goals as goal

pub returns-else-is_empty-clause-fields : goal.returns-else-is_empty-clause-fields
returns-else-is_empty-clause-fields c =
    let i = c.loop-count.invariant in
    fields_in_is _ _ i.inside i.empties (λ some. ap is_empty (sym c.field_at.ensures) ∙ sym c.is_empty.ensures ∙ c.if-is_empty.false)

pub returns-after-loop-count-clause-fields : goal.returns-after-loop-count-clause-fields
returns-after-loop-count-clause-fields c = fields_in_is _ _ c.loop-count.invariant.inside c.loop-count.invariant.empties (λ some. absurd (omega arith))
