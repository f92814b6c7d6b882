use Rattle.std.proofs.Common.{refl, arith}
use Rattle.sg_reader.specs.Kept.{kept_of}
use Rattle.sg_reader.proofs.RecordCounts.{few-records_of}
use Rattle.sg_reader.proofs.RecordLaws.{most_fields-le}
use Rattle.sg_reader.proofs.rows.Rows.new.Goals as goal

pub invariant_of-result : goal.invariant_of-result
invariant_of-result c =
    let few = few-records_of c.without_marks.result.now in
    rw (c.new.ensures, c.without_marks.ensures.bare) (
      omega (arith, c.without_marks.ensures.shorter, few.records),
      omega (arith, c.without_marks.ensures.shorter, few.fields, most_fields-le c.without_marks.result.now),
    )

pub returns : goal.returns
unfolding kept_of
returns c = rw (c.new.ensures, c.without_marks.ensures.bare, c.without_marks.ensures.value) refl
