use Rattle.std.proofs.Common.{◌∙◌, length, arith}
use Rattle.sg_reader.specs.Tests.{any_index, field_fault, size_in}
use Rattle.sg_reader.proofs.TestLaws.{fault-end, fault-here, fault-on, listed-end, listed-on}
use Rattle.sg_reader.proofs.RestLaws.{failed}
use Rattle.sg_reader.proofs.body.indices.Goals as goal

pub returns-in_err-index-clause-fault : goal.returns-in_err-index-clause-fault
returns-in_err-index-clause-fault c =
    let bad = rw c.any_index.ensures at c.in_err-index.ensures.refused in
    failed _ _ c.from_residual.ensures.1 (c.loop-i.invariant.passes ∙ fault-here _ _ _ _ (omega arith) bad)

pub loop-i-preserved : goal.loop-i-preserved
loop-i-preserved c = record {
  passes = c.loop-i.invariant.passes ∙ fault-on _ _ _ (omega arith) (rw c.any_index.ensures at c.in_ok-index.ensures.passes);
  listed = listed-on _ _ _ _ (length c.args.row.now.fields) c.loop-i.invariant.listed _ _ (omega arith) c.in_ok-push.ensures.ok c.in_ok-index.ensures.value;
}

pub returns-clause-passes : goal.returns-clause-passes
returns-clause-passes c = c.loop-i.invariant.passes ∙ fault-end (field_fault any_index) c.args.row.now c.loop-i.i (omega arith)

pub returns-clause-value : goal.returns-clause-value
returns-clause-value c = listed-end (λ k. size_in c.args.row.now k) c.loop-i.list _ c.loop-i.i _ c.loop-i.invariant.listed (omega arith)
