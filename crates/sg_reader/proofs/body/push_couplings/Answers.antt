use Rattle.std.proofs.Common.{◌∙◌, length, arith, rules, FitsSigned, w64}
use Rattle.std.proofs.lemmas.Int.{to_z-of_z}
use Rattle.sg_reader.specs.Tests.{any_number, field_fault, number_in}
use Rattle.sg_reader.proofs.TestLaws.{fault-end, fault-here, fault-on, listed-end, listed-on}
use Rattle.sg_reader.proofs.RestLaws.{failed}
use Rattle.sg_reader.proofs.body.push_couplings.Goals as goal

pub returns-in_err-coupling-clause-fault : goal.returns-in_err-coupling-clause-fault
returns-in_err-coupling-clause-fault c =
    let bad = rw c.any_number.ensures at c.in_err-coupling.ensures.refused in
    failed _ _ c.from_residual.ensures.1 (c.loop-i.invariant.passes ∙ fault-here _ _ _ _ (omega arith) bad)

pub loop-i-preserved : goal.loop-i-preserved
loop-i-preserved c =
    let fits : FitsSigned w64 c.in_ok-coupling.coupling = search rules in
    record {
      passes = c.loop-i.invariant.passes ∙ fault-on _ _ _ (omega arith) (rw c.any_number.ensures at c.in_ok-coupling.ensures.passes);
      added = listed-on _ _ _ _ (length c.args.row.now.fields) c.loop-i.invariant.added _ _ (omega arith)
          c.in_ok-push.ensures.ok (to_z-of_z _ _ fits ∙ c.in_ok-coupling.ensures.value);
    }

pub returns-clause-passes : goal.returns-clause-passes
returns-clause-passes c = c.loop-i.invariant.passes ∙ fault-end (field_fault any_number) c.args.row.now c.loop-i.i (omega arith)

pub returns-clause-added : goal.returns-clause-added
returns-clause-added c = listed-end (λ k. number_in c.args.row.now k) c.loop-i.couplings _ c.loop-i.i _ c.loop-i.invariant.added (omega arith)
