use Rattle.std.proofs.Common.{◌≡◌, ◌-◌, ◌∙◌, true, codes, length, arith, rules, ap, refl, FitsSigned, w8}
use Rattle.std.proofs.lemmas.Int.{to_z-of_z}
use Rattle.std.proofs.lemmas.List.FromFn.{length-map-range_with_len}
use Rattle.std.proofs.lemmas.Result.{err_from_is_err_and}
use Rattle.sg_reader.specs.Kept.{begins}
use Rattle.sg_reader.specs.Result.{spin_fault}
use Rattle.sg_reader.specs.Tests.{number_in}
use Rattle.sg_reader.proofs.BodyLaws.{word-inside}
use Rattle.sg_reader.proofs.TestLaws.{fault-end, fault-here, fault-on, listed-end, listed-on}
use Rattle.sg_reader.proofs.result.read_spins.Goals as goal

pub returns-in_err-value-clause-fault : goal.returns-in_err-value-clause-fault
returns-in_err-value-clause-fault c =
    let p = err_from_is_err_and c.from_residual-in_err-value.result c.from_residual-in_err-value.ensures.1 in
    let word : begins (codes "spins") c.args.row.now ≡ true = c.in_ok-check_word.ensures.says in
    rw (p.1, p.2, word, c.loop-i.invariant.passes, fault-here spin_fault c.args.row.now c.loop-i.i _ (omega arith) c.in_err-value.ensures.refused) refl

pub loop-i-preserved : goal.loop-i-preserved
loop-i-preserved c =
    let fits : FitsSigned w8 c.in_ok-value.value = search rules in
    record {
      passes = c.loop-i.invariant.passes ∙ fault-on _ _ _ (omega arith) c.in_ok-value.ensures.passes;
      listed = listed-on _ _ _ _ (length c.args.row.now.fields) c.loop-i.invariant.listed _ _ (omega arith)
          c.in_ok-push.ensures.ok (to_z-of_z _ _ fits ∙ c.in_ok-value.ensures.value);
    }

pub returns-clause-passes : goal.returns-clause-passes
returns-clause-passes c =
    let word : begins (codes "spins") c.args.row.now ≡ true = c.in_ok-check_word.ensures.says in
    let inside = word-inside (codes "spins") refl c.args.row.now word in
    rw (word, c.loop-i.invariant.passes, fault-end spin_fault c.args.row.now c.loop-i.i (omega (arith, inside))) refl

pub returns-clause-value : goal.returns-clause-value
returns-clause-value c =
    listed-end _ _ _ _ _ c.loop-i.invariant.listed (omega (arith, word-inside (codes "spins") refl c.args.row.now c.in_ok-check_word.ensures.says))

pub returns-clause-count : goal.returns-clause-count
returns-clause-count c =
    let inside = word-inside (codes "spins") refl c.args.row.now c.in_ok-check_word.ensures.says in
    let all = listed-end (λ k. number_in c.args.row.now k) c.loop-i.spins _ c.loop-i.i _ c.loop-i.invariant.listed (omega (arith, inside)) in
    omega (arith, inside, ap length all ∙ length-map-range_with_len (λ k. number_in c.args.row.now k) 1 (length c.args.row.now.fields - 1))
