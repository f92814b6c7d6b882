use Rattle.std.proofs.Common.{◌≡◌, ◌∙◌, ap, [], pos, arith, below_more}
use Rattle.std.proofs.lemmas.List.{get_or_read}
use Rattle.std.proofs.lemmas.List.Elements.{All-from_get_or}
use Rattle.sg_check.specs.declared.packing.Loop.{Loop}
use Rattle.sg_check.specs.Loop.{IsEven, IsEvenAt}
use Rattle.sg_check.specs.Verdict.{IsFirstFailure, loop_at}
use Rattle.sg_check.proofs.loops.first_uneven.Goals as goal

pub returns-in-Some-clause-first_loop : goal.returns-in-Some-clause-first_loop
returns-in-Some-clause-first_loop c =
    let same : c.as_slice.result.now ≡ (loop_at c.args.loops.now c.loop-i.i).bonds = c.as_slice.ensures ∙ ap (λ (l : Loop). l.bonds)
    (get_or_read c.args.loops.now c.loop-i.i _ c.loop-i-test.true c.index-loops-i.is (record { y = pos 0; bonds = [] })) in
    let first : IsFirstFailure (IsEvenAt c.args.inst.now (loop_at c.args.loops.now c.loop-i.i).bonds) c.args.inst.now.n c.in-Some.spin =
    rw (← same) c.in-Some.ensures.some in
    record { below = c.loop-i-test.true; fails = λ even. first.fails (even c.in-Some.spin first.below); earlier = c.loop-i.invariant.earlier }

pub loop-i-preserved : goal.loop-i-preserved
loop-i-preserved c =
    let same : c.as_slice.result.now ≡ (loop_at c.args.loops.now c.loop-i.i).bonds = c.as_slice.ensures ∙ ap (λ (l : Loop). l.bonds)
    (get_or_read c.args.loops.now c.loop-i.i _ c.loop-i-test.true c.index-loops-i.is (record { y = pos 0; bonds = [] })) in
    record {
      earlier = below_more _ _ c.loop-i.invariant.earlier (rw same at c.in_default.ensures.none);
      marks = c.least_odd_spin.ensures.marks ∙ c.loop-i.invariant.marks;
    }

pub returns-clause-none : goal.returns-clause-none
returns-clause-none c = All-from_get_or (λ (l : Loop). IsEven c.args.inst.now l.bonds) _ (record { y = pos 0; bonds = [] })
    (λ k l. c.loop-i.invariant.earlier k (omega (arith, c.loop-i-test.false, l)))
