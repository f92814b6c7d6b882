use Rattle.std.proofs.Common.{rules, ◌-◌, ◌<◌, arith, sym}
use Rattle.sg_calls.specs.Crossing.{entry}
use Rattle.sg_calls.proofs.StartLemmas.{fall-none, fall-some}
use Rattle.sg_calls.proofs.starts.first_fall.Goals as goal

pub returns-then-starts-k-clause-value : goal.returns-then-starts-k-clause-value
returns-then-starts-k-clause-value c =
    let starts = c.args.starts.now in
    let k = c.loop-k.k in
    let here : entry starts k < entry starts (k - 1) = search rules in
    sym (fall-some starts k (omega arith) c.loop-k-test.true c.loop-k.invariant here)

pub returns-clause-value : goal.returns-clause-value
returns-clause-value c = sym (fall-none c.args.starts.now (λ i inside. c.loop-k.invariant i (omega arith)))
