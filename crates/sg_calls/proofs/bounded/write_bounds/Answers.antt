use Rattle.std.proofs.Common.{arith, ◌≡◌, length}
use Rattle.sg_calls.proofs.BoundLemmas.{says_bounds}
use Rattle.sg_calls.proofs.bounded.write_bounds.Goals as goal

pub returns : goal.returns
returns c =
    let written = c.loop-k.invariant in
    let end : c.loop-k.k ≡ length c.args.bounds.now = omega (arith, c.loop-k-test.false, c.loop-k.auto.k-end) in
    says_bounds c.loop-k.low c.loop-k.high c.args.bounds.now written.count_low written.count_high (λ i inside. written.low i (omega (arith, inside, end)))
    (λ i inside. written.high i (omega (arith, inside, end)))
