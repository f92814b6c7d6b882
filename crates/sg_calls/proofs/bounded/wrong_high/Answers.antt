use Rattle.std.proofs.Common.{arith, ◌≡◌, length, eq-eqb}
use Rattle.sg_calls.proofs.bounded.wrong_high.Goals as goal

pub returns-clause-value : goal.returns-clause-value
returns-clause-value c =
    let count : length c.args.high.now ≡ c.args.count = omega arith in
    rw (eq-eqb (length c.args.high.now) c.args.count count) c.first_crossed.ensures
