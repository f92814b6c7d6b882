use Rattle.std.proofs.Common.{◌+◌, ◌*◌, ◌^◌, ◌-◌, ◌≤◌, arith}
use Rattle.std.proofs.Math.Nat.{min-le_left}
use Rattle.sg_work.proofs.Products.{capped}
use Rattle.sg_work.proofs.work.growing.Goals as goal

pub returns : goal.returns
returns c =
    let times : c.saturating_mul-times.result ≤ 12 * (c.args.count + 11) =
    omega (
      arith,
      c.saturating_mul-times.ensures,
      c.saturating_add.ensures,
      min-le_left (c.saturating_add.result * 12) (2 ^ 64 - 1),
      min-le_left (c.args.count + 4) (2 ^ 64 - 1),
    ) in
    capped _ _ _ _ _ _ times (omega arith) c.saturating_mul.ensures
