use Rattle.std.proofs.Common.{◌*◌, ◌≤◌, arith}
use Rattle.sg_work.proofs.Products.{capped}
use Rattle.sg_work.proofs.work.cube.Goals as goal

pub returns : goal.returns
returns c =
    let square : c.saturating_mul.result ≤ c.args.count * c.args.count =
    capped _ _ _ _ _ _ (omega arith) (omega arith) c.saturating_mul.ensures in
    capped _ _ _ _ _ _ square (omega arith) c.saturating_mul-2.ensures
