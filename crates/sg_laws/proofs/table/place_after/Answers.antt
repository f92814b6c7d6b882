use Rattle.std.proofs.Common.{rules, ◌≡◌, ◌+◌, length}
use Rattle.sg_laws.proofs.Rounds.{round_wrapped}
use Rattle.sg_laws.proofs.table.place_after.Goals as goal

pub returns-else-next-draws-clause-same : goal.returns-else-next-draws-clause-same
returns-else-next-draws-clause-same c =
    λ n. round_wrapped c.args.draws.now c.args.place n (let e : length c.args.draws.now ≡ c.args.place + 1 = search rules in e)
