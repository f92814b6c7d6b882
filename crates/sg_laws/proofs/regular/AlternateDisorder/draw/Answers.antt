use Rattle.std.proofs.Common.{rules, ◌≡◌, ◌≢◌, ◌%◌}
use Rattle.sg_laws.proofs.Alternations.{alternating_even, alternating_odd}
use Rattle.sg_laws.proofs.regular.AlternateDisorder.draw.Goals as goal

pub returns-then-self-eq0-clause-stream : goal.returns-then-self-eq0-clause-stream
returns-then-self-eq0-clause-stream c =
    let even : c.args.self.now.parity % 2 ≡ 0 = search rules in λ n. alternating_even c.args.self.now.parity n even

pub returns-else-self-eq0-clause-stream : goal.returns-else-self-eq0-clause-stream
returns-else-self-eq0-clause-stream c =
    let odd : c.args.self.now.parity % 2 ≢ 0 = search rules in λ n. alternating_odd c.args.self.now.parity n odd
