use Rattle.std.proofs.Common.{rules, ◌*◌, subst}
use Rattle.sg_ensemble.specs.Samples.{AreWalls, draw_count}
use Rattle.sg_draws.proofs.ensemble.walls_reply.Goals as goal

pub returns-clause-served : goal.returns-clause-served
returns-clause-served g c =
    let rows = c.args.size.rows in
    let cols = c.args.size.cols in
    let count = c.args.count in
    let walls = c.in_ok-found.found.walls in
    record {
      walls = walls;
      exact = subst (λ draws. AreWalls rows cols count draws walls) (c.start.ensures.stream (count * draw_count rows cols)) c.in_ok-found.ensures.walls;
      printed = search rules;
      done = c.done.ensures.status;
    }
