use Rattle.std.proofs.Common.{rules, ◌∙◌, w64, to_z-of_z}
use Rattle.ising2d_c.proofs.calls.ising2d_c_check.Goals as goal

pub returns-in-Ok-clause-found : goal.returns-in-Ok-clause-found
returns-in-Ok-clause-found c = λ done.
    let all = rw (to_z-of_z {w = w64} {z = c.args.energy} (search rules)) at c.in-Ok.ensures.gives in
    record {
      instance = all.instance;
      given = all.given;
      study = record {
        verdict = c.in-Ok.found.verdict;
        judged = all.study;
        line = rw (c.as_slice.ensures.value ∙ c.in-Ok.ensures.line) at c.fill.ensures;
        ended = c.code_by.ensures.by_verdict;
        least = λ zero. all.study.least (c.code_by.ensures.yes zero);
      };
    }
