use Rattle.std.proofs.Common.{◌≡◌, true, subst, sym, take_all}
use Rattle.std.specs.List.{list_any}
use Rattle.sg_check.proofs.OddSpins.{ends_at}
use Rattle.sg_check.proofs.spins.least_marked_end.Goals as goal

pub returns-then-least-count-clause-least : goal.returns-then-least-count-clause-least
returns-then-least-count-clause-least c = λ i l m h. c.loop-k.invariant.least i l m
    (subst (λ xs. list_any (ends_at c.args.inst.now i) xs ≡ true) (sym (take_all _ _ c.loop-k-test.false)) h)
