use Rattle.std.proofs.Common.{rules, arith, ap, length, subst, sym, All, w64, to_z-of_z}
use Rattle.std.proofs.lemmas.List.{length_push}
use Rattle.std.proofs.lemmas.List.Elements.{All-push}
use Rattle.sg_draft.specs.Bonds.{IsCoupling}
use Rattle.sg_trials.proofs.instances.couplings.Goals as goal

pub loop-preserved : goal.loop-preserved
loop-preserved c =
    let j = c.coupling.result in
    let is = rw (to_z-of_z {w = w64} {z = j} (search rules)) at c.in_ok-push.ensures.ok in
    record {
      count = omega (arith, ap length is, length_push c.loop.list j);
      sizes = subst (All IsCoupling) (sym is) (All-push IsCoupling c.loop.list j c.loop.invariant.sizes c.coupling.ensures);
    }
