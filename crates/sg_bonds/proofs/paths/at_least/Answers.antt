use Rattle.sg_bonds.proofs.Common.{pos, ap, ◌+◌, ◌∙◌, get_or_default, length_push}
use Rattle.sg_bonds.specs.Bounds.{unbounded}
use Rattle.sg_bonds.proofs.NarrowedBounds.{just}
use Rattle.sg_bonds.proofs.PathBounds.{marks_more}
use Rattle.sg_bonds.proofs.paths.at_least.Goals as goal

pub loop-bound-preserved : goal.loop-bound-preserved
loop-bound-preserved c =
    let i = c.loop-bound.bound-index in
    let said = rw (get_or_default c.args.bounds.now i (just (pos 0)) unbounded c.loop-bound-test.true) at c.is_at_least.ensures in
    rw c.in_ok-push.ensures.items (record {
      count = length_push c.loop-bound.set.items c.is_at_least.result ∙ ap (λ n. n + 1) c.loop-bound.invariant.count;
      each = marks_more c.args.bounds.now _ c.loop-bound.set.items c.is_at_least.result i c.loop-bound.invariant.count c.loop-bound.invariant.each said;
    })
