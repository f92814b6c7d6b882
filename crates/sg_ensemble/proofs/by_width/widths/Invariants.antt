use Rattle.std.proofs.Common.{◌≡◌, ◌<◌, ◌*◌, ℕ, ◌-◌}
use Rattle.sg_laws.specs.Stream.{Draws}
use Rattle.sg_ensemble.specs.Samples.{draw_count}
use Rattle.sg_ensemble.specs.Widths.{AreWidths}
use Rattle.sg_ensemble.proofs.by_width.widths.Given as goal

abbrev pub invariant-loop-cols : goal.invariant-loop-cols
invariant-loop-cols g l =
    let old = goal.Disorder-dyn g (l.initial.law.vtable, l.initial.law.value) in
    let new = goal.Disorder-dyn g (l.law.vtable, l.law.value) in
    AreWidths l.rows l.count (old.seeded l.initial.law.value l.seed) (l.cols - 3) l.widths
    × (3 < l.cols → Draws (l.count * draw_count l.rows (l.cols - 1)) (old.seeded l.initial.law.value l.seed) (new.next l.law.value))
    × (new.title l.law.value ≡ old.title l.initial.law.value)
    × ((s c : ℕ) → new.seeded l.law.value s c ≡ old.seeded l.initial.law.value s c)
