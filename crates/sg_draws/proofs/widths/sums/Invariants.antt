use Rattle.std.proofs.Common.{◌≡◌, ◌-◌, ◌≤◌, ◌<◌, ℕ}
use Rattle.sg_lattice.specs.declared.kind.Kind.TheVariants.{Cylinder}
use Rattle.sg_planar.specs.Fit.{IsFit}
use Rattle.sg_ensemble.specs.Widths.{AreWidths}
use Rattle.sg_draws.specs.Drawn.{drawn_lattice, with_cols}
use Rattle.sg_draws.proofs.widths.sums.Given as goal

-- the first sample of each width so far is fit, and the sums of these widths were found
abbrev pub invariant-loop-cols : goal.invariant-loop-cols
invariant-loop-cols g l =
    let old = goal.Disorder-dyn g (l.initial.law.vtable, l.initial.law.value) in
    let new = goal.Disorder-dyn g (l.law.vtable, l.law.value) in
    ((c : ℕ) → 3 ≤ c → c < l.cols → IsFit (drawn_lattice Cylinder (with_cols l.size c) (old.seeded l.initial.law.value l.seed)))
    × AreWidths l.size.rows l.count (old.seeded l.initial.law.value l.seed) (l.cols - 3) l.widths
    × ((s c : ℕ) → new.seeded l.law.value s c ≡ old.seeded l.initial.law.value s c)
