use Rattle.std.proofs.Common.{◌≡◌, ◌+◌, ◌-◌, ℕ, ◌∙◌, sym, subst, arith}
use Rattle.sg_lattice.specs.declared.kind.Kind.TheVariants.{Cylinder}
use Rattle.sg_planar.specs.Fit.{IsFit}
use Rattle.sg_ensemble.specs.Widths.{AreWidths, IsWidth}
use Rattle.sg_ensemble.proofs.WidthAfterWidth.{one_wide, same_stream}
use Rattle.sg_draws.specs.Drawn.{drawn_lattice, with_cols}
use Rattle.sg_draws.proofs.WidthByWidth.{one_more, same_fit}
use Rattle.sg_draws.proofs.widths.sums.Goals as goal

pub loop-cols-preserved : goal.loop-cols-preserved
loop-cols-preserved g c =
    let law = c.args.law.now in
    let stream = (goal.Disorder-dyn g (law.vtable, law.value)).seeded law.value c.args.seed in
    let mid = c.loop-cols.law in
    let last = (goal.Disorder-dyn g (mid.vtable, mid.value)).seeded mid.value c.args.seed in
    let same : (k : ℕ) → last k ≡ stream k = λ k. c.loop-cols.invariant.2 c.args.seed k in
    let size = c.args.size in
    let cols = c.loop-cols.cols in
    let place : cols ≡ 3 + (cols - 3) = omega (arith, c.loop-cols.auto.cols) in
    let count : cols - 3 + 1 ≡ cols + 1 - 3 = omega (arith, c.loop-cols.auto.cols) in
    let wide = one_wide size.rows c.args.count stream (cols - 3) c.loop-cols.widths c.in-Ok.width c.loop-cols.invariant.1
    (subst (λ k. IsWidth size.rows k c.args.count stream c.in-Ok.width) place
    (same_stream size.rows cols c.args.count last stream c.in-Ok.width same c.in-Ok.ensures.width)) in (
      one_more (λ n. IsFit (drawn_lattice Cylinder (with_cols size n) stream)) cols c.loop-cols.invariant.0
          (same_fit Cylinder (with_cols size cols) last stream same c.in-Ok.ensures.fit),
      subst (λ k. AreWidths size.rows c.args.count stream k c.push.new.self) count
          (subst (λ l. AreWidths size.rows c.args.count stream (cols - 3 + 1) l) (sym c.in_ok-push-in-Ok.ensures.ok) wide),
      λ s n. c.sums_of.ensures.seeds s n ∙ c.loop-cols.invariant.2 s n,
    )
