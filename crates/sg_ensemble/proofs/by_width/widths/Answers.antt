use Rattle.std.proofs.Common.{rules, ◌≡◌, ◌+◌, ◌-◌, ◌*◌, ℕ, sym, subst, arith}
use Rattle.sg_laws.specs.Stream.{Draws}
use Rattle.sg_laws.proofs.Streams.{made_same}
use Rattle.sg_ensemble.specs.Samples.{draw_count}
use Rattle.sg_ensemble.specs.Widths.{AreWidths, IsWidth}
use Rattle.sg_ensemble.proofs.WidthAfterWidth.{one_wide, same_stream}
use Rattle.sg_ensemble.proofs.by_width.widths.Goals as goal

pub loop-cols-preserved : goal.loop-cols-preserved
loop-cols-preserved g c =
    let stream = (goal.Disorder-dyn g (c.args.law.now.vtable, c.args.law.now.value)).seeded c.args.law.now.value c.args.seed in
    let last = (goal.Disorder-dyn g (c.loop-cols.law.vtable, c.loop-cols.law.value)).seeded c.loop-cols.law.value c.args.seed in
    let new = (goal.Disorder-dyn g (c.one_width.new.law.vtable, c.one_width.new.law.value)).next c.one_width.new.law.value in
    let same : (k : ℕ) → last k ≡ stream k = λ k. c.loop-cols.invariant.3 c.args.seed k in
    let cols = c.loop-cols.cols in
    let back : cols ≡ cols + 1 - 1 = omega arith in
    let place : cols ≡ 3 + (cols - 3) = omega (arith, c.loop-cols.auto.cols) in
    let count : cols - 3 + 1 ≡ cols + 1 - 3 = omega (arith, c.loop-cols.auto.cols) in
    let wide = one_wide c.args.rows c.args.count stream (cols - 3) c.loop-cols.widths c.in_ok-width.width c.loop-cols.invariant.0
    (subst (λ k. IsWidth c.args.rows k c.args.count stream c.in_ok-width.width) place
    (same_stream c.args.rows cols c.args.count last stream c.in_ok-width.width same c.in_ok-width.ensures.width)) in (
      subst (λ k. AreWidths c.args.rows c.args.count stream k c.push.new.self) count
          (subst (λ l. AreWidths c.args.rows c.args.count stream (cols - 3 + 1) l) (sym c.in_ok-push.ensures.ok) wide),
      λ low. subst (λ n. Draws (c.args.count * draw_count c.args.rows n) stream new) back
          (made_same (c.args.count * draw_count c.args.rows cols) last stream new same c.in_ok-width.ensures.rest),
      search rules,
      search rules,
    )
