use Rattle.std.proofs.Common.{◌≡◌, ◌∙◌, ◌≤◌, ◌^◌, length, ap, sym, subst, arith, All}
use Rattle.sg_model.specs.Energy.{weight}
use Rattle.sg_model.specs.Changes.{with_couplings}
use Rattle.sg_laws.specs.Stream.{Draws, IsDraw}
use Rattle.sg_lattice.specs.declared.kind.Kind.TheVariants.{Cylinder}
use Rattle.sg_lattice.specs.Tables.{lattice}
use Rattle.sg_planar.specs.Fit.{Embedding}
use Rattle.sg_ensemble.specs.Samples.{DrawsSamples, draw_count}
use Rattle.sg_ensemble.proofs.DrawnWalls.{none_of, one_of}
use Rattle.sg_ensemble.proofs.OneDrawing.{cylinder_again, cylinder_bonds, cylinder_light}
use Rattle.sg_ensemble.proofs.drawing.next_sample.Goals as goal

pub with_couplings-requires-clause-count : goal.with_couplings-requires-clause-count
with_couplings-requires-clause-count g c =
    ap length c.from_vec-couplings.ensures ∙ c.in_ok-drawn.ensures.count ∙ c.draw_total.ensures
    ∙ sym (cylinder_bonds c.args.rows c.args.cols c.args.drawing.instance c.requires.cylinder c.requires.size)

pub with_couplings-requires-clause-sum : goal.with_couplings-requires-clause-sum
with_couplings-requires-clause-sum g c =
    let j = c.from_vec-couplings.result in
    let count : length j ≡ draw_count c.args.rows c.args.cols = ap length c.from_vec-couplings.ensures ∙ c.in_ok-drawn.ensures.count
    ∙ c.draw_total.ensures in
    let range : All IsDraw j = subst (All IsDraw) (sym c.from_vec-couplings.ensures) c.in_ok-drawn.ensures.range in
    let light : weight (with_couplings c.args.drawing.instance j) ≤ 2 ^ 32 =
    cylinder_light c.args.rows c.args.cols c.args.drawing.instance c.requires.cylinder c.requires.size j count range in
    omega (arith, light)

pub returns-in_err-drawn-clause-made : goal.returns-in_err-drawn-clause-made
returns-in_err-drawn-clause-made g c =
    let old = (goal.Disorder-dyn g (c.args.law.now.vtable, c.args.law.now.value)).next c.args.law.now.value in
    subst (λ l. DrawsSamples c.args.rows c.args.cols 1 old ((goal.Disorder-dyn g (l.vtable, l.value)).next l.value)) (sym c.in_err-drawn.ensures.kept)
    (none_of c.args.rows c.args.cols 1 old c.know_counts.ensures)

pub returns-clause-made : goal.returns-clause-made
returns-clause-made g c =
    let old = (goal.Disorder-dyn g (c.args.law.now.vtable, c.args.law.now.value)).next c.args.law.now.value in
    let new = (goal.Disorder-dyn g (c.draws.new.law.vtable, c.draws.new.law.value)).next c.draws.new.law.value in
    one_of c.args.rows c.args.cols old new (subst (λ n. Draws n old new) c.draw_total.ensures c.in_ok-drawn.ensures.rest)

pub returns-clause-sample : goal.returns-clause-sample
returns-clause-sample g c =
    let stream = (goal.Disorder-dyn g (c.args.law.now.vtable, c.args.law.now.value)).next c.args.law.now.value in
    ap (λ (p : Embedding). p.instance) c.with_couplings.ensures.value
    ∙ cylinder_again c.args.rows c.args.cols c.args.drawing.instance c.requires.cylinder c.from_vec-couplings.result
    ∙ ap (lattice Cylinder c.args.rows c.args.cols) (c.from_vec-couplings.ensures ∙ c.in_ok-drawn.ensures.drawn ∙ ap stream c.draw_total.ensures)

pub returns-clause-small : goal.returns-clause-small
returns-clause-small g c =
    let j = c.from_vec-couplings.result in
    let count : length j ≡ draw_count c.args.rows c.args.cols = ap length c.from_vec-couplings.ensures ∙ c.in_ok-drawn.ensures.count
    ∙ c.draw_total.ensures in
    let range : All IsDraw j = subst (All IsDraw) (sym c.from_vec-couplings.ensures) c.in_ok-drawn.ensures.range in
    subst (λ (p : Embedding). weight p.instance ≤ 2 ^ 32) (sym c.with_couplings.ensures.value)
    (cylinder_light c.args.rows c.args.cols c.args.drawing.instance c.requires.cylinder c.requires.size j count range)
