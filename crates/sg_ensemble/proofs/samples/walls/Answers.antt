use Rattle.std.proofs.Common.{◌≡◌, ◌+◌, ◌*◌, ◌^◌, ◌≤◌, [], ◌∷◌, ◌++◌, sym, ◌∙◌, ap, subst, arith, to_z, of_z, w64, unsigned_abs}
use Rattle.std.proofs.lemmas.Int.{fits_signed_from_abs, to_z-of_z}
use Rattle.std.proofs.lemmas.List.Elements.{All-push}
use Rattle.sg_model.specs.Ising.{Ising}
use Rattle.sg_laws.specs.Stream.{Draws}
use Rattle.sg_ensemble.specs.Samples.{AreWalls, IsFitWithWall, draw_count}
use Rattle.sg_ensemble.proofs.DrawnWalls.{IsDrawn, all_behind, all_walls, counts_behind, just_behind, one_drawn, some_behind}
use Rattle.sg_ensemble.proofs.samples.walls.Goals as goal

pub loop-preserved : goal.loop-preserved
loop-preserved g c =
    let e = c.in_ok-sample.ensures in
    let here = c.in_ok-wall.ensures in
    let old = (goal.Disorder-dyn g (c.args.law.now.vtable, c.args.law.now.value)).next c.args.law.now.value in
    let mid = (goal.Disorder-dyn g (c.loop.law.vtable, c.loop.law.value)).next c.loop.law.value in
    let new = (goal.Disorder-dyn g (c.next_sample.new.law.vtable, c.next_sample.new.law.value)).next c.next_sample.new.law.value in
    let kept : to_z w64 (of_z w64 c.in_ok-wall.wall) ≡ c.in_ok-wall.wall =
    to_z-of_z w64 c.in_ok-wall.wall (fits_signed_from_abs w64 c.in_ok-wall.wall (omega (arith, here.size))) in
    let pushed : c.push.new.self ≡ c.loop.walls ++ c.in_ok-wall.wall ∷ [] = c.in_ok-push.ensures.ok ∙ ap (λ x. c.loop.walls ++ x ∷ []) kept in (
      subst (IsDrawn c.args.rows c.args.cols (c.loop.counter + 1) old new) (sym pushed)
          (one_drawn c.args.rows c.args.cols c.loop.counter old mid new c.loop.walls c.in_ok-wall.wall c.loop.invariant.0
          (c.loop.invariant.1 (draw_count c.args.rows c.args.cols)) e.rest.goes_on
          (subst (λ (i : Ising). IsFitWithWall i c.in_ok-wall.wall) e.sample here.wall)),
      counts_behind mid new (draw_count c.args.rows c.args.cols) c.loop.invariant.1 e.rest.goes_on,
      rw pushed (All-push (λ d. unsigned_abs d ≤ 2 ^ 33) c.loop.walls c.in_ok-wall.wall c.loop.invariant.2 here.size),
      e.title ∙ c.loop.invariant.3,
      λ s n. e.seeds s n ∙ c.loop.invariant.4 s n,
      record { couplings = mid (draw_count c.args.rows c.args.cols); drawn = e.sample },
    )

pub returns-clause-walls : goal.returns-clause-walls
returns-clause-walls g c =
    let end : c.args.count ≡ c.loop.counter = omega (arith, c.loop-test.false, c.loop.auto.counter-end) in
    let old = (goal.Disorder-dyn g (c.args.law.now.vtable, c.args.law.now.value)).next c.args.law.now.value in
    let new = (goal.Disorder-dyn g (c.loop.law.vtable, c.loop.law.value)).next c.loop.law.value in
    subst (λ n. AreWalls c.args.rows c.args.cols n (old (n * draw_count c.args.rows c.args.cols)) c.loop.walls) (sym end)
    (all_walls c.args.rows c.args.cols c.loop.counter old new c.loop.walls c.loop.invariant.0 c.loop.invariant.1)

pub returns-clause-rest : goal.returns-clause-rest
returns-clause-rest g c =
    let end : c.args.count ≡ c.loop.counter = omega (arith, c.loop-test.false, c.loop.auto.counter-end) in
    let old = (goal.Disorder-dyn g (c.args.law.now.vtable, c.args.law.now.value)).next c.args.law.now.value in
    let new = (goal.Disorder-dyn g (c.loop.law.vtable, c.loop.law.value)).next c.loop.law.value in
    subst (λ n. Draws (n * draw_count c.args.rows c.args.cols) old new) (sym end)
    (all_behind c.args.rows c.args.cols c.loop.counter old new c.loop.walls c.loop.invariant.0 c.loop.invariant.1)

pub returns-clause-made : goal.returns-clause-made
returns-clause-made g c =
    let end : c.args.count ≡ c.loop.counter = omega (arith, c.loop-test.false, c.loop.auto.counter-end) in
    let old = (goal.Disorder-dyn g (c.args.law.now.vtable, c.args.law.now.value)).next c.args.law.now.value in
    let new = (goal.Disorder-dyn g (c.loop.law.vtable, c.loop.law.value)).next c.loop.law.value in
    just_behind c.args.rows c.args.cols c.loop.counter old new c.loop.walls c.loop.invariant.0 c.loop.invariant.1 c.args.count (omega (arith, end))

pub returns-in_err-sample-clause-made : goal.returns-in_err-sample-clause-made
returns-in_err-sample-clause-made g c =
    let old = (goal.Disorder-dyn g (c.args.law.now.vtable, c.args.law.now.value)).next c.args.law.now.value in
    let mid = (goal.Disorder-dyn g (c.loop.law.vtable, c.loop.law.value)).next c.loop.law.value in
    let new = (goal.Disorder-dyn g (c.next_sample.new.law.vtable, c.next_sample.new.law.value)).next c.next_sample.new.law.value in
    some_behind c.args.rows c.args.cols c.loop.counter old mid c.loop.walls c.loop.invariant.0 c.loop.invariant.1 c.args.count new
    (omega (arith, c.loop-test.true)) c.next_sample.ensures.made

pub returns-in_err-wall-clause-made : goal.returns-in_err-wall-clause-made
returns-in_err-wall-clause-made g c =
    let old = (goal.Disorder-dyn g (c.args.law.now.vtable, c.args.law.now.value)).next c.args.law.now.value in
    let mid = (goal.Disorder-dyn g (c.loop.law.vtable, c.loop.law.value)).next c.loop.law.value in
    let new = (goal.Disorder-dyn g (c.next_sample.new.law.vtable, c.next_sample.new.law.value)).next c.next_sample.new.law.value in
    some_behind c.args.rows c.args.cols c.loop.counter old mid c.loop.walls c.loop.invariant.0 c.loop.invariant.1 c.args.count new
    (omega (arith, c.loop-test.true)) c.next_sample.ensures.made

pub returns-in_err-wall-clause-seeds : goal.returns-in_err-wall-clause-seeds
returns-in_err-wall-clause-seeds g c = λ s n. c.next_sample.ensures.seeds s n ∙ c.loop.invariant.4 s n

pub returns-in_err-push-clause-made : goal.returns-in_err-push-clause-made
returns-in_err-push-clause-made g c =
    let old = (goal.Disorder-dyn g (c.args.law.now.vtable, c.args.law.now.value)).next c.args.law.now.value in
    let mid = (goal.Disorder-dyn g (c.loop.law.vtable, c.loop.law.value)).next c.loop.law.value in
    let new = (goal.Disorder-dyn g (c.next_sample.new.law.vtable, c.next_sample.new.law.value)).next c.next_sample.new.law.value in
    some_behind c.args.rows c.args.cols c.loop.counter old mid c.loop.walls c.loop.invariant.0 c.loop.invariant.1 c.args.count new
    (omega (arith, c.loop-test.true)) c.next_sample.ensures.made

pub returns-in_err-push-clause-seeds : goal.returns-in_err-push-clause-seeds
returns-in_err-push-clause-seeds g c = λ s n. c.next_sample.ensures.seeds s n ∙ c.loop.invariant.4 s n
