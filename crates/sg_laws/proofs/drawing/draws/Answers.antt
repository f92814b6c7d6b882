use Rattle.std.proofs.Common.{rules, ◌≡◌, ◌∙◌, sym, subst, arith, w64, to_z-of_z}
use Rattle.std.proofs.lemmas.List.Elements.{All-push}
use Rattle.sg_laws.specs.Stream.{Draws, IsDraw}
use Rattle.sg_laws.proofs.Streams.{one_more, one_fewer, all_found, all_made}
use Rattle.sg_laws.proofs.drawing.draws.Goals as goal

pub loop-preserved : goal.loop-preserved
loop-preserved g c =
    let e = c.next_draw-value.ensures in
    let value = to_z-of_z {w = w64} {z = c.next_draw-value.result} (search rules) in
    let last = (goal.Disorder-dyn g (c.args.law.now.vtable, c.args.law.now.value)).next c.args.law.now.value in (
      λ n. one_more last _ _ c.loop.found.items c.push_reserved.new.self.items c.next_draw-value.result c.loop.counter n c.loop.invariant.0 e.stream
          (rw value at c.push_reserved.ensures.items),
      λ n. one_fewer _ _ _ n c.loop.invariant.1 e.stream,
      search rules,
      search rules,
      rw (rw value at c.push_reserved.ensures.items) (All-push IsDraw c.loop.found.items c.next_draw-value.result c.loop.invariant.4 e.range),
      e.title ∙ c.loop.invariant.5,
      λ s n. e.seeds s n ∙ c.loop.invariant.6 s n,
    )

pub returns-clause-drawn : goal.returns-clause-drawn
returns-clause-drawn g c =
    let end : c.args.count ≡ c.loop.counter = omega (arith, c.loop-test.false, c.loop.auto.counter-end) in
    let old = (goal.Disorder-dyn g (c.args.law.now.vtable, c.args.law.now.value)).next c.args.law.now.value in
    let last = (goal.Disorder-dyn g (c.loop.law.vtable, c.loop.law.value)).next c.loop.law.value in
    rw end (sym (all_found old last c.loop.found.items c.loop.counter c.loop.invariant.0 c.loop.invariant.1))

pub returns-clause-rest : goal.returns-clause-rest
returns-clause-rest g c =
    let end : c.args.count ≡ c.loop.counter = omega (arith, c.loop-test.false, c.loop.auto.counter-end) in
    let old = (goal.Disorder-dyn g (c.args.law.now.vtable, c.args.law.now.value)).next c.args.law.now.value in
    let last = (goal.Disorder-dyn g (c.loop.law.vtable, c.loop.law.value)).next c.loop.law.value in
    subst (λ n. Draws n old last) (sym end)
    (all_made old last c.loop.found.items c.loop.counter c.loop.invariant.0 c.loop.invariant.1 c.loop.invariant.2)
