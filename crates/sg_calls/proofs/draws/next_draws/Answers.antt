use Rattle.std.proofs.Common.{rules, ◌≡◌, sym, arith, w64, to_z-of_z}
use Rattle.sg_laws.proofs.Streams.{one_more, one_fewer, all_found}
use Rattle.sg_calls.proofs.draws.next_draws.Goals as goal

pub loop-preserved : goal.loop-preserved
loop-preserved g c =
    let told = c.draw-value.ensures in
    let value = to_z-of_z {w = w64} {z = c.draw-value.result} (search rules) in (
      λ n. one_more (g.L.Disorder.next c.args.law.now) _ _ c.loop.found.items c.push_reserved.new.self.items c.draw-value.result c.loop.counter n
          c.loop.invariant.0 told.stream (rw value at c.push_reserved.ensures.items),
      λ n. one_fewer _ _ _ n c.loop.invariant.1 told.stream,
      search rules,
      search rules,
    )

pub returns : goal.returns
returns g c =
    let end : c.args.count ≡ c.loop.counter = omega (arith, c.loop-test.false, c.loop.auto.counter-end) in
    rw end (sym (all_found (g.L.Disorder.next c.args.law.now) (g.L.Disorder.next c.loop.law) c.loop.found.items c.loop.counter
    c.loop.invariant.0 c.loop.invariant.1))
