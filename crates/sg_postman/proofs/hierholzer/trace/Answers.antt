use Rattle.std.proofs.Common.{rules, ◌≡◌, ap, arith, cond, ℕ}
use Rattle.sg_postman.specs.Tracing.{left_of}
use Rattle.sg_postman.proofs.OpenEdges.{tried_none}
use Rattle.sg_postman.proofs.Tracings.{finished}
use Rattle.sg_postman.proofs.hierholzer.trace.Goals as goal

pub loop-going-init : goal.loop-going-init
loop-going-init c = record {
  tracing = search rules;
  tried =
      rw c.incidence.view_is (tried_none c.in_ok-incidence.incidence c.args.left.now c.in_ok-tried.tried.items c.nodes.result
      (c.in_ok-tried.ensures.items_if_clones_equal (λ y e. e)) (omega (arith, c.in_ok-incidence.ensures.count, c.nodes.ensures.value)));
  done = search rules;
}

pub advance-requires-clause-tried : goal.advance-requires-clause-tried
advance-requires-clause-tried c = rw c.incidence.view_is at c.loop-going.invariant.tried

pub loop-going-smaller : goal.loop-going-smaller
loop-going-smaller c =
    let before : cond {A = ℕ} c.loop-going.going 1 0 ≡ 1 = ap (λ b. cond {A = ℕ} b 1 0) c.loop-going-test.true in
    omega (arith, c.in_ok-going.ensures.falls, before)

pub loop-going-preserved : goal.loop-going-preserved
loop-going-preserved c = record {
  tracing = c.in_ok-going.ensures.tracing (left_of c.args.left.now) c.loop-going.invariant.tracing;
  tried = rw c.incidence.view_is c.in_ok-going.ensures.tried;
  done = c.in_ok-going.ensures.done;
}

pub returns : goal.returns
returns c =
    let end = c.loop-going.invariant.done c.loop-going-test.false in
    finished c.args.web.now c.nodes.ensures.web (left_of c.args.left.now) c.loop-going.left c.loop-going.back.items c.requires.connected c.requires.some
    (rw end.0 at c.loop-going.invariant.tracing) end.1
