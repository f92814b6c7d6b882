-- `advance`: an inner blossom of dual 0 is told at once, and else the steps up to one.
use Rattle.std.proofs.Common.{◌*◌, ◌≤◌, List, ap, arith, refl, subst, sym}
use Rattle.sg_match.proofs.Engine.advance.Goals as goal
use Rattle.sg_match.proofs.Engine.advance.Given.{Over}
use Rattle.sg_match.proofs.StageLemmas.{least-one, matched}
use Rattle.sg_match.specs.InnerZeros.{IsLeastInnerZero}
use Rattle.sg_match.specs.Engine.{IsEngine}
use Rattle.sg_match.specs.State.{State}
use Rattle.sg_match.specs.Steps.{steps_left}
use Rattle.sg_match.specs.declared.TreeEdge.{TreeEdge}
use Rattle.sg_match.specs.declared.Stage.TheVariants.{InnerZero}

inner_zero : (g : Over) (c : goal.In-Some g) → IsLeastInnerZero c.args.self.now.family c.args.self.now.edges c.in-Some.node
inner_zero g c =
    subst (λ (s : State). IsLeastInnerZero s.family s.edges c.in-Some.node) c.self.view_is
    (subst (λ (xs : List TreeEdge). IsLeastInnerZero c.self.inside.arena xs c.in-Some.node) c.deref.ensures.value c.in-Some.ensures.some)

pub returns-in-Some-clause-matched : goal.returns-in-Some-clause-matched
returns-in-Some-clause-matched g c =
    matched c.args.self.now (InnerZero c.in-Some.node) (subst (λ s. IsEngine s) c.self.view_is c.self.invariant.engine) (inner_zero g c)

pub returns-in-Some-clause-already : goal.returns-in-Some-clause-already
returns-in-Some-clause-already g c node least =
    (ap InnerZero (least-one c.args.self.now.family c.args.self.now.edges c.in-Some.node node (inner_zero g c) least), refl, refl)

pub returns-in-None-clause-matched : goal.returns-in-None-clause-matched
returns-in-None-clause-matched g c = matched c.proceed.new.self c.proceed.result c.proceed.ensures.engine c.proceed.ensures.stage

pub returns-in-None-clause-already : goal.returns-in-None-clause-already
returns-in-None-clause-already g c node least =
    let here = subst (λ (s : State). IsLeastInnerZero s.family s.edges node) (sym c.self.view_is) least in
    let listed = subst (λ (xs : List TreeEdge). IsLeastInnerZero c.self.inside.arena xs node) (sym c.deref.ensures.value) here in
    absurd (c.in-None.ensures.none node listed.inner_zero)

pub returns-in-Some-clause-bound : goal.returns-in-Some-clause-bound
returns-in-Some-clause-bound g c =
    subst (λ (s : State). steps_left s ≤ 2 * s.table.size * s.table.size) c.self.view_is (omega (arith, c.self.invariant.engine.left))

pub returns-in-None-clause-bound : goal.returns-in-None-clause-bound
returns-in-None-clause-bound g c =
    subst (λ (s : State). steps_left s ≤ 2 * s.table.size * s.table.size) c.self.view_is (omega (arith, c.self.invariant.engine.left))
