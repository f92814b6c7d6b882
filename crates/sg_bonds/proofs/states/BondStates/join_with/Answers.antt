use Rattle.sg_bonds.proofs.Common.{◌≡◌, ◌∙◌, Option, pos, ap, subst, arith, IfOk, IfSome, bond_count, IsConnected, Graph, weight_of, Embedding}
use Rattle.sg_dual.specs.Dual.{dual_web}
use Rattle.sg_bonds.specs.declared.states.Finder.{Finder}
use Rattle.sg_bonds.specs.declared.states.WeighedEdges.{WeighedEdges}
use Rattle.sg_bonds.specs.JoinsWith.{IsDualOf}
use Rattle.sg_bonds.proofs.JoinStates.{always_found, dual_edges, dual_light, dual_terminals}
use Rattle.sg_bonds.proofs.states.BondStates.join_with.Goals as goal

pub weighed_join_with-requires-clause-edge : goal.weighed_join_with-requires-clause-edge
weighed_join_with-requires-clause-edge c =
    let f = c.in-Some.finder in
    let dual : IsDualOf c.self.inside.planar.now f.judged.web f.judged.terminals =
    subst (λ (o : Option Finder). IfSome o (λ f. IsDualOf c.self.inside.planar.now f.judged.web f.judged.terminals)) c.in-Some.is c.self.invariant in
    omega (
      arith,
      c.requires.bond_in,
      ap (λ (p : Embedding). bond_count p.instance) c.self.view_is,
      dual_edges c.self.inside.planar.now f.judged.web f.judged.terminals dual,
    )

pub weighed_join_with-requires-clause-terminals : goal.weighed_join_with-requires-clause-terminals
weighed_join_with-requires-clause-terminals c =
    let f = c.in-Some.finder in
    dual_terminals c.self.inside.planar.now f.judged.web f.judged.terminals
    (subst (λ (o : Option Finder). IfSome o (λ f. IsDualOf c.self.inside.planar.now f.judged.web f.judged.terminals)) c.in-Some.is c.self.invariant)

pub weighed_join_with-requires-clause-light : goal.weighed_join_with-requires-clause-light
weighed_join_with-requires-clause-light c =
    let f = c.in-Some.finder in
    dual_light c.self.inside.planar.now f.judged.web f.judged.terminals
    (subst (λ (o : Option Finder). IfSome o (λ f. IsDualOf c.self.inside.planar.now f.judged.web f.judged.terminals)) c.in-Some.is c.self.invariant)

pub returns-clause-connected : goal.returns-clause-connected
returns-clause-connected c =
    let f = c.in-Some.finder in
    let dual : IsDualOf c.self.inside.planar.now f.judged.web f.judged.terminals =
    subst (λ (o : Option Finder). IfSome o (λ f. IsDualOf c.self.inside.planar.now f.judged.web f.judged.terminals)) c.in-Some.is c.self.invariant in
    always_found c.weighed_join_with.result (IsConnected c.args.self.now.instance)
    (subst (λ (p : Embedding). IsConnected p.instance) c.self.view_is dual.connected)

pub returns-clause-weight : goal.returns-clause-weight
returns-clause-weight c =
    let f = c.in-Some.finder in
    let dual : IsDualOf c.self.inside.planar.now f.judged.web f.judged.terminals =
    subst (λ (o : Option Finder). IfSome o (λ f. IsDualOf c.self.inside.planar.now f.judged.web f.judged.terminals)) c.in-Some.is c.self.invariant in
    let same : f.judged.web ≡ dual_web c.args.self.now.instance c.args.self.now.faces =
    dual.web ∙ ap (λ (p : Embedding). dual_web p.instance p.faces) c.self.view_is in
    subst (λ (g : Graph). IfOk c.weighed_join_with.result (λ (o : Option WeighedEdges). IfSome o (λ (j : WeighedEdges). j.weight ≡ pos (weight_of g j.edges))))
    same c.weighed_join_with.ensures.weight
