use Rattle.sg_bonds.proofs.Common.{Option, subst, IfSome, IsConnected, Embedding}
use Rattle.sg_bonds.specs.declared.states.Finder.{Finder}
use Rattle.sg_bonds.specs.JoinsWith.{IsDualOf}
use Rattle.sg_bonds.proofs.JoinStates.{always_found, dual_terminals}
use Rattle.sg_bonds.proofs.states.BondStates.join.Goals as goal

pub join_of-requires : goal.join_of-requires
join_of-requires c =
    let f = c.in-Some.finder in
    dual_terminals c.self.inside.planar.now f.judged.web f.judged.terminals
    (subst (λ (o : Option Finder). IfSome o (λ f. IsDualOf c.self.inside.planar.now f.judged.web f.judged.terminals)) c.in-Some.is c.self.invariant)

pub returns-clause-connected : goal.returns-clause-connected
returns-clause-connected c =
    let f = c.in-Some.finder in
    let dual : IsDualOf c.self.inside.planar.now f.judged.web f.judged.terminals =
    subst (λ (o : Option Finder). IfSome o (λ f. IsDualOf c.self.inside.planar.now f.judged.web f.judged.terminals)) c.in-Some.is c.self.invariant in
    always_found c.join_of.result (IsConnected c.args.self.now.instance)
    (subst (λ (p : Embedding). IsConnected p.instance) c.self.view_is dual.connected)
