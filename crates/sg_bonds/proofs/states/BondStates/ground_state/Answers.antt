use Rattle.sg_bonds.proofs.Common.{◌≡◌, Option, List, ℕ, sym, ◌∙◌, subst, IfSome, IsConnected, IsGroundState, Embedding}
use Rattle.sg_graph.specs.Join.{IsJoin, IsLeastJoin}
use Rattle.sg_dual.specs.Dual.{dual_web, frustrated_faces}
use Rattle.sg_ground.proofs.BrokenJoins.{ground_by_join}
use Rattle.sg_bonds.proofs.states.BondStates.ground_state.Goals as goal

pub state_breaking-requires-clause-connected : goal.state_breaking-requires-clause-connected
state_breaking-requires-clause-connected c =
    subst (λ (p : Embedding). IsConnected p.instance) (sym (c.self.view_is ∙ c.join.ensures.same))
    (subst (λ (o : Option (List ℕ)). IfSome o (λ _. IsConnected c.args.self.now.instance)) c.in-Some.is c.in_ok-edges.ensures.connected)

pub state_breaking-requires-clause-join : goal.state_breaking-requires-clause-join
state_breaking-requires-clause-join c =
    let old : Embedding = c.args.self.now in
    let least : IsLeastJoin (dual_web old.instance old.faces) (frustrated_faces old.instance old.faces) c.in-Some.edges =
    subst (λ (o : Option (List ℕ)). IfSome o (IsLeastJoin (dual_web old.instance old.faces) (frustrated_faces old.instance old.faces)))
    c.in-Some.is c.in_ok-edges.ensures.least in
    subst (λ (p : Embedding). IsJoin (dual_web p.instance p.faces) (frustrated_faces p.instance p.faces) c.in-Some.edges)
    (sym (c.self.view_is ∙ c.join.ensures.same)) least.join

pub returns-clause-ground_state : goal.returns-clause-ground_state
returns-clause-ground_state c =
    let old : Embedding = c.args.self.now in
    let same : c.self.inside.planar.now ≡ old = c.self.view_is ∙ c.join.ensures.same in
    let edges : List ℕ = c.in-Some.edges in
    let least : IsLeastJoin (dual_web old.instance old.faces) (frustrated_faces old.instance old.faces) edges =
    subst (λ (o : Option (List ℕ)). IfSome o (IsLeastJoin (dual_web old.instance old.faces) (frustrated_faces old.instance old.faces)))
    c.in-Some.is c.in_ok-edges.ensures.least in
    let p : Embedding = c.self.inside.planar.now in
    let planar = c.in_ok-state_breaking.ensures.planar in
    subst (λ (p : Embedding). IsGroundState p.instance c.in_ok-state_breaking.field-0.spins) same
    (ground_by_join p.instance p.faces planar.instance planar.faces c.in_ok-state_breaking.field-0.spins edges
    c.in_ok-state_breaking.ensures.assignment c.in_ok-state_breaking.ensures.breaks
    (subst (λ (p : Embedding). IsLeastJoin (dual_web p.instance p.faces) (frustrated_faces p.instance p.faces) edges) (sym same) least))
