use Rattle.std.proofs.Common.{◌≡◌, ◌∙◌, eq-eqb, length, subst, sym, eqb-true}
use Rattle.sg_model.specs.Connected.{IsConnected}
use Rattle.sg_planar.proofs.ComponentLaws.{connected_from_one, one_from_connected}
use Rattle.sg_planar.specs.Fit.{Embedding}
use Rattle.sg_planar.proofs.planar.Planar.is_connected.Goals as goal

pub returns : goal.returns
returns c =
    let inst = c.self.inside.instance in
    let names = c.self.inside.components.names in
    let leasts = c.self.inside.components.leasts in
    let some = c.self.invariant.0.instance.draft.has_spin in
    let counted : c.len.result ≡ length leasts = c.len.ensures in (
      λ one. subst (λ (p : Embedding). IsConnected p.instance) c.self.view_is
          (connected_from_one inst names leasts c.self.invariant.1 some (sym counted ∙ eqb-true c.len.result 1 one)),
      λ whole. eq-eqb c.len.result 1 (counted ∙ one_from_connected inst names leasts c.self.invariant.1 some
          (subst (λ (p : Embedding). IsConnected p.instance) (sym c.self.view_is) whole)),
    )
