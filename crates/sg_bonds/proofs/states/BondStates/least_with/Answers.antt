use Rattle.sg_bonds.proofs.Common.{◌≡◌, Option, pos, ap, ap₂, sym, ◌∙◌, subst, IfSome, bond_at, IsConnected, weight_of, Embedding}
use Rattle.sg_dual.specs.Dual.{dual_web}
use Rattle.sg_bonds.specs.Cost.{IsLeastWith}
use Rattle.sg_bonds.specs.JoinsWith.{breaks_with}
use Rattle.sg_bonds.specs.Turned.{HasBroken}
use Rattle.sg_bonds.specs.declared.states.WeighedEdges.{WeighedEdges}
use Rattle.sg_bonds.proofs.CostNumbers.{kept_unit, read_bond}
use Rattle.sg_bonds.proofs.states.BondStates.least_with.Goals as goal

pub broken_by-requires-clause-connected : goal.broken_by-requires-clause-connected
broken_by-requires-clause-connected c =
    subst (λ (p : Embedding). IsConnected p.instance) (sym (c.self-2.view_is ∙ c.join_with.ensures.same))
    (subst (λ (o : Option WeighedEdges). IfSome o (λ _. IsConnected c.args.self.now.instance)) c.in-Some.is c.in_ok-join.ensures.connected)

pub broken_by-requires-clause-weight : goal.broken_by-requires-clause-weight
broken_by-requires-clause-weight c =
    let old : Embedding = c.args.self.now in
    let j : WeighedEdges = c.in-Some.join in
    subst (λ (p : Embedding). j.weight ≡ pos (weight_of (dual_web p.instance p.faces) j.edges))
    (sym (c.self-2.view_is ∙ c.join_with.ensures.same))
    (subst (λ (o : Option WeighedEdges). IfSome o (λ (i : WeighedEdges). i.weight ≡ pos (weight_of (dual_web old.instance old.faces) i.edges)))
    c.in-Some.is c.in_ok-join.ensures.weight)

-- what the code reads of the bond
side : (c : goal.After-broken_by) → breaks_with (bond_at c.self-2.inside.planar.now.instance c.args.bond) c.args.wanted ≡ c.breaks-has.result
side c =
    let same : c.self.inside.planar.now ≡ c.self-2.inside.planar.now =
    c.self.view_is ∙ sym (c.self-2.view_is ∙ c.join_with.ensures.same) in
    let read : bond_at c.self-2.inside.planar.now.instance c.args.bond ≡ c.at.result.now =
    read_bond c.self-2.inside.planar.now.instance c.instance.result.now c.bonds.result.now c.args.bond c.at.result.now c.at.ensures c.bonds.ensures.value
    (c.instance.ensures.value ∙ ap (λ (p : Embedding). p.instance) same) in
    sym (c.breaks-has.ensures ∙ ap₂ breaks_with (sym read) (kept_unit c.args.wanted c.requires.up_or_down))

pub returns-clause-least : goal.returns-clause-least
returns-clause-least c =
    subst (λ (p : Embedding). IsLeastWith p.instance c.args.bond c.args.wanted c.broken_by.result.energy)
    (c.self-2.view_is ∙ c.join_with.ensures.same)
    (c.broken_by.ensures.least c.args.wanted c.requires.up_or_down (side c))

pub returns-clause-breaks : goal.returns-clause-breaks
returns-clause-breaks c =
    subst (λ (p : Embedding). HasBroken p.instance c.broken_by.result.energy c.broken_by.result.bonds)
    (c.self-2.view_is ∙ c.join_with.ensures.same) c.broken_by.ensures.breaks
