use Rattle.std.proofs.Common.{◌≡◌, ◌<◌, ℕ, List, map, get_or, sym, ◌∙◌, ap, subst, arith, All}
use Rattle.std.proofs.lemmas.List.Elements.{All-from_get_or}
use Rattle.sg_model.specs.Ising.{bond_at, bond_count}
use Rattle.sg_model.specs.Rotation.{darts_of}
use Rattle.sg_model.specs.WellFormed.{IsInstance}
use Rattle.sg_planar.specs.Parts.{restricted}
use Rattle.sg_planar.specs.Splitting.{placed_bond, placed_darts}
use Rattle.sg_planar.proofs.Places.{holds_entry}
use Rattle.sg_planar.proofs.RestrictedParts.{part_instance}
use Rattle.sg_planar.proofs.PartPlaces.{part_assembled}
use Rattle.sg_planar.proofs.components.part_instance.Goals as goal
use Rattle.sg_planar.proofs.components.part_instance.Goals.{After-new}

pub placed_bonds-requires-clause-below : goal.placed_bonds-requires-clause-below
placed_bonds-requires-clause-below c =
    subst (λ (xs : List ℕ). All (λ k. k < bond_count c.args.inst.now) xs) (sym c.as_slice.ensures)
    (All-from_get_or (λ k. k < bond_count c.args.inst.now) c.args.bonds.now 0
    (λ j b. c.requires.closed.bonds_below (get_or c.args.bonds.now j 0) (holds_entry c.args.bonds.now j b)))

pub placed_rotation-requires-clause-spins : goal.placed_rotation-requires-clause-spins
placed_rotation-requires-clause-spins c =
    subst (λ (xs : List ℕ). All (λ x. x < c.args.inst.now.n) xs) (sym c.as_slice-2.ensures)
    (All-from_get_or (λ x. x < c.args.inst.now.n) c.args.spins.now 0
    (λ j b. c.requires.closed.spins_below (get_or c.args.spins.now j 0) (holds_entry c.args.spins.now j b)))

pub overflow_cast-len : goal.overflow_cast-len
overflow_cast-len c =
    let i : IsInstance (restricted c.args.inst.now c.args.spins.now c.args.bonds.now) =
    part_instance c.args.inst.now c.requires.instance c.args.spins.now c.args.bonds.now c.requires.closed in
    omega arith

-- the part as it is defined
whole : (c : After-new) →
    record { n = c.len.result; bonds = c.in_ok-list.list; rotation = c.in_ok-rotation.rotation; seam = c.new.result } ≡
    restricted c.args.inst.now c.args.spins.now c.args.bonds.now
whole c =
    part_assembled c.args.inst.now c.requires.instance c.args.spins.now c.args.bonds.now c.requires.closed c.args.spin_places.now c.args.bond_places.now
    c.requires.spin_places c.requires.bond_places c.len.result c.in_ok-list.list c.in_ok-rotation.rotation c.new.result c.len.ensures
    (c.in_ok-list.ensures ∙ ap (map (λ k. placed_bond c.args.spin_places.now (bond_at c.args.inst.now k))) c.as_slice.ensures)
    (c.in_ok-rotation.ensures ∙ ap (map (λ x. placed_darts c.args.bond_places.now (darts_of c.args.inst.now x))) c.as_slice-2.ensures)
    c.new.ensures

pub of_parts-requires : goal.of_parts-requires
of_parts-requires c = grind (arith, whole, part_instance)

pub returns : goal.returns
returns c = c.of_parts.ensures ∙ whole (goal.at.returns c).After-new
