-- `expand`: a ring is listed, expanded, paired and grown into the tree.
use Rattle.std.proofs.Common.{None, ◌≡◌, ◌+◌, ◌*◌, ◌%◌, ◌≤◌, List, length, Contains, sym, ap, ◌∙◌, subst, arith, rules}
use Rattle.std.proofs.lemmas.List.{with_items_is}
use Rattle.std.specs.Vec.{with_items}
use Rattle.sg_arena.proofs.FamilyLemmas.{length-with_slot}
use Rattle.sg_arena.specs.Family.{Family}
use Rattle.sg_arena.specs.declared.Link.{Link}
use Rattle.sg_match.proofs.Engine.expand.Given.{Over}
use Rattle.sg_match.proofs.Engine.expand.Goals as goal
use Rattle.sg_match.proofs.Engine.expand.Goals.{After-turn_to_odd-entry, After-index-tree_edge, After-list_ring, After-expand_edge}
use Rattle.sg_match.proofs.EngineLemmas.{state_of}
use Rattle.sg_match.proofs.RingLemmas.{IsRing}
use Rattle.sg_match.proofs.ExpandLemmas.{IsCut, IsEngine-after, IsFound, blossom_top, pair_held, cut, edge_held, found, is_inner, edges_fit, ring_differs}
use Rattle.sg_match.proofs.ExpandLemmas.{ring_fits, ring_has, ring_is, ring_named}
use Rattle.sg_match.specs.InnerZeros.{IsInnerZero}
use Rattle.sg_match.specs.Engine.{IsEngine}
use Rattle.sg_slack.specs.Metric.{cost}
use Rattle.sg_match.specs.Path.{nodes_of}
use Rattle.sg_match.specs.State.{State}
use Rattle.sg_match.specs.Steps.{steps_left}
use Rattle.sg_match.specs.Tree.{inners}

-- the tree edge of the blossom
edge_found : (g : Over) (c : After-index-tree_edge g) → IsFound (state_of c.self.inside) c.args.node c.place_of_inner-at.result c.index-tree_edge.result.now
edge_found g c = found (state_of c.self.inside) c.args.self.now c.args.node c.place_of_inner-at.result c.deref.result.now c.index-tree_edge.result.now
    c.self.view_is c.self.invariant.engine c.requires.inner_zero c.deref.ensures.value c.place_of_inner-at.ensures.within c.place_of_inner-at.ensures.here
    c.index-tree_edge.ensures

-- the blossom's ring, with its entry
ring_cut : (g : Over) (c : After-turn_to_odd-entry g) →
    IsFound (state_of c.self.inside) c.args.node c.place_of_inner-at.result c.index-tree_edge.result.now →
    IsCut (state_of c.self.inside) c.args.node c.place_of_inner-at.result c.index-tree_edge.result.now c.turn_to_odd-entry.new.ring.items
    c.turn_to_odd-entry.result
ring_cut g c is = cut (state_of c.self.inside) c.args.node c.place_of_inner-at.result c.index-tree_edge.result.now c.child-base.result c.child-end.result
    c.list_ring.new.ring.items c.deref-2.result.now c.place_of-place.result c.turn_to_odd-entry.new.ring.items c.turn_to_odd-entry.result is
    c.child-base.ensures.child c.child-base.ensures.holds c.list_ring.ensures.items c.child-end.ensures.holds c.deref-2.ensures.value
    c.place_of-place.ensures.within c.place_of-place.ensures.here c.turn_to_odd-entry.ensures.turned_ring c.turn_to_odd-entry.ensures.odd

-- the state at the end
abbrev last : (g : Over) (c : After-expand_edge g) → State
last g c = record (state_of c.self.inside) {
  family = c.expand.new.self;
  pairs = (with_items c.self.inside.pairs c.pair_ring.new.pairs).items;
  edges = c.expand_edge.new.edges.items;
}

expanding : (g : Over) (c : After-expand_edge g) →
    IsCut (state_of c.self.inside) c.args.node c.place_of_inner-at.result c.index-tree_edge.result.now c.turn_to_odd-entry.new.ring.items
    c.turn_to_odd-entry.result → IsEngine (last g c) × (steps_left (last g c) + 2 ≤ steps_left (state_of c.self.inside))
expanding g c expand =
    let stored = with_items_is c.self.inside.pairs c.pair_ring.new.pairs (c.pair_ring.ensures.length ∙ c.deref_mut.ensures.len) in
    IsEngine-after expand c.deref-3.result.now c.deref-4.result.now c.deref_mut.result.now c.pair_ring.new.pairs
    (with_items c.self.inside.pairs c.pair_ring.new.pairs).items c.expand_edge.new.edges.items c.expand.new.self c.deref-3.ensures.value
    c.deref-4.ensures.value c.deref_mut.ensures.value stored c.expand.ensures.gone c.pair_ring.ensures.ring_pairs c.pair_ring.ensures.length
    c.expand_edge.ensures.edges

pub place_of_inner-at-requires : goal.place_of_inner-at-requires
place_of_inner-at-requires g c =
    let s = state_of c.self.inside in
    let inner_zero = subst (λ (t : State). IsInnerZero t.family t.edges c.args.node) (sym c.self.view_is) c.requires.inner_zero in
    subst (λ xs. Contains (inners xs) c.args.node) (sym c.deref.ensures.value) (is_inner s c.args.node c.self.invariant.engine inner_zero)

pub child-base-requires-clause-holds : goal.child-base-requires-clause-holds
child-base-requires-clause-holds g c = pair_held (edge_found g (goal.at.child-base-requires-clause-holds g c).After-index-tree_edge)

pub child-end-requires-clause-holds : goal.child-end-requires-clause-holds
child-end-requires-clause-holds g c = edge_held (edge_found g (goal.at.child-end-requires-clause-holds g c).After-index-tree_edge)

pub place_of-place-requires : goal.place_of-place-requires
place_of-place-requires g c =
    let is = edge_found g (goal.at.place_of-place-requires g c).After-index-tree_edge in
    subst (λ xs. Contains (nodes_of xs) c.child-end.result) (sym c.deref-2.ensures.value)
    (ring_has (state_of c.self.inside) c.args.node is.engine is.inner_zero c.child-base.result c.child-base.ensures.child c.list_ring.new.ring.items
    c.list_ring.ensures.items c.child-end.result c.child-end.ensures.child)

listed : (g : Over) (c : After-list_ring g) → IsFound (state_of c.self.inside) c.args.node c.place_of_inner-at.result c.index-tree_edge.result.now →
    IsRing c.self.inside.arena (cost c.self.inside.near.table) c.args.node c.list_ring.new.ring.items
listed g c is = ring_is (state_of c.self.inside) c.args.node is.engine is.inner_zero c.child-base.result c.child-base.ensures.child
    c.list_ring.new.ring.items c.list_ring.ensures.items

pub turn_to_odd-entry-requires-clause-odd : goal.turn_to_odd-entry-requires-clause-odd
turn_to_odd-entry-requires-clause-odd g c =
    let here = goal.at.turn_to_odd-entry-requires-clause-odd g c in
    (listed g here.After-list_ring (edge_found g here.After-index-tree_edge)).cycle.odd

pub turn_to_odd-entry-requires-clause-room : goal.turn_to_odd-entry-requires-clause-room
turn_to_odd-entry-requires-clause-room g c =
    let here = goal.at.turn_to_odd-entry-requires-clause-room g c in
    let is = edge_found g here.After-index-tree_edge in
    omega (
      arith,
      edges_fit (state_of c.self.inside) c.args.node is.engine is.inner_zero c.list_ring.new.ring.items (listed g here.After-list_ring is),
      c.self.invariant.ring,
    )

pub expand-requires-clause-top : goal.expand-requires-clause-top
expand-requires-clause-top g c =
    let is = edge_found g (goal.at.expand-requires-clause-top g c).After-index-tree_edge in
    blossom_top (state_of c.self.inside) c.args.node is.engine is.inner_zero

pub pair_ring-requires-clause-names : goal.pair_ring-requires-clause-names
pair_ring-requires-clause-names g c =
    let here = goal.at.pair_ring-requires-clause-names g c in
    ring_named (ring_cut g here.After-turn_to_odd-entry (edge_found g here.After-index-tree_edge)) c.deref-3.result.now c.deref_mut.result.now
    c.deref-3.ensures.value c.deref_mut.ensures.value

pub pair_ring-requires-clause-odd : goal.pair_ring-requires-clause-odd
pair_ring-requires-clause-odd g c =
    let here = goal.at.pair_ring-requires-clause-odd g c in
    subst (λ (xs : List Link). length xs % 2 ≡ 1) (sym c.deref-3.ensures.value)
    (ring_cut g here.After-turn_to_odd-entry (edge_found g here.After-index-tree_edge)).is.cycle.odd

pub pair_ring-requires-clause-differ : goal.pair_ring-requires-clause-differ
pair_ring-requires-clause-differ g c =
    let here = goal.at.pair_ring-requires-clause-differ g c in
    ring_differs (ring_cut g here.After-turn_to_odd-entry (edge_found g here.After-index-tree_edge)) c.deref-3.result.now c.deref-3.ensures.value

pub expand_edge-requires-clause-room : goal.expand_edge-requires-clause-room
expand_edge-requires-clause-room g c =
    let here = goal.at.expand_edge-requires-clause-room g c in
    omega (
      arith,
      ring_fits (ring_cut g here.After-turn_to_odd-entry (edge_found g here.After-index-tree_edge)),
      ap (λ xs. length xs) c.deref-4.ensures.value,
      c.self.invariant.edges,
    )

pub invariant_of-self : goal.invariant_of-self
invariant_of-self g c =
    let here = goal.at.invariant_of-self g c in
    let after = expanding g here.After-expand_edge (ring_cut g here.After-turn_to_odd-entry (edge_found g here.After-index-tree_edge)) in
    let e = c.self.inside in
    let kept = c.self.invariant in
    let size : length c.expand.new.self.nodes ≡ length e.arena.nodes = ap (λ (f : Family). length f.nodes) c.expand.ensures.gone ∙
    length-with_slot e.arena c.args.node None in
    let leaves : length c.expand.new.self.leaf_nodes ≡ length e.arena.leaf_nodes = ap (λ (f : Family). length f.leaf_nodes) c.expand.ensures.gone in
    let rooms = c.turn_to_odd-entry.ensures.room (2 * length e.arena.nodes + 1) (omega (arith, kept.cycle, c.list_ring.ensures.capacity)) kept.ring in
    let engine = after.0 in
    search rules

pub returns-clause-engine : goal.returns-clause-engine
returns-clause-engine g c =
    let here = goal.at.returns-clause-engine g c in
    let after = expanding g here.After-expand_edge (ring_cut g here.After-turn_to_odd-entry (edge_found g here.After-index-tree_edge)) in
    after.0

pub returns-clause-less : goal.returns-clause-less
returns-clause-less g c =
    let here = goal.at.returns-clause-less g c in
    let after = expanding g here.After-expand_edge (ring_cut g here.After-turn_to_odd-entry (edge_found g here.After-index-tree_edge)) in
    subst (λ t. steps_left (last g here.After-expand_edge) + 2 ≤ steps_left t) c.self.view_is after.1

pub returns-clause-alike : goal.returns-clause-alike
returns-clause-alike g c = omega (arith, c.expand.ensures.taken, c.expand.ensures.counted, ap (λ (s : State). s.family.steps) c.self.view_is)
