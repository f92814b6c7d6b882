-- `shrink`: a cycle is shrunk, and its tree edges go.
use Rattle.std.proofs.Common.{◌≡◌, ◌+◌, ◌<◌, ◌≤◌, ℕ, Some, length, set, sym, ap, ◌∙◌, subst, arith, rules}
use Rattle.std.proofs.lemmas.Grind.{common_steps}
use Rattle.sg_arena.proofs.FamilyLemmas.{length-with_slot, name_bound}
use Rattle.sg_arena.specs.Changes.{CanShrink, blossom_of, with_slot}
use Rattle.sg_arena.specs.Family.{Family, leaf_count}
use Rattle.sg_match.proofs.ShrinkStep.{all_tight, base_low, can, shrunk}
use Rattle.sg_match.proofs.EngineLemmas.{state_of, tree_of}
use Rattle.sg_match.proofs.TreeLemmas.{pair_leaf, up_leaf, edge_room}
use Rattle.sg_match.proofs.Engine.shrink.Given.{Over}
use Rattle.sg_match.proofs.Engine.shrink.Goals as goal
use Rattle.sg_match.proofs.Engine.shrink.Goals.{After-find_cycle-base, After-self}
use Rattle.sg_match.specs.Engine.{IsEngine}
use Rattle.sg_match.specs.Events.{IsTightOuterOuter}
use Rattle.sg_slack.specs.Metric.{cost}
use Rattle.sg_match.specs.Path.{AreTight}
use Rattle.sg_match.specs.TreeCycle.{HasTight, IsTreeCycle}
use Rattle.sg_match.specs.State.{State}
use Rattle.sg_match.specs.Steps.{steps_left}
use Rattle.sg_match.specs.Tree.{IsShape, IsTree, tree_edge_at}

rooted : (g : Over) (c : After-self g) → c.self.inside.root ≡ Some c.args.root
rooted g c = ap (λ (s : State). s.root) c.self.view_is ∙ c.requires.root

tree : (g : Over) (c : After-self g) → IsTree c.self.inside.arena (cost c.self.inside.near.table) c.self.inside.pairs.items c.args.root
    c.self.inside.edges.items
tree g c = tree_of (state_of c.self.inside) c.self.invariant.engine c.args.root (rooted g c)

-- the cycle over the list of tree edges itself
cycle_found : (g : Over) (c : After-find_cycle-base g) →
    (place : ℕ) × IsTreeCycle c.self.inside.arena c.args.root c.self.inside.edges.items c.find_cycle-base.new.cycle.items place c.find_cycle-base.result
    c.find_cycle-base.result
cycle_found g c =
    let at = c.find_cycle-base.ensures.find_cycle in (
      at.0,
      subst (λ xs. IsTreeCycle c.self.inside.arena c.args.root xs c.find_cycle-base.new.cycle.items at.0 c.find_cycle-base.result
          c.find_cycle-base.result) c.deref.ensures.value at.1,
    )

pub find_cycle-base-requires-clause-shape : goal.find_cycle-base-requires-clause-shape
find_cycle-base-requires-clause-shape g c =
    subst (λ xs. IsShape c.self.inside.arena c.args.root xs) (sym c.deref.ensures.value)
    (tree g (goal.at.find_cycle-base-requires-clause-shape g c).After-self).shape

pub find_cycle-base-requires-clause-apart : goal.find_cycle-base-requires-clause-apart
find_cycle-base-requires-clause-apart g c = (subst (λ s. IsTightOuterOuter s c.args.root c.args.u c.args.v) (sym c.self.view_is) c.requires.tight_edge).apart

pub find_cycle-base-requires-clause-room : goal.find_cycle-base-requires-clause-room
find_cycle-base-requires-clause-room g c =
    let few = edge_room c.self.inside.arena c.args.root c.self.inside.edges.items
    (tree g (goal.at.find_cycle-base-requires-clause-room g c).After-self).shape in
    omega (arith, c.self.invariant.cycle, ap (λ xs. length xs) c.deref.ensures.value, few)

pub shrink-blossom-requires : goal.shrink-blossom-requires
shrink-blossom-requires g c =
    let here = goal.at.shrink-blossom-requires g c in
    let at = cycle_found g here.After-find_cycle-base in
    subst (λ xs. CanShrink c.self.inside.arena xs) (sym c.deref-2.ensures.value)
    (can (state_of c.self.inside) c.args.root c.self.invariant.engine (rooted g here.After-self) c.find_cycle-base.new.cycle.items at.0 c.find_cycle-base.result
    at.1)

pub index-requires : goal.index-requires
index-requires g c =
    let here = goal.at.index-requires g c in
    let at = cycle_found g here.After-find_cycle-base in
    omega (
      arith,
      c.self.inside.pairs.ok,
      base_low (state_of c.self.inside) c.args.root c.self.invariant.engine
          (rooted g here.After-self) c.find_cycle-base.new.cycle.items at.0 c.find_cycle-base.result at.1,
    )

pub shrink_edges-requires-clause-from : goal.shrink_edges-requires-clause-from
shrink_edges-requires-clause-from g c i low =
    subst (λ (f : Family). (tree_edge_at c.self.inside.edges.items i).up.from < leaf_count f) (sym c.shrink-blossom.ensures.made)
    (up_leaf c.self.inside.arena c.args.root c.self.inside.edges.items
    (tree g (goal.at.shrink_edges-requires-clause-from g c).After-self).shape c.self.invariant.engine.feasible.family i low)

pub shrink_edges-requires-clause-to : goal.shrink_edges-requires-clause-to
shrink_edges-requires-clause-to g c i low =
    subst (λ (f : Family). (tree_edge_at c.self.inside.edges.items i).pair.to < leaf_count f) (sym c.shrink-blossom.ensures.made)
    (pair_leaf c.self.inside.arena c.args.root c.self.inside.edges.items
    (tree g (goal.at.shrink_edges-requires-clause-to g c).After-self).shape c.self.invariant.engine.feasible.family i low)

-- what the state is at the end
abbrev last : (g : Over) (c : goal.After-shrink_edges g) → State
last g c = record (state_of c.self.inside) {
  family = c.shrink-blossom.new.self;
  pairs = set c.self.inside.pairs.items c.shrink-blossom.result c.index.result.now;
  root = Some c.renamed.result;
  edges = c.shrink_edges.new.edges.items;
}

shrinking : (g : Over) (c : goal.After-shrink_edges g) → (state_of c.self.inside).root ≡ Some c.args.root →
    (place : ℕ) × IsTreeCycle c.self.inside.arena c.args.root c.self.inside.edges.items c.find_cycle-base.new.cycle.items place c.find_cycle-base.result
    c.find_cycle-base.result → IsEngine (last g c) × (steps_left (last g c) + 2 ≤ steps_left (state_of c.self.inside))
shrinking g c rooted at =
    let s = state_of c.self.inside in
    let engine : IsEngine s = c.self.invariant.engine in
    let cycle = c.find_cycle-base.new.cycle.items in
    let base = c.find_cycle-base.result in
    let b = c.shrink-blossom.result in
    let tight_edge = subst (λ x. IsTightOuterOuter x c.args.root c.args.u c.args.v) (sym c.self.view_is) c.requires.tight_edge in
    let made : c.shrink-blossom.new.self ≡ with_slot s.family b (Some (blossom_of s.family cycle)) =
    subst (λ xs. c.shrink-blossom.new.self ≡ with_slot s.family b (Some (blossom_of s.family xs))) c.deref-2.ensures.value c.shrink-blossom.ensures.made
    in
    let room : b < length s.family.nodes =
    omega (
      arith,
      name_bound c.shrink-blossom.new.self b c.shrink-blossom.ensures.top.alive,
      ap (λ (f : Family). length f.nodes) made,
      length-with_slot s.family b (Some (blossom_of s.family cycle)),
    ) in
    let has : HasTight s.family (cost s.table) s.edges = all_tight s c.args.root engine rooted in
    let tight : AreTight s.family (cost s.table) cycle = c.find_cycle-base.ensures.tight (cost s.table)
    (subst (λ xs. HasTight s.family (cost s.table) xs) (sym c.deref.ensures.value) has)
    (has.symmetric c.args.u c.args.v tight_edge.low_u tight_edge.low_v) (omega (arith, tight_edge.slack)) in
    shrunk s c.args.root engine rooted cycle at.0 base at.1 b c.shrink-blossom.ensures.unused room tight c.renamed.result c.renamed.ensures.hit
    c.renamed.ensures.miss c.shrink-blossom.new.self made c.index.result.now c.index.ensures c.shrink_edges.new.edges.items c.shrink_edges.ensures.edges

ending : (g : Over) (c : goal.After-shrink_edges g) → IsEngine (last g c) × (steps_left (last g c) + 2 ≤ steps_left (state_of c.self.inside))
ending g c = let here = goal.at.returns-clause-engine g c in shrinking g c (rooted g here.After-self) (cycle_found g here.After-find_cycle-base)

pub invariant_of-self : goal.invariant_of-self
invariant_of-self g c =
    let kept = c.self.invariant in
    let nodes : length c.shrink-blossom.new.self.nodes ≡ length c.self.inside.arena.nodes =
    ap (λ (f : Family). length f.nodes) c.shrink-blossom.ensures.made ∙ length-with_slot c.self.inside.arena c.shrink-blossom.result
    (Some (blossom_of c.self.inside.arena c.deref-2.result.now)) in
    let leaves : length c.shrink-blossom.new.self.leaf_nodes ≡ length c.self.inside.arena.leaf_nodes =
    ap (λ (f : Family). length f.leaf_nodes) c.shrink-blossom.ensures.made in
    let engine = (ending g c).0 in
    search rules

pub returns-clause-engine : goal.returns-clause-engine
returns-clause-engine g c = (ending g c).0

pub returns-clause-less : goal.returns-clause-less
returns-clause-less g c = subst (λ s. steps_left (last g c) + 2 ≤ steps_left s) c.self.view_is (ending g c).1

pub returns-clause-alike : goal.returns-clause-alike
returns-clause-alike g c = omega (arith, c.shrink-blossom.ensures.taken, c.shrink-blossom.ensures.counted, ap (λ (s : State). s.family.steps) c.self.view_is)

pub index_mut-requires : goal.index_mut-requires
index_mut-requires g c = grind (arith, common_steps)
