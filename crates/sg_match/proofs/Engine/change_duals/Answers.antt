-- `change_duals`: the tree is raised by the least of the amount and the inner duals.
use Rattle.std.proofs.Common.{◌≡◌, ℕ, ◌<◌, ℤ, List, length, Some, sym, ap, ◌∙◌, subst, arith, rules, to_z, of_z, w64}
use Rattle.std.proofs.lemmas.Int.{ints, to_z-of_z}
use Rattle.std.specs.Vec.{with_items}
use Rattle.sg_arena.proofs.RaisedFamily.{length-raised}
use Rattle.sg_arena.specs.Changes.{CanRaise, raised}
use Rattle.sg_base.specs.Naturals.{nat_of}
use Rattle.sg_arena.specs.Family.{Family, IsAlive, leaf_count}
use Rattle.sg_match.proofs.Engine.change_duals.Given.{Over}
use Rattle.sg_match.proofs.Engine.change_duals.Goals as goal
use Rattle.sg_match.proofs.Engine.change_duals.Goals.{After-least_dual-delta, After-raise_tree, After-self, in-Some, in-None}
use Rattle.sg_match.proofs.DualChangeStep.{HasNearest-engine, IsNext-changed, IsChangingDuals, IsChangingDuals-made, after, change, left-raised, changed_can, changed_engine}
use Rattle.sg_match.proofs.EngineLemmas.{inner_alive, state_of, tree_of}
use Rattle.sg_match.proofs.TreeLemmas.{edge_room}
use Rattle.sg_slack.specs.Table.{Table}
use Rattle.sg_match.specs.InnerZeros.{IsInnerZero, IsLeastInnerZero}
use Rattle.sg_match.specs.Engine.{IsEngine}
use Rattle.sg_match.specs.Events.{IsNext}
use Rattle.sg_match.specs.Nearest.{HasNearest}
use Rattle.sg_slack.specs.Metric.{cost}
use Rattle.sg_match.specs.State.{State}
use Rattle.sg_match.specs.Steps.{steps_left}
use Rattle.sg_match.specs.Tree.{inners, tree_edge_at, outers}
use Rattle.sg_match.specs.declared.Engine.TheInside.{Inside}
use Rattle.sg_match.specs.declared.TreeEdge.{TreeEdge}

-- what contracts see of an engine with this family and these costs
abbrev seen : Inside → Family → Table → State
seen e f t = record { family = f; table = t; pairs = e.pairs.items; exposed = e.exposed.items; root = e.root; edges = e.edges.items }

rooted : (g : Over) (c : After-self g) → c.self.inside.root ≡ Some c.args.root
rooted g c = ap (λ (x : State). x.root) c.self.view_is ∙ c.requires.root

-- what is raised by, as the calls hand it on
abbrev given : ℤ → ℤ
given delta = to_z w64 (of_z w64 delta)

changing : (g : Over) (c : After-least_dual-delta g) →
    IsChangingDuals (state_of c.self.inside) c.args.root c.nearest-near.result.event c.nearest-near.result.amount (given c.least_dual-delta.result)
changing g c =
    let amount = c.nearest-near.result.amount in
    let delta = c.least_dual-delta.result in
    IsChangingDuals-made (state_of c.self.inside) c.args.self.now c.args.root c.nearest-near.result.event c.deref.result.now amount
    (given amount) delta (given delta) c.self.invariant.engine c.self.view_is c.requires.root c.deref.ensures.value
    c.nearest-near.ensures.whole (to_z-of_z w64 amount (search rules)) (to_z-of_z w64 delta (search rules)) c.nearest-near.ensures.nearest
    (record { within = c.least_dual-delta.ensures.most; duals = c.least_dual-delta.ensures.duals; one = c.least_dual-delta.ensures.one })

made : (g : Over) (c : After-raise_tree g) → c.raise_tree.new.arena ≡ raised c.self.inside.arena (outers c.args.root c.self.inside.edges.items)
    (inners c.self.inside.edges.items) (nat_of (given c.least_dual-delta.result))
made g c = c.raise_tree.ensures.raised ∙
    ap (λ xs. raised c.self.inside.arena (outers c.args.root xs) (inners xs) (nat_of (given c.least_dual-delta.result))) c.deref.ensures.value

pub nearest-near-requires-clause-stands : goal.nearest-near-requires-clause-stands
nearest-near-requires-clause-stands g c =
    let s = state_of c.self.inside in
    subst (λ xs. HasNearest s.family (cost s.table) c.args.root xs) (sym c.deref.ensures.value)
    (HasNearest-engine s c.args.root c.self.invariant.engine (rooted g (goal.at.nearest-near-requires-clause-stands g c).After-self))

pub least_dual-delta-requires : goal.least_dual-delta-requires
least_dual-delta-requires g c =
    let s = state_of c.self.inside in
    subst (λ (xs : List TreeEdge). (i : ℕ) → i < length xs → IsAlive s.family (tree_edge_at xs i).inner) (sym c.deref.ensures.value)
    (inner_alive s c.self.invariant.engine c.args.root (rooted g (goal.at.least_dual-delta-requires g c).After-self))

fits : (g : Over) (c : After-self g) → length c.self.inside.edges.items < length c.self.inside.arena.nodes
fits g c = let s = state_of c.self.inside in edge_room s.family c.args.root s.edges (tree_of s c.self.invariant.engine c.args.root (rooted g c)).shape

pub raise_tree-requires-clause-outer : goal.raise_tree-requires-clause-outer
raise_tree-requires-clause-outer g c =
    omega (arith, fits g (goal.at.raise_tree-requires-clause-outer g c).After-self, c.self.invariant.outer, ap (λ xs. length xs) c.deref.ensures.value)

pub raise_tree-requires-clause-inner : goal.raise_tree-requires-clause-inner
raise_tree-requires-clause-inner g c =
    omega (arith, fits g (goal.at.raise_tree-requires-clause-inner g c).After-self, c.self.invariant.inner, ap (λ xs. length xs) c.deref.ensures.value)

pub raise_tree-requires-clause-whole : goal.raise_tree-requires-clause-whole
raise_tree-requires-clause-whole g c = let p = changing g (goal.at.raise_tree-requires-clause-whole g c).After-least_dual-delta in omega (arith, ints, p.whole)

pub raise_tree-requires-clause-tops : goal.raise_tree-requires-clause-tops
raise_tree-requires-clause-tops g c =
    let p = changing g (goal.at.raise_tree-requires-clause-tops g c).After-least_dual-delta in
    subst (λ xs. CanRaise c.self.inside.arena (outers c.args.root xs) (inners xs) (nat_of (given c.least_dual-delta.result))) (sym c.deref.ensures.value)
    (changed_can p)

pub least_inner_zero-requires : goal.least_inner_zero-requires
least_inner_zero-requires g c =
    let s = state_of c.self.inside in
    let p = changing g (goal.at.least_inner_zero-requires g c).After-least_dual-delta in
    subst (λ (xs : List TreeEdge). (i : ℕ) → i < length xs → IsAlive c.raise_tree.new.arena (tree_edge_at xs i).inner) (sym c.deref.ensures.value)
    (subst (λ a. (i : ℕ) → i < length s.edges → IsAlive a (tree_edge_at s.edges i).inner)
    (sym (made g (goal.at.least_inner_zero-requires g c).After-raise_tree))
    (inner_alive (after s c.args.root (nat_of (given c.least_dual-delta.result)) p.engine p.rooted (change p)) (changed_engine p) c.args.root p.rooted))

same_table : (g : Over) (c : After-raise_tree g) → c.nearest-near.new.near.table ≡ c.self.inside.near.table
same_table g c = c.nearest-near.ensures.table

engine_now : (g : Over) (c : After-raise_tree g) →
    IsChangingDuals (state_of c.self.inside) c.args.root c.nearest-near.result.event c.nearest-near.result.amount (given c.least_dual-delta.result) →
    IsEngine (seen c.self.inside c.raise_tree.new.arena c.nearest-near.new.near.table)
engine_now g c p =
    subst (λ t. IsEngine (seen c.self.inside c.raise_tree.new.arena t)) (sym (same_table g c))
    (subst (λ a. IsEngine (seen c.self.inside a c.self.inside.near.table)) (sym (made g c)) (changed_engine p))

pub invariant_of-self : goal.invariant_of-self
invariant_of-self g c =
    let e = c.self.inside in
    let at = goal.at.invariant_of-self g c in
    let is = made g at.After-raise_tree in
    let kept = c.self.invariant in
    let names : length c.raise_tree.new.arena.nodes ≡ length e.arena.nodes = ap (λ a. length a.nodes) is ∙
    length-raised e.arena (outers c.args.root e.edges.items) (inners e.edges.items) (nat_of (given c.least_dual-delta.result)) in
    let leaves : length c.raise_tree.new.arena.leaf_nodes ≡ length e.arena.leaf_nodes = ap (λ a. length a.leaf_nodes) is in
    let tops = sym (with_items e.tops c.nearest-near.new.tops).ok.0 ∙ e.tops.ok.0 ∙ kept.tops ∙ sym leaves in
    let totals = sym (with_items e.totals c.nearest-near.new.totals).ok.0 ∙ e.totals.ok.0 ∙ kept.totals ∙ sym leaves in
    let marks = sym (with_items e.marks c.nearest-near.new.marks).ok.0 ∙ e.marks.ok.0 ∙ kept.marks ∙ sym leaves in
    let engine = engine_now g at.After-raise_tree (changing g at.After-least_dual-delta) in
    search rules

pub returns-clause-keeps : goal.returns-clause-keeps
returns-clause-keeps g c =
    let was = c.self.view_is in
    record {
      leaves = ap (λ a. leaf_count a) (made g (goal.at.returns-clause-keeps g c).After-raise_tree) ∙ ap (λ x. leaf_count x.family) was;
      table = same_table g (goal.at.returns-clause-keeps g c).After-raise_tree ∙ ap (λ x. x.table) was;
      pairs = ap (λ x. x.pairs) was;
      exposed = ap (λ x. x.exposed) was;
      root = ap (λ x. x.root) was;
      edges = ap (λ x. x.edges) was;
    }

pub returns-clause-engine : goal.returns-clause-engine
returns-clause-engine g c = let at = goal.at.returns-clause-engine g c in engine_now g at.After-raise_tree (changing g at.After-least_dual-delta)

pub returns-clause-left : goal.returns-clause-left
returns-clause-left g c =
    let at = goal.at.returns-clause-left g c in
    let p = changing g at.After-least_dual-delta in
    ap (λ a. steps_left (seen c.self.inside a c.nearest-near.new.near.table)) (made g at.After-raise_tree) ∙ left-raised (state_of c.self.inside) c.args.root
    (nat_of (given c.least_dual-delta.result)) p.engine p.rooted (change p) ∙ ap steps_left c.self.view_is

pub returns-clause-next : goal.returns-clause-next
returns-clause-next g c =
    let e = c.self.inside in
    let at = goal.at.returns-clause-next g c in
    let p = changing g at.After-least_dual-delta in
    let is = made g at.After-raise_tree in
    let edges = e.edges.items in
    let costs = c.nearest-near.new.near.table in
    elim c.match-least_inner_zero.branch [
      | in-Some w ↦
          subst (λ x. IsNext (seen e c.raise_tree.new.arena costs) c.args.root x) (sym w.result-is)
          (subst (λ xs. IsLeastInnerZero c.raise_tree.new.arena xs w.in-Some.node) c.deref.ensures.value w.in-Some.ensures.some)
      | in-None w ↦
          let none = subst (λ a. (node : ℕ) → IsInnerZero a edges node → ⊥) is
          (subst (λ xs. (node : ℕ) → IsInnerZero c.raise_tree.new.arena xs node → ⊥) c.deref.ensures.value w.in-None.ensures.none) in
          subst (λ x. IsNext (seen e c.raise_tree.new.arena costs) c.args.root x) (sym w.result-is)
          (subst (λ t. IsNext (seen e c.raise_tree.new.arena t) c.args.root c.nearest-near.result.event) (sym (same_table g at.After-raise_tree))
          (subst (λ a. IsNext (seen e a e.near.table) c.args.root c.nearest-near.result.event) (sym is)
          (IsNext-changed (state_of e) c.args.root p.engine p.rooted c.nearest-near.result.event (nat_of c.nearest-near.result.amount)
          (nat_of (given c.least_dual-delta.result)) p.changed none)))
    ]

pub returns-clause-alike : goal.returns-clause-alike
returns-clause-alike g c = omega (arith, c.raise_tree.ensures.alike, ap (λ (s : State). s.family.steps) c.self.view_is)
