-- What the engine's invariant says of its costs, and of the tree where one stands.
use Rattle.std.proofs.Common.{◌≡◌, ℕ, ◌<◌, ◌%◌, [], length, None, Some, MatchOption, subst, arith}
use Rattle.sg_arena.specs.Family.{IsAlive, leaf_count}
use Rattle.sg_match.proofs.TreeLemmas.{inner_top}
use Rattle.sg_match.specs.Engine.{IsEngine}
use Rattle.sg_match.specs.Exposed.{IsExposed}
use Rattle.sg_slack.specs.Metric.{cost}
use Rattle.sg_match.specs.State.{State}
use Rattle.sg_match.specs.Tree.{IsTree, tree_edge_at}
use Rattle.sg_match.specs.declared.Engine.TheInside.{Inside}

-- what contracts see of the fields
abbrev pub state_of : Inside → State
state_of e = record { family = e.arena; table = e.near.table; pairs = e.pairs.items; exposed = e.exposed.items; root = e.root; edges = e.edges.items }

module _ (s : State) (engine : IsEngine s) where
  -- costs are the same both ways
  pub symmetric : (u v : ℕ) → u < leaf_count s.family → v < leaf_count s.family → cost s.table u v ≡ cost s.table v u
  symmetric u v low_u low_v = engine.costs.symmetric u v (omega (arith, low_u, engine.leaves)) (omega (arith, low_v, engine.leaves))

  -- costs are even
  pub even : (u v : ℕ) → u < leaf_count s.family → v < leaf_count s.family → cost s.table u v % 2 ≡ 0
  even u v low_u low_v = engine.costs.even u v (omega (arith, low_u, engine.leaves)) (omega (arith, low_v, engine.leaves))

  -- without a root the tree has no edges
  pub no_edges : s.root ≡ None → s.edges ≡ []
  no_edges none = subst (λ o. MatchOption o (s.edges ≡ []) (λ r. IsTree s.family (cost s.table) s.pairs r s.edges)) none engine.tree

  module _ (root : ℕ) (rooted : s.root ≡ Some root) where
    -- with a root there is a tree
    pub tree_of : IsTree s.family (cost s.table) s.pairs root s.edges
    tree_of = subst (λ o. MatchOption o (s.edges ≡ []) (λ r. IsTree s.family (cost s.table) s.pairs r s.edges)) rooted engine.tree

    -- the unpaired tops are the root and those listed
    pub exposed_of : IsExposed s.family s.pairs (Some root) s.exposed
    exposed_of = subst (λ o. IsExposed s.family s.pairs o s.exposed) rooted engine.exposed

    -- an inner top is a node
    pub inner_alive : (i : ℕ) → i < length s.edges → IsAlive s.family (tree_edge_at s.edges i).inner
    inner_alive i low = (inner_top s.family root s.edges tree_of.shape i low).alive
