-- What an engine keeps between its steps.
use Rattle.std.specs.Prelude.{◌≡◌, ◌+◌, ◌*◌, ◌≤◌, length, [], MatchOption}
use Rattle.sg_arena.specs.Family.{leaf_count}
use Rattle.sg_match.specs.Bound.{IsBounded}
use Rattle.sg_match.specs.Feasible.{IsFeasible}
use Rattle.sg_slack.specs.Tight.{IsTight}
use Rattle.sg_match.specs.Exposed.{IsExposed}
use Rattle.sg_slack.specs.Metric.{cost, IsMetric}
use Rattle.sg_match.specs.Pairs.{IsPaired}
use Rattle.sg_match.specs.State.{State}
use Rattle.sg_match.specs.Steps.{steps_left}
use Rattle.sg_match.specs.Tree.{IsTree}

-- what holds between two steps
pub record IsEngine (s : State) : Type 0 where
  pub costs : IsMetric s.table
  -- a leaf for each row of the costs, and room for a pair under each name
  pub leaves : leaf_count s.family ≡ s.table.size
  pub room : length s.pairs ≡ length s.family.nodes
  -- the sets with their duals, the pairs of tops, and the tops without one
  pub feasible : IsFeasible s.family (cost s.table)
  pub paired : IsPaired s.family (IsTight s.family (cost s.table)) s.pairs
  pub exposed : IsExposed s.family s.pairs s.root s.exposed
  -- the tree from the root; no tree edge if there is no root
  pub tree : MatchOption s.root (s.edges ≡ []) (λ r. IsTree s.family (cost s.table) s.pairs r s.edges)
  -- the steps that are left, with one for each unpaired top to begin with, which no event raises
  pub left : steps_left s + length s.exposed ≤ 2 * s.table.size * s.table.size
  -- with the steps that were taken
  pub bounded : IsBounded s
