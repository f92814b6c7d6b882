-- What comes next at the tree: an inner blossom of dual 0, or a pair of leaves of slack 0.
use Rattle.std.specs.Prelude.{◌≡◌, ℕ, Some}
use Rattle.sg_arena.specs.Family.{Holds, IsTop}
use Rattle.sg_slack.specs.Metric.{cost}
use Rattle.sg_match.specs.InnerZeros.{IsLeastInnerZero}
use Rattle.sg_match.specs.Nearest.{IsOuterFreeAt, IsOuterOuterAt}
use Rattle.sg_match.specs.State.{State}
use Rattle.sg_match.specs.declared.Event.{Event}
use Rattle.sg_match.specs.declared.Event.TheVariants.{InnerZero, OuterFree, OuterOuter}

-- an outer leaf and one outside the tree, of slack 0
abbrev pub IsTightOuterFree : State → ℕ → ℕ → ℕ → Type 0
IsTightOuterFree s root u v = IsOuterFreeAt s.family (cost s.table) root s.edges 0 u v

-- such leaves of the tree with this root, and the top of the one outside the tree
pub record IsTightInto (s : State) (root u v top : ℕ) : Type 0 where
  pub root_is : s.root ≡ Some root
  pub tight_edge : IsTightOuterFree s root u v
  pub is_top : IsTop s.family top
  pub held : Holds s.family top v

-- two leaves of different outer tops, of slack 0
abbrev pub IsTightOuterOuter : State → ℕ → ℕ → ℕ → Type 0
IsTightOuterOuter s root u v = IsOuterOuterAt s.family (cost s.table) root s.edges 0 u v

-- what an event says of the state
abbrev pub IsNext : State → ℕ → Event → Type 0
IsNext s root (InnerZero node) = IsLeastInnerZero s.family s.edges node
IsNext s root (OuterFree u v) = IsTightOuterFree s root u v
IsNext s root (OuterOuter u v) = IsTightOuterOuter s root u v
