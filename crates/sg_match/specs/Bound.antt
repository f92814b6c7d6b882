-- The bound on all steps.
use Rattle.std.specs.Prelude.{◌≡◌, ℕ, ◌+◌, ◌*◌, ◌≤◌, Some}
use Rattle.sg_match.specs.Events.{IsTightOuterFree, IsTightOuterOuter}
use Rattle.sg_match.specs.InnerZeros.{IsInnerZero}
use Rattle.sg_match.specs.State.{State}
use Rattle.sg_match.specs.Steps.{steps_left}

-- nothing is due at the tree: no inner blossom has dual 0, and no tight edge leads from an outer top out of the
-- tree or to another outer top
pub record IsCalm (s : State) : Type 0 where
  pub inner_zero : (node : ℕ) → IsInnerZero s.family s.edges node → ⊥
  pub free : (root u v : ℕ) → s.root ≡ Some root → IsTightOuterFree s root u v → ⊥
  pub both : (root u v : ℕ) → s.root ≡ Some root → IsTightOuterOuter s root u v → ⊥

-- the steps taken and those left are at most 2 k^2 together, for k leaves; a raise by which something has
-- become due may be above that, until it is followed
pub record IsBounded (s : State) : Type 0 where
  pub due : s.family.steps + steps_left s ≤ 2 * s.table.size * s.table.size + 1
  pub calm : IsCalm s → s.family.steps + steps_left s ≤ 2 * s.table.size * s.table.size
