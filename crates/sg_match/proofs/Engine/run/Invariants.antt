-- `run`: what holds between two expansions.
use Rattle.std.proofs.Common.{◌≡◌, ◌+◌, ◌*◌, ◌≤◌}
use Rattle.sg_match.proofs.Engine.run.Given as goal
use Rattle.sg_match.specs.Steps.{steps_left}

-- the costs are kept, the steps done and those left together do not rise,
-- and the caller has counted the steps of the family
abbrev pub invariant-loop-node : goal.invariant-loop-node
invariant-loop-node g l = (l.self.table ≡ l.fn.self.table) × (l.steps + steps_left l.self ≤ l.fn.steps + 2 * l.fn.self.table.size * l.fn.self.table.size)
    × (l.steps + l.fn.self.family.steps ≡ l.fn.steps + l.self.family.steps)

abbrev pub decreases-loop-node : goal.decreases-loop-node
decreases-loop-node g l = steps_left l.self
