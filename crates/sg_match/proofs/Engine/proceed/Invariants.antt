-- `proceed`: steps done and steps left together do not rise.
use Rattle.std.proofs.Common.{◌≡◌, ◌+◌, ◌≤◌}
use Rattle.sg_match.specs.Steps.{steps_left}
use Rattle.sg_match.proofs.Engine.proceed.Given as goal

abbrev pub invariant-loop-root : goal.invariant-loop-root
invariant-loop-root g l = (l.self.table ≡ l.fn.self.table) × (steps_left l.self ≤ steps_left l.fn.self) ×
    (l.steps + steps_left l.self ≤ l.fn.steps + steps_left l.fn.self) × (l.steps + l.fn.self.family.steps ≡ l.fn.steps + l.self.family.steps)

abbrev pub decreases-loop-root : goal.decreases-loop-root
decreases-loop-root g l = steps_left l.self
