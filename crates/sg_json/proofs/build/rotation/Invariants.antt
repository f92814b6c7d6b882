use Rattle.std.proofs.Common.{◌≡◌, map, take}
use Rattle.serde_json.specs.View.{view}
use Rattle.sg_json.specs.Members.{value_indices}
use Rattle.sg_json.proofs.build.rotation.Given as goal

-- the darts of the spins so far
abbrev pub invariant-loop-list : goal.invariant-loop-list
invariant-loop-list l = l.rotation ≡ map (λ v. value_indices (view v)) (take l.list-index l.lists)
