use Rattle.std.proofs.Common.{◌≡◌, map, take}
use Rattle.serde_json.specs.View.{view}
use Rattle.sg_json.specs.Members.{value_bond}
use Rattle.sg_json.proofs.build.bonds.Given as goal

-- the bonds of the items so far
abbrev pub invariant-loop-item : goal.invariant-loop-item
invariant-loop-item l = l.list ≡ map (λ v. value_bond (view v)) (take l.item-index l.items)
