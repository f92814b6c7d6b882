use Rattle.std.proofs.Common.{◌≡◌, map, take}
use Rattle.sg_model.specs.Changes.{opposite}
use Rattle.sg_model.proofs.instance.Instance.negated.Given as goal

abbrev pub invariant-loop-bond : goal.invariant-loop-bond
invariant-loop-bond l = l.bonds ≡ map opposite (take l.bond-index l.self.bonds)
