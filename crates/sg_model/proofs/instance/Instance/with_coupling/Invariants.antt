use Rattle.std.proofs.Common.{◌≡◌, take}
use Rattle.sg_model.specs.Changes.{with_coupling}
use Rattle.sg_model.proofs.instance.Instance.with_coupling.Given as goal

abbrev pub invariant-loop-k : goal.invariant-loop-k
invariant-loop-k l = record {
  list : l.old-items ≡ l.self.bonds;
  made : l.bonds ≡ take l.k (with_coupling l.self l.bond l.j).bonds;
}
