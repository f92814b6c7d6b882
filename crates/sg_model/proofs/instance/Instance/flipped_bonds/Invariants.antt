use Rattle.std.proofs.Common.{◌≡◌, map}
use Rattle.std.specs.List.{range_with_len}
use Rattle.sg_model.specs.Changes.{flipped_at}
use Rattle.sg_model.proofs.instance.Instance.flipped_bonds.Given as goal

abbrev pub invariant-loop-k : goal.invariant-loop-k
invariant-loop-k l = record {
  list : l.bond-items ≡ l.self.bonds;
  made : l.bonds ≡ map (flipped_at l.self) (range_with_len 0 l.k);
}
