use Rattle.std.proofs.Common.{◌≡◌, ℕ, ◌<◌, take, vec_len}
use Rattle.sg_model.specs.Ising.{bond_count}
use Rattle.sg_base.specs.Sets.{holds, is_marked}
use Rattle.sg_model.proofs.instance.Instance.on_seam.Given as goal

abbrev pub invariant-loop-bond : goal.invariant-loop-bond
invariant-loop-bond l = record {
  list : l.bond-items ≡ l.self.seam;
  room : vec_len l.marked ≡ bond_count l.self;
  marks : (k : ℕ) → k < bond_count l.self → is_marked l.marked.items k ≡ holds (take l.bond-index l.self.seam) k;
}
