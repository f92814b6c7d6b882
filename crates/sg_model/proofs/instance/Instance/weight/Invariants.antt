use Rattle.std.proofs.Common.{◌≡◌, ◌≤◌, ◌^◌, ◌*◌, pos, take, sum_by, unsigned_abs}
use Rattle.sg_model.proofs.instance.Instance.weight.Given as goal

abbrev pub invariant-loop-bond : goal.invariant-loop-bond
invariant-loop-bond l = record {
  sum : l.total ≡ pos (sum_by (λ b. unsigned_abs b.j) (take l.bond-index l.self.bonds));
  size : sum_by (λ b. unsigned_abs b.j) (take l.bond-index l.self.bonds) ≤ l.bond-index * 2 ^ 63;
}
