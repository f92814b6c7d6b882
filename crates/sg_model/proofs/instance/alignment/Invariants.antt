use Rattle.std.proofs.Common.{◌≡◌, ◌≤◌, ◌^◌, ◌*◌, pos, fold, take, ◌+ℤ◌, ◌*ℤ◌, unsigned_abs}
use Rattle.sg_model.specs.Energy.{product}
use Rattle.sg_model.proofs.instance.alignment.Given as goal

abbrev pub invariant-loop-bond : goal.invariant-loop-bond
invariant-loop-bond l = record {
  sum : l.total ≡ fold (λ total b. total +ℤ (b.j *ℤ product l.s b)) (pos 0) (take l.bond-index l.bonds);
  size : unsigned_abs l.total ≤ l.bond-index * 2 ^ 63;
}
