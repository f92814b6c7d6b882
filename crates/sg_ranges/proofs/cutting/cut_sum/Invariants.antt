use Rattle.std.proofs.Common.{◌≡◌, ◌≤◌, ◌^◌, ◌*◌, pos, cond, fold, take, ◌+ℤ◌, unsigned_abs}
use Rattle.sg_ranges.specs.Cut.{is_cut}
use Rattle.sg_ranges.proofs.cutting.cut_sum.Given as goal

abbrev pub invariant-loop-bond : goal.invariant-loop-bond
invariant-loop-bond l = record {
  sum : l.total ≡ fold (λ total b. total +ℤ cond (is_cut l.spins b) b.j (pos 0)) (pos 0) (take l.bond-index l.bonds);
  size : unsigned_abs l.total ≤ l.bond-index * 2 ^ 63;
}
