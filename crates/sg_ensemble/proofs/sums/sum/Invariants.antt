use Rattle.std.proofs.Common.{◌≡◌, ◌≤◌, ◌*◌, ◌^◌, take, unsigned_abs}
use Rattle.sg_ensemble.specs.Samples.{int_sum}
use Rattle.sg_ensemble.proofs.sums.sum.Given as goal

abbrev pub invariant-loop-wall : goal.invariant-loop-wall
invariant-loop-wall l = record {
  so_far : l.sum ≡ int_sum (take l.wall-index l.walls);
  size : unsigned_abs l.sum ≤ l.wall-index * 2 ^ 33;
}
