use Rattle.std.proofs.Common.{◌≡◌, ◌≤◌, ◌^◌, ◌*◌, pos}
use Rattle.sg_base.specs.Sums.{sum_below}
use Rattle.sg_bonds.specs.Weakened.{amount_at}
use Rattle.sg_bonds.proofs.weaken.total.Given as goal

abbrev pub invariant-loop-amount : goal.invariant-loop-amount
invariant-loop-amount l = record {
  sum : l.sum ≡ pos (sum_below (amount_at l.amounts) l.amount-index);
  size : sum_below (amount_at l.amounts) l.amount-index ≤ l.amount-index * 2 ^ 64;
}
