-- So many couplings so far.
use Rattle.std.proofs.Common.{◌≡◌, ◌<◌, ◌^◌, length, All, unsigned_abs}
use Rattle.sg_trials.proofs.instances.couplings.Given as goal

abbrev pub invariant-loop : goal.invariant-loop
invariant-loop l = record {
  count : length l.list ≡ l.counter;
  sizes : All (λ j. unsigned_abs j < 2 ^ 63) l.list;
}
