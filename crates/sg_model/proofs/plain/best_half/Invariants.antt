use Rattle.std.proofs.Common.{◌≡◌, ℕ, ◌<◌, ◌*◌, ◌^◌, ◌≤ℤ◌, length}
use Rattle.sg_model.specs.Energy.{energy}
use Rattle.sg_model.specs.Codes.{coded}
use Rattle.sg_model.proofs.plain.best_half.Given as goal

abbrev pub invariant-loop-half : goal.invariant-loop-half
invariant-loop-half l = record {
  count : length l.trial ≡ l.inst.n;
  found : l.least ≡ energy l.inst (coded l.inst.n (2 * l.best));
  size : l.best < 2 ^ 15;
  below : (half : ℕ) → half < l.half → l.least ≤ℤ energy l.inst (coded l.inst.n (2 * half));
}
