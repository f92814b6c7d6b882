use Rattle.std.proofs.Common.{◌≡◌, ◌≢◌, ℕ, ◌<◌, get_or}
use Rattle.sg_planar.proofs.naming.give.Given as goal

abbrev pub invariant-loop-spin : goal.invariant-loop-spin
invariant-loop-spin l = record {
  given : (k : ℕ) → k < l.spin-index → get_or l.names (get_or l.order k 0) 0 ≡ l.name;
  others : (x : ℕ) → ((k : ℕ) → k < l.spin-index → get_or l.order k 0 ≢ x) → get_or l.names x 0 ≡ get_or l.initial.names x 0;
}
