-- `augment_path`: behind tree edge i the way is turned over.
use Rattle.std.proofs.Common.{ℕ, length, ◌≡◌, ◌≤◌}
use Rattle.sg_match.proofs.augment.augment_path.Given as goal
use Rattle.sg_arena.specs.Family.{IsTop}
use Rattle.sg_match.proofs.AugmentLemmas.{IsAugmenting}
use Rattle.sg_match.specs.Augmented.{CanAugment}

abbrev pub invariant-loop-i : goal.invariant-loop-i
invariant-loop-i l = record {
  within : l.i ≤ length l.edges;
  count : length l.pairs ≡ length l.fn.pairs;
  top : IsTop l.arena l.there;
  augmenting : (cost : ℕ → ℕ → ℕ) → CanAugment l.arena cost l.fn.pairs l.root l.edges l.u l.v →
      IsAugmenting l.arena cost l.fn.pairs l.pairs l.root l.edges l.v l.i l.here l.there l.edge;
}

abbrev pub decreases-loop-i : goal.decreases-loop-i
decreases-loop-i l = l.i
