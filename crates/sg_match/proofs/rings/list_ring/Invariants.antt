-- `list_ring`: the ring so far is the cycle from the child on.
use Rattle.std.proofs.Common.{length, vec_capacity, ◌-◌, ◌≡◌, ℕ}
use Rattle.sg_arena.specs.Family.{IsChildAt}
use Rattle.sg_match.proofs.RotateLemmas.{IsTurning}
use Rattle.sg_match.proofs.rings.list_ring.Given as goal

abbrev pub invariant-loop-next : goal.invariant-loop-next
invariant-loop-next l = record {
  room : vec_capacity l.ring ≡ vec_capacity l.fn.ring;
  turning : (blossom i : ℕ) → IsChildAt l.arena blossom i l.child → IsTurning l.arena blossom i l.ring.items l.next;
}

abbrev pub decreases-loop-next : goal.decreases-loop-next
decreases-loop-next l = length l.arena.nodes - length l.ring.items
