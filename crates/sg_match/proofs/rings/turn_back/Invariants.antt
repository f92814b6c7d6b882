-- `turn_back`: the links so far are turned.
use Rattle.std.proofs.Common.{◌≡◌, ℕ, ◌-◌, ◌<◌, length, vec_capacity, cond, eqb}
use Rattle.sg_arena.specs.Family.{link_at}
use Rattle.sg_match.proofs.rings.turn_back.Given as goal

abbrev pub invariant-loop-i : goal.invariant-loop-i
invariant-loop-i l = record {
  count : length l.turned.items ≡ l.i;
  room : vec_capacity l.turned ≡ vec_capacity l.fn.turned;
  node : (k : ℕ) → k < l.i → (link_at l.turned.items k).node ≡ (link_at l.ring (cond (eqb k 0) 0 (length l.ring - k))).node;
  from : (k : ℕ) → k < l.i → (link_at l.turned.items k).from ≡ (link_at l.ring (length l.ring - 1 - k)).to;
  to : (k : ℕ) → k < l.i → (link_at l.turned.items k).to ≡ (link_at l.ring (length l.ring - 1 - k)).from;
}
