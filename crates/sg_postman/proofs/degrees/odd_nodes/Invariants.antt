-- The marks count the ends of the edges so far.
use Rattle.std.proofs.Common.{◌≡◌, ℕ, length}
use Rattle.sg_base.specs.Parity.{parity_below}
use Rattle.sg_base.specs.Sets.{is_marked}
use Rattle.sg_postman.proofs.OddNodes.{is_end_at}
use Rattle.sg_postman.proofs.degrees.odd_nodes.Given as goal

abbrev pub invariant-loop-k : goal.invariant-loop-k
invariant-loop-k l = record {
  list : l.edges ≡ l.web.edges;
  room : length l.odd.items ≡ l.web.nodes;
  marks : (x : ℕ) → is_marked l.odd.items x ≡ parity_below (is_end_at l.web x) l.k;
}
