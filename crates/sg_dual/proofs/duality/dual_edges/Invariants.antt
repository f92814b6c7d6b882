-- The edges of the bonds so far.
use Rattle.std.proofs.Common.{◌≡◌, map}
use Rattle.std.specs.List.{range_with_len}
use Rattle.sg_dual.specs.Dual.{dual_edge}
use Rattle.sg_dual.proofs.duality.dual_edges.Given as goal

abbrev pub invariant-loop-k : goal.invariant-loop-k
invariant-loop-k l = record {
  list : l.bond-items ≡ l.inst.bonds;
  made : l.edges ≡ map (dual_edge l.inst l.faces) (range_with_len 0 l.k);
}
