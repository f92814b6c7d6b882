use Rattle.sg_bonds.proofs.JoinedCosts.{AreJoined}
use Rattle.sg_bonds.proofs.components.join_costs.Given as goal

abbrev pub invariant-loop-part : goal.invariant-loop-part
invariant-loop-part l = AreJoined l.inst l.parts l.part-index l.costs.items
