use Rattle.std.proofs.Common.{◌≡◌, eqb, get_or}
use Rattle.sg_base.specs.Sets.{chosen_below}
use Rattle.sg_planar.proofs.naming.own_names.Given as goal

abbrev pub invariant-loop-spin : goal.invariant-loop-spin
invariant-loop-spin l = l.list.items ≡ chosen_below (λ i. eqb (get_or l.names i 0) i) l.spin
