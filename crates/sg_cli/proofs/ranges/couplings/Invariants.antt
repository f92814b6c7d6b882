use Rattle.std.proofs.Common.{◌≡◌, map, take}
use Rattle.sg_model.specs.declared.bond.Bond.{Bond}
use Rattle.sg_cli.proofs.ranges.couplings.Given as goal

abbrev pub invariant-loop-bond : goal.invariant-loop-bond
invariant-loop-bond l = l.couplings.items ≡ map (λ (b : Bond). b.j) (take l.bond-index l.bonds)
