use Rattle.std.proofs.Common.{arith}
use Rattle.sg_planar.proofs.SpinNames.{all_named}
use Rattle.sg_planar.proofs.naming.name_all.Goals as goal

pub returns : goal.returns
returns c = all_named _ _ _ _ _ (omega (arith, c.n-spin-end.ensures.value, c.loop-spin-test.false)) c.loop-spin.invariant
