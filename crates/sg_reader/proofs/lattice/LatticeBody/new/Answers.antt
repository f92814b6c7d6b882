use Rattle.std.proofs.Common.{refl, ◌∙◌}
use Rattle.sg_reader.proofs.LatticeLaws.{holds-none}
use Rattle.sg_reader.proofs.lattice.LatticeBody.new.Goals as goal

pub returns-clause-holds : goal.returns-clause-holds
returns-clause-holds c = holds-none _ (c.in_ok-reserve.ensures ∙ c.new-couplings.ensures) refl
