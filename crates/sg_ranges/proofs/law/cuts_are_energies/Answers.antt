use Rattle.sg_ranges.proofs.Cuts.{energy_negated}
use Rattle.sg_ranges.proofs.law.cuts_are_energies.Goals as goal

pub returns : goal.returns
returns c = λ inst s good h. energy_negated inst s good h
