use Rattle.std.proofs.Common.{◌∙◌, rules, FitsSigned, w64}
use Rattle.std.proofs.lemmas.Int.{to_z-of_z}
use Rattle.sg_reader.proofs.ResultLaws.{behind-energy, behind-spins, stated}
use Rattle.sg_reader.proofs.RestLaws.{failed}
use Rattle.sg_reader.proofs.result.read_result.Goals as goal

pub returns-in_err-energy-clause-fault : goal.returns-in_err-energy-clause-fault
returns-in_err-energy-clause-fault c = failed _ _ c.from_residual.ensures.1 c.in_err-energy.ensures.fault

pub returns-in_err-spins-clause-fault : goal.returns-in_err-spins-clause-fault
returns-in_err-spins-clause-fault c = failed _ _ c.from_residual-in_err-spins.ensures.1 (behind-energy _ _ _ _ _
    c.in_ok-energy.ensures.split c.in_ok-energy.ensures.passes (c.in_err-spins.ensures.fault c.next_energy.new.row))

pub returns-in_err-loops-clause-fault : goal.returns-in_err-loops-clause-fault
returns-in_err-loops-clause-fault c =
    failed _ _ c.from_residual-in_err-loops.ensures.1 (behind-energy _ _ _ _ _ c.in_ok-energy.ensures.split c.in_ok-energy.ensures.passes
    (behind-spins _ _ _ _ _ _ c.in_ok-spins.ensures.split c.in_ok-spins.ensures.passes c.in_err-loops.ensures.fault))

pub returns-clause-read : goal.returns-clause-read
returns-clause-read c =
    let fits : FitsSigned w64 c.in_ok-energy.energy = search rules in
    stated _ _ _ _ _ _ _ _ _ c.in_ok-energy.ensures.split c.in_ok-spins.ensures.split c.in_ok-energy.ensures.passes
    c.in_ok-spins.ensures.passes (to_z-of_z _ _ fits ∙ c.in_ok-energy.ensures.value) c.in_ok-spins.ensures.value c.in_ok-loops.ensures.read
