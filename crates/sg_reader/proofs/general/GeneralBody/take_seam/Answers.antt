use Rattle.std.proofs.Common.{Some, sym, ap, refl}
use Rattle.sg_reader.proofs.GeneralLaws.{seam-refused, seam-taken}
use Rattle.sg_reader.proofs.RestLaws.{failed}
use Rattle.sg_reader.proofs.general.GeneralBody.take_seam.Goals as goal

pub returns-in_err-bonds-clause-fault : goal.returns-in_err-bonds-clause-fault
returns-in_err-bonds-clause-fault c =
    failed _ _ c.from_residual.ensures.1 (seam-refused _ _ _ _ (sym c.is_some.ensures) c.requires c.in_err-bonds.ensures.fault)

pub returns-clause-taken : goal.returns-clause-taken
returns-clause-taken c = seam-taken _ _ _ _ (sym c.is_some.ensures) c.requires c.in_ok-bonds.ensures.passes refl refl refl (ap Some c.in_ok-bonds.ensures.value)
