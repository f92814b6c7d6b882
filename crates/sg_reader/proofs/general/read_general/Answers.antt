use Rattle.std.proofs.Common.{ap, arith, refl}
use Rattle.sg_reader.specs.declared.header.Header.TheVariants as header
use Rattle.sg_reader.specs.Body.{general_fault, instance_of}
use Rattle.sg_reader.proofs.GeneralLaws.{general-ends, general-states}
use Rattle.sg_reader.proofs.ReadLaws.{body-fault, whole-fault}
use Rattle.sg_reader.proofs.RestLaws.{failed, rest-all}
use Rattle.sg_reader.proofs.general.read_general.Goals as goal

pub returns-in_err-body-clause-fault : goal.returns-in_err-body-clause-fault
returns-in_err-body-clause-fault c = failed _ _ c.from_residual.ensures.1 (rest-all _)

pub returns-in_err-read_to_end-clause-fault : goal.returns-in_err-read_to_end-clause-fault
returns-in_err-read_to_end-clause-fault c =
    let bad = c.in_err-read_to_end.ensures.fault in
    failed _ _ c.from_residual-in_err-read_to_end.ensures.1 (body-fault _ _ _ _ _ (ap general_fault c.in_ok-body.ensures.value) bad)

pub returns-in_err-check_shape-clause-fault : goal.returns-in_err-check_shape-clause-fault
returns-in_err-check_shape-clause-fault c = failed _ _ c.from_residual-in_err-check_shape.ensures.1 (general-ends _ _ _ _ _ _ c.in_ok-read_to_end.ensures.ended
    c.in_ok-body.ensures.value _ c.in_err-check_shape.ensures.refused)

pub instance-requires-clause-small : goal.instance-requires-clause-small
instance-requires-clause-small c = omega (arith, c.in_ok-read_to_end.ensures.ended.held.spins, c.in_ok-body.ensures.value, c.requires.small)

pub instance-requires-clause-held : goal.instance-requires-clause-held
instance-requires-clause-held c =
    record { start = c.in_ok-body.body; body = c.in_ok-read_to_end.ensures.ended.body; held = c.in_ok-read_to_end.ensures.ended.held }

pub returns-in_err-inst-clause-fault : goal.returns-in_err-inst-clause-fault
returns-in_err-inst-clause-fault c =
    let h = c.in_ok-read_to_end.ensures.ended in
    failed _ _ c.from_residual-in_err-inst.ensures.1 (whole-fault _ _ (instance_of (header.General c.in_ok-body.body.n) h.body) _ _ (general-states _ _ _ _ _ _
    c.in_ok-read_to_end.ensures.ended
    c.in_ok-body.ensures.value _ c.in_ok-check_shape.ensures.passes refl) (c.in_err-inst.ensures.fault c.in_ok-body.body h.body h.held))

pub returns-clause-read : goal.returns-clause-read
returns-clause-read c =
    let h = c.in_ok-read_to_end.ensures.ended in
    record {
      states = general-states _ _ _ _ _ _ c.in_ok-read_to_end.ensures.ended
          c.in_ok-body.ensures.value _ c.in_ok-check_shape.ensures.passes (c.in_ok-inst.ensures.ok c.in_ok-body.body h.body h.held);
      rotation = c.in_ok-inst.ensures.instance.rotation;
      seam = c.in_ok-inst.ensures.instance.seam;
    }
