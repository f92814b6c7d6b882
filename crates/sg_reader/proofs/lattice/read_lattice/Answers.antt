use Rattle.std.proofs.Common.{◌∙◌, ap}
use Rattle.sg_reader.specs.Body.{lattice_fault}
use Rattle.sg_reader.proofs.LatticeLaws.{couplings-small, lattice-ends, lattice-states}
use Rattle.sg_reader.proofs.ReadLaws.{body-fault, whole-fault}
use Rattle.sg_reader.proofs.RestLaws.{failed, rest-all}
use Rattle.sg_reader.proofs.lattice.read_lattice.Goals as goal

pub returns-in_err-body-clause-fault : goal.returns-in_err-body-clause-fault
returns-in_err-body-clause-fault c = failed _ _ c.from_residual.ensures.1 (rest-all _)

pub returns-in_err-read_to_end-clause-fault : goal.returns-in_err-read_to_end-clause-fault
returns-in_err-read_to_end-clause-fault c = failed _ _ c.from_residual-in_err-read_to_end.ensures.1 (body-fault _ _ _ _
    _ (ap lattice_fault (c.in_ok-body.ensures.wanted ∙ c.bond_count-bonds.ensures)) c.in_err-read_to_end.ensures.fault)

pub returns-in_err-check_end-clause-fault : goal.returns-in_err-check_end-clause-fault
returns-in_err-check_end-clause-fault c = failed _ _ c.from_residual-in_err-check_end.ensures.1 (lattice-ends _ _ _ _ _ _ _
    _ c.in_ok-read_to_end.ensures.ended _ _ c.in_ok-body.ensures.wanted c.bond_count-bonds.ensures c.len.ensures _ c.in_err-check_end.ensures.refused)

pub build_lattice-requires-clause-sizes : goal.build_lattice-requires-clause-sizes
build_lattice-requires-clause-sizes c = couplings-small _ _ _ _ _ c.in_ok-read_to_end.ensures.ended

pub returns-in_err-inst-clause-fault : goal.returns-in_err-inst-clause-fault
returns-in_err-inst-clause-fault c = failed _ _ c.from_residual-in_err-inst.ensures.1 (whole-fault _ _ _ _ _ (lattice-states _ _ _ _ _ _
    _ _ c.in_ok-read_to_end.ensures.ended _ _
    c.in_ok-body.ensures.wanted c.bond_count-bonds.ensures c.len.ensures c.in_ok-check_end.ensures.passes) c.in_err-inst.ensures.refused)

pub returns-clause-read : goal.returns-clause-read
returns-clause-read c = record {
  states = rw c.in_ok-inst.ensures.ok (lattice-states _ _ _ _ _ _ _ _ c.in_ok-read_to_end.ensures.ended _ _
      c.in_ok-body.ensures.wanted c.bond_count-bonds.ensures c.len.ensures c.in_ok-check_end.ensures.passes);
  rotation = c.in_ok-inst.ensures.well_formed.rotation;
  seam = c.in_ok-inst.ensures.well_formed.seam;
}
