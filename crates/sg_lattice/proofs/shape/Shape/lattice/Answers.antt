use Rattle.std.proofs.Common.{sym, subst, arith}
use Rattle.sg_model.specs.WellFormed.{IsInstance}
use Rattle.sg_lattice.proofs.LatticeSizes.{assembled, lattice_instance}
use Rattle.sg_lattice.proofs.shape.Shape.lattice.Goals as goal

pub of_parts-requires : goal.of_parts-requires
of_parts-requires c =
    let s = c.args.self in
    let j = c.args.j.now in
    subst IsInstance (sym (assembled s.kind s.rows s.cols j c.spins.result c.in_ok-bonds.bonds c.in_ok-rotation.rotation c.in_ok-seam.seam
    c.spins.ensures.value c.in_ok-bonds.ensures c.in_ok-rotation.ensures c.in_ok-seam.ensures))
    (lattice_instance s.kind s.rows s.cols s.size j c.requires.count c.requires.sizes)

pub returns : goal.returns
returns c = grind arith
