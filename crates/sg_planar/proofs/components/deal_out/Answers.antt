use Rattle.std.proofs.Common.{arith}
use Rattle.sg_planar.proofs.PartPlaces.{labels_low, names_low, naming_of_all, split_made}
use Rattle.sg_planar.proofs.components.deal_out.Goals as goal

pub deal-requires-clause-below : goal.deal-requires-clause-below
deal-requires-clause-below c = grind (arith, names_low, naming_of_all)

pub deal-requires-2-clause-below : goal.deal-requires-2-clause-below
deal-requires-2-clause-below c =
    rw (c.n-2.ensures.value, c.deref.ensures.value, c.in_ok-labels.ensures, c.as_slice.ensures, c.bonds.ensures.value)
    (labels_low c.args.inst.now c.bonds.ensures.instance c.args.names.now c.requires.count (naming_of_all c.args.inst.now c.args.names.now c.requires))

pub returns : goal.returns
returns c =
    split_made c.args.inst.now c.bonds.ensures.instance c.args.names.now c.requires.count (naming_of_all c.args.inst.now c.args.names.now c.requires)
    c.in_ok-labels.labels.items c.in_ok-spins.spins.lists.items c.in_ok-spins.spins.places.items
    c.in_ok-bonds.bonds.lists.items c.in_ok-bonds.bonds.places.items
    (rw (c.as_slice.ensures, c.bonds.ensures.value) at c.in_ok-labels.ensures)
    (rw c.n.ensures.value at c.in_ok-spins.ensures)
    (rw (c.deref.ensures.value, c.n-2.ensures.value) at c.in_ok-bonds.ensures)
