use Rattle.std.proofs.Common.{◌≡◌, ◌∙◌, ap, List, ℕ, arith}
use Rattle.sg_model.specs.Ising.{Ising}
use Rattle.sg_planar.specs.Parts.{restricted}
use Rattle.sg_planar.proofs.NamedParts.{IsDealtPart, dealt_part}
use Rattle.sg_planar.proofs.components.part_from.Goals as goal
use Rattle.sg_planar.proofs.components.part_from.Goals.{After-deref-2}

-- what was dealt out makes a part
dealt : (c : After-deref-2) → IsDealtPart c.args.planar.now.instance c.args.least c.in_ok-spins.spins c.in_ok-bonds.bonds
    c.args.split.now.spins.places.items c.args.split.now.bonds.places.items
dealt c =
    dealt_part c.instance-inst.ensures.planar.instance c.requires.split c.instance-inst.ensures.planar.genus_zero c.instance-inst.ensures.planar.sum
    c.args.least c.requires.least_in c.requires.least_own c.in_ok-spins.spins c.in_ok-bonds.bonds c.index.result.now c.index-2.result.now
    c.in_ok-spins.ensures.cases c.index.ensures c.in_ok-bonds.ensures.cases c.index-2.ensures

pub part_instance-requires-clause-closed : goal.part_instance-requires-clause-closed
part_instance-requires-clause-closed c = grind (arith, dealt)

pub part_instance-requires-clause-spin_places : goal.part_instance-requires-clause-spin_places
part_instance-requires-clause-spin_places c = grind (arith, dealt)

pub part_instance-requires-clause-bond_places : goal.part_instance-requires-clause-bond_places
part_instance-requires-clause-bond_places c = grind (arith, dealt)

-- the instance of the part, where it was made of the one that is lent
made : {inst lent part : Ising} (spins bonds : List ℕ) → part ≡ restricted lent spins bonds → lent ≡ inst → part ≡ restricted inst spins bonds
made spins bonds is same = is ∙ ap (λ i. restricted i spins bonds) same

pub planar_of-requires-clause-connected : goal.planar_of-requires-clause-connected
planar_of-requires-clause-connected c =
    rw (made c.in_ok-spins.spins c.in_ok-bonds.bonds c.in_ok-instance.ensures c.instance-inst.ensures.value)
    (dealt (goal.at.planar_of-requires-clause-connected c).After-deref-2).connected

pub planar_of-requires-clause-planar : goal.planar_of-requires-clause-planar
planar_of-requires-clause-planar c =
    rw (made c.in_ok-spins.spins c.in_ok-bonds.bonds c.in_ok-instance.ensures c.instance-inst.ensures.value)
    (dealt (goal.at.planar_of-requires-clause-planar c).After-deref-2).planar

pub returns : goal.returns
returns c =
    (dealt (goal.at.returns c).After-deref-2).part c.in_ok-planar.planar
    (c.in_ok-planar.ensures.instance ∙ made c.in_ok-spins.spins c.in_ok-bonds.bonds c.in_ok-instance.ensures c.instance-inst.ensures.value)
    c.in_ok-planar.ensures.planar
