use Rattle.sg_bonds.proofs.Common.{subst, Ising}
use Rattle.sg_bonds.specs.Bounds.{Narrows}
use Rattle.sg_bonds.proofs.NarrowedBounds.{narrows_through}
use Rattle.sg_bonds.proofs.enclosing.narrow_by_rounds.Goals as goal

pub returns-clause-narrows : goal.returns-clause-narrows
returns-clause-narrows c =
    narrows_through c.args.study.now.planar.now.instance c.args.bounds.now c.note_parts.new.bounds c.weaken_all.new.bounds
    (subst (λ (i : Ising). Narrows i c.args.bounds.now c.note_parts.new.bounds) c.instance-inst.ensures.value c.note_parts.ensures)
    c.weaken_all.ensures.narrows
