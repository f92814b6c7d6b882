use Rattle.std.proofs.Common.{sym, subst}
use Rattle.sg_model.specs.Changes.{HasSameEnds}
use Rattle.sg_model.proofs.Recoupled.{flipped_ends}
use Rattle.sg_model.proofs.instance.Instance.flip_seam.Goals as goal

pub with_bonds-requires : goal.with_bonds-requires
with_bonds-requires c =
    subst (HasSameEnds c.args.self.now) (sym c.in_ok-bonds.ensures.bonds)
    (flipped_ends c.args.self.now c.in_ok-bonds.ensures.instance.draft.joined)
