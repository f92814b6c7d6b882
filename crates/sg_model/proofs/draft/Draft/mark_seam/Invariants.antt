use Rattle.std.proofs.Common.{◌≡◌, ℕ, ◌<◌, false, take}
use Rattle.sg_model.specs.Misplaced.{is_misplaced}
use Rattle.sg_model.specs.BadSeam.{is_bond}
use Rattle.sg_model.specs.Marks.{MarksList}
use Rattle.sg_model.proofs.draft.Draft.mark_seam.Given as goal

abbrev pub invariant-loop-bond : goal.invariant-loop-bond
invariant-loop-bond l = record {
  list : l.bond-items ≡ l.self.seam;
  in_place : (j : ℕ) → j < l.bond-index → is_misplaced (is_bond l.self) l.self.seam j ≡ false;
  marks : MarksList (is_bond l.self) l.marked (take l.bond-index l.self.seam);
}
