use Rattle.sg_model.proofs.RotationFaults.{bad_rotation, rotation_marked}
use Rattle.sg_model.proofs.draft.Draft.first_wrong.Goals as goal

pub returns : goal.returns
returns c =
    let first = c.mark_lists-first.ensures in
    let least = c.least_unmarked.ensures in
    record {
      none = λ past. rotation_marked c.args.self.now _ _ first.marks _ _ _ c.requires.lists first.stop least.earlier least.least past;
      fault = λ below. bad_rotation c.args.self.now _ _ first.marks _ _ _ least.earlier first.misplaced least.least below;
    }
