use Rattle.std.proofs.Common.{rules}
use Rattle.sg_model.proofs.RotationFaults.{seam_in_place}
use Rattle.sg_model.proofs.draft.Draft.wrong_bond.Goals as goal

pub returns : goal.returns
returns c = search (rules, seam_in_place c.args.self.now)
