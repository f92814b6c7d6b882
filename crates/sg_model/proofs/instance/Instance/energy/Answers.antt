use Rattle.std.proofs.Common.{rules}
use Rattle.sg_model.proofs.instance.Instance.energy.Goals as goal

pub returns : goal.returns
returns c = search rules
