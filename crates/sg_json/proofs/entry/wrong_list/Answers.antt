use Rattle.std.proofs.Common.{rules}
use Rattle.sg_json.proofs.entry.wrong_list.Goals as goal

pub returns : goal.returns
returns c = search rules
