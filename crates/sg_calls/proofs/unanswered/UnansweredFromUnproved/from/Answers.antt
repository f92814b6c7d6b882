use Rattle.std.proofs.Common.{rules}
use Rattle.sg_calls.proofs.unanswered.UnansweredFromUnproved.from.Goals as goal

pub returns-in-NoMemory : goal.returns-in-NoMemory
returns-in-NoMemory c = search rules
