use Rattle.std.proofs.Common.{rules}
use Rattle.sg_words.proofs.command.ensemble_of.Goals as goal

pub returns-clause-value : goal.returns-clause-value
returns-clause-value c = search rules

pub returns-clause-allowed : goal.returns-clause-allowed
returns-clause-allowed c = search rules
