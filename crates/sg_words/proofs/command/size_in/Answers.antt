use Rattle.std.proofs.Common.{rules}
use Rattle.sg_words.proofs.command.size_in.Goals as goal

pub returns-then-from-clause-value : goal.returns-then-from-clause-value
returns-then-from-clause-value c = search rules

pub returns-then-from-clause-allowed : goal.returns-then-from-clause-allowed
returns-then-from-clause-allowed c = search rules

pub returns-then-from-clause-most : goal.returns-then-from-clause-most
returns-then-from-clause-most c = search rules
