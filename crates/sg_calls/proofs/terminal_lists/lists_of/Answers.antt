use Rattle.std.proofs.Common.{rules}
use Rattle.sg_calls.proofs.terminal_lists.lists_of.Goals as goal

pub returns-in_err-check_place-clause-refuses : goal.returns-in_err-check_place-clause-refuses
returns-in_err-check_place-clause-refuses c = search rules
