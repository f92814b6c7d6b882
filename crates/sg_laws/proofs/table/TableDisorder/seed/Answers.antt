use Rattle.std.proofs.Common.{rules}
use Rattle.sg_laws.proofs.table.TableDisorder.seed.Goals as goal

pub returns-clause-stream : goal.returns-clause-stream
returns-clause-stream c = search rules
