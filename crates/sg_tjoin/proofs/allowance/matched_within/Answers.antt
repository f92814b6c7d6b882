use Rattle.std.proofs.Common.{rules}
use Rattle.sg_tjoin.proofs.allowance.matched_within.Goals as goal

pub returns-then-most_bytes-table_bytes-clause-too_large : goal.returns-then-most_bytes-table_bytes-clause-too_large
returns-then-most_bytes-table_bytes-clause-too_large c = search rules
