use Rattle.sg_tjoin.proofs.TableBounds.{tables_bounded}
use Rattle.sg_tjoin.proofs.allowance.tables_are_bounded.Goals as goal

pub returns : goal.returns
returns c = λ g terminals most are within. tables_bounded g terminals are most within
