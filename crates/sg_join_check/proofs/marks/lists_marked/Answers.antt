use Rattle.std.proofs.Common.{arith}
use Rattle.sg_base.proofs.MarkedLists.{lists_all}
use Rattle.sg_join_check.proofs.marks.lists_marked.Goals as goal

pub returns-then-list-count : goal.returns-then-list-count
returns-then-list-count c = λ holds. lists_all _ _ c.requires.rising c.requires.below (c.all_marked.ensures holds)
    (omega (arith, c.if-list-count.true, c.requires.counted))
