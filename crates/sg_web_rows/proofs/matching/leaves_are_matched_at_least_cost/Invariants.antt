-- The ledger is the blank's.
use Rattle.sg_web_rows.proofs.matching.leaves_are_matched_at_least_cost.Given as goal

abbrev pub ghosts-expect_all : goal.ghosts-expect_all
ghosts-expect_all g a = record { name = a.blank.name; parts = a.blank.parts }
