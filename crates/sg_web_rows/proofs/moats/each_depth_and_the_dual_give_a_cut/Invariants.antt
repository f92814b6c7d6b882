-- The ledger is the blank's.
use Rattle.sg_web_rows.proofs.moats.each_depth_and_the_dual_give_a_cut.Given as goal

abbrev pub ghosts-expect_all : goal.ghosts-expect_all
ghosts-expect_all g a = record { name = a.blank.name; parts = a.blank.parts }
