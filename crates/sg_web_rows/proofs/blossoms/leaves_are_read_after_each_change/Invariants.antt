use Rattle.sg_web_rows.proofs.blossoms.leaves_are_read_after_each_change.Given as goal

-- the ledger is the blank's
abbrev pub ghosts-expect_all : goal.ghosts-expect_all
ghosts-expect_all g a = record { name = a.blank.name; parts = a.blank.parts }
