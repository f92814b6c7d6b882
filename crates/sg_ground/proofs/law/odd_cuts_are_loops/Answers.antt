use Rattle.sg_ground.proofs.FrustratedCuts.{odd_cut_is_loop}
use Rattle.sg_ground.proofs.law.odd_cuts_are_loops.Goals as goal

pub returns : goal.returns
returns c = λ inst faces bonds good labels cut. odd_cut_is_loop inst faces good labels bonds cut
