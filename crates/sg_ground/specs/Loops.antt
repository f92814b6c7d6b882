-- The loops of a packing of odd cuts.
use Rattle.sg_graph.specs.declared.cut.Cut.{Cut}
use Rattle.sg_check.specs.declared.packing.Loop.{Loop}

-- a cut of the dual as a loop of the bonds: the same numbers, with the same weight
abbrev pub loop_of : Cut → Loop
loop_of c = record { y = c.y; bonds = c.edges }
