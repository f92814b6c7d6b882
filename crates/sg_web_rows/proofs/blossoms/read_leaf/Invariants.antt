use Rattle.sg_arena.specs.Family.{IsAlive, Holds}
use Rattle.sg_web_rows.proofs.blossoms.read_leaf.Given as goal

-- the node holds the leaf
abbrev pub invariant-loop-ring : goal.invariant-loop-ring
invariant-loop-ring g l = record { alive : IsAlive l.arena l.node; holds : Holds l.arena l.node l.leaf }
