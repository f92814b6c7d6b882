-- `mate_of`: the pair of a set that holds the leaf.
use Rattle.std.proofs.Common.{length, vec_capacity, ◌≡◌}
use Rattle.sg_arena.specs.Family.{Holds, IsAlive, leaves_of}
use Rattle.sg_match.proofs.mates.mate_of.Given as goal
use Rattle.sg_match.specs.MatePairs.{IsSetPair}

abbrev pub invariant-loop-child : goal.invariant-loop-child
invariant-loop-child l = record {
  alive : IsAlive l.arena l.node;
  held : Holds l.arena l.node l.leaf;
  pair : IsSetPair l.arena l.pairs l.node l.pair;
  room : vec_capacity l.ring ≡ vec_capacity l.fn.ring;
}

abbrev pub decreases-loop-child : goal.decreases-loop-child
decreases-loop-child l = length (leaves_of l.arena l.node)
