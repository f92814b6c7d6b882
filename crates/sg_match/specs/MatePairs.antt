-- Pairs of all sets, from the tops down to the leaves.
use Rattle.std.specs.Prelude.{◌≡◌, ℕ, zero, suc, ◌<◌, List, length, Option, Some}
use Rattle.sg_arena.specs.Family.{Family, Holds, IsTop, cycle_of, leaf_node, link_at}
use Rattle.sg_match.specs.Pairs.{pair_of}
use Rattle.sg_match.specs.Rings.{ring_pair, rotated}
use Rattle.sg_match.specs.declared.Edge.{Edge}

-- the child n has the pair p if its blossom b has the pair q: the children are a ring from that on which holds the
-- end of q
pub record IsInside (f : Family) (b : ℕ) (q : Edge) (n : ℕ) (p : Edge) : Type 0 where
  pub start : ℕ
  pub low : start < length (cycle_of f b)
  pub base : Holds f (link_at (cycle_of f b) start).node q.from
  pub place : ℕ
  pub within : place < length (rotated start (cycle_of f b))
  pub here : (link_at (rotated start (cycle_of f b)) place).node ≡ n
  pub is : p ≡ ring_pair (rotated start (cycle_of f b)) q place

-- the pair of a set so many blossoms below a top, whose pair is its own
abbrev pub IsSetPairAt : Family → List (Option Edge) → ℕ → ℕ → Edge → Type 0
IsSetPairAt f pairs zero n p = IsTop f n × (pair_of pairs n ≡ Some p)
IsSetPairAt f pairs (suc depth) n p = (b : ℕ) × (q : Edge) × IsSetPairAt f pairs depth b q × IsInside f b q n p

-- the pair of a set
abbrev pub IsSetPair : Family → List (Option Edge) → ℕ → Edge → Type 0
IsSetPair f pairs n p = (depth : ℕ) × IsSetPairAt f pairs depth n p

-- the pair of the leaf's node leads to the mate
abbrev pub IsMate : Family → List (Option Edge) → ℕ → ℕ → Type 0
IsMate f pairs leaf mate = (p : Edge) × IsSetPair f pairs (leaf_node f leaf) p × (mate ≡ p.to)
