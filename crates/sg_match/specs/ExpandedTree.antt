-- The tree after the expansion of an inner blossom.
use Rattle.std.specs.Prelude.{ℕ, suc, ◌==◌, List, [], ◌∷◌, ◌++◌, length, take, drop}
use Rattle.std.specs.Prelude.{if◌then◌else◌}
use Rattle.sg_arena.specs.Family.{link_at}
use Rattle.sg_arena.specs.declared.Link.{Link}
use Rattle.sg_match.specs.Pairs.{edge_of_link}
use Rattle.sg_match.specs.Tree.{tree_edge_at}
use Rattle.sg_match.specs.declared.Edge.{Edge}
use Rattle.sg_match.specs.declared.TreeEdge.{TreeEdge}

-- the tree edges over links of a ring, two by two, and at last that of the first node to the outer top of a tree edge
abbrev pub ring_edges : TreeEdge → ℕ → Edge → List Link → List TreeEdge
ring_edges l first up [] = record { inner = first; outer = l.outer; up = up; pair = l.pair } ∷ []
ring_edges l first up (one ∷ []) = record { inner = first; outer = l.outer; up = up; pair = l.pair } ∷ []
ring_edges l first up (one ∷ (two ∷ rest)) =
    record { inner = one.node; outer = two.node; up = up; pair = edge_of_link one }
    ∷ ring_edges l first (record { from = two.to; to = two.from }) rest

-- the place of the ring from which its nodes go into the tree: its entry, or its end if that is the first node
abbrev pub ring_start : ℕ → ℕ → ℕ
ring_start entry count = if entry == 0 then count else entry

-- the tree edges, with those of the ring in place of the blossom's
abbrev pub expanded_edges : List TreeEdge → ℕ → List Link → ℕ → List TreeEdge
expanded_edges edges at ring entry = take at edges
    ++ (ring_edges (tree_edge_at edges at) (link_at ring 0).node (tree_edge_at edges at).up
    (drop (ring_start entry (length ring)) ring) ++ drop (suc at) edges)
