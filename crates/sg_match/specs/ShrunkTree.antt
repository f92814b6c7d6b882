-- The tree after a shrink.
use Rattle.std.specs.Prelude.{ℕ, List, map, filter, not, if◌then◌else◌}
use Rattle.sg_arena.specs.Family.{Family, holds}
use Rattle.sg_match.specs.declared.TreeEdge.{TreeEdge}

-- the tree edge with another outer top
abbrev pub with_outer : TreeEdge → ℕ → TreeEdge
with_outer l node = record { inner = l.inner; outer = node; up = l.up; pair = l.pair }

-- with the blossom as its outer top, if the end of its pair is a leaf of that
abbrev pub renamed_edge : Family → ℕ → TreeEdge → TreeEdge
renamed_edge f blossom l = with_outer l (if holds f blossom l.pair.to then blossom else l.outer)

-- the tree edges that begin outside the blossom, renamed
abbrev pub shrunk_edges : Family → ℕ → List TreeEdge → List TreeEdge
shrunk_edges f blossom edges = map (renamed_edge f blossom) (filter (λ l. not (holds f blossom l.up.from)) edges)
