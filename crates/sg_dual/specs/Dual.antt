-- The dual of an instance: its faces as nodes, its bonds as edges, and the frustrated faces (Toulouse 1977).
use Rattle.std.specs.Prelude.{ℕ, ◌+◌, ◌*◌, ◌%◌, ◌==◌, Bool, pos, List, slice_index, unsigned_abs, map}
use Rattle.std.specs.List.{range_with_len}
use Rattle.sg_model.specs.Ising.{Ising, bond_at, bond_count}
use Rattle.sg_model.specs.Broken.{is_negative}
use Rattle.sg_faces.specs.Faces.{Labelling}
use Rattle.sg_faces.specs.Sides.{sides_on}
use Rattle.sg_graph.specs.declared.web.Edge.{Edge}
use Rattle.sg_graph.specs.Web.{Graph}
use Rattle.sg_base.specs.Sets.{chosen_below}

-- the face on the side of dart d
abbrev pub face_of : Labelling → ℕ → ℕ
face_of faces d = slice_index faces.labels d

-- the edge of bond k: it connects the faces on the two sides of the bond, and weighs the size of its coupling
abbrev pub dual_edge : Ising → Labelling → ℕ → Edge
dual_edge inst faces k = record {
  a = face_of faces (2 * k);
  b = face_of faces (2 * k + 1);
  w = pos (unsigned_abs (bond_at inst k).j);
}

-- a node for each face, and an edge for each bond
abbrev pub dual_web : Ising → Labelling → Graph
dual_web inst faces = record {
  nodes = faces.count;
  edges = map (dual_edge inst faces) (range_with_len 0 (bond_count inst));
}

-- whether bond k is negative
abbrev pub is_negative_bond : Ising → ℕ → Bool
is_negative_bond inst k = is_negative (bond_at inst k)

-- how many darts of face f belong to negative bonds
abbrev pub negative_sides : Ising → Labelling → ℕ → ℕ
negative_sides inst faces f = sides_on inst faces f (is_negative_bond inst)

-- whether a walk along face f passes an odd number of negative bonds
abbrev pub is_frustrated : Ising → Labelling → ℕ → Bool
is_frustrated inst faces f = negative_sides inst faces f % 2 == 1

-- the frustrated faces, rising
abbrev pub frustrated_faces : Ising → Labelling → List ℕ
frustrated_faces inst faces = chosen_below (is_frustrated inst faces) faces.count
