-- Lists of bonds as the broken bonds of an assignment (Toulouse 1977).
use Rattle.std.specs.Prelude.{◌≡◌, ℕ, ◌%◌, ◌<◌, ℤ, List}
use Rattle.sg_base.specs.Sets.{holds}
use Rattle.sg_model.specs.Ising.{Ising, bond_at, bond_count}
use Rattle.sg_model.specs.Broken.{is_broken, is_negative}
use Rattle.sg_faces.specs.Faces.{Labelling}
use Rattle.sg_faces.specs.Sides.{sides_on}

-- on each face as many darts of bonds of the list as darts of negative bonds, up to an even number
abbrev pub FitsFaces : Ising → Labelling → List ℕ → Type 0
FitsFaces inst faces bonds =
    (f : ℕ) → f < faces.count →
    sides_on inst faces f (holds bonds) % 2 ≡ sides_on inst faces f (λ k. is_negative (bond_at inst k)) % 2

-- the broken bonds are those of the list
abbrev pub BreaksExactly : Ising → List ℤ → List ℕ → Type 0
BreaksExactly inst s bonds = (k : ℕ) → k < bond_count inst → is_broken s (bond_at inst k) ≡ holds bonds k
