-- The tables of the built-in lattices: R rows, which grow to the south, and C columns, which grow to the east.
-- Spin (r, c) has the number r * C + c.
use Rattle.std.specs.Prelude.{ℕ, ℤ, pos, ◌+◌, ◌-◌, ◌*◌, ◌/◌, ◌%◌, ◌^◌, ◌≤◌, ◌==◌, ◌&&◌, Bool, true, false, nat_lt, nat_le, if◌then◌else◌, List, [], ◌∷◌, ◌++◌, length, map, filter, slice_index_or}
use Rattle.std.specs.List.{range_with_len}
use Rattle.sg_model.specs.declared.bond.Bond.{Bond}
use Rattle.sg_model.specs.Ising.{Ising}
use Rattle.sg_lattice.specs.declared.kind.Kind.{Kind}
use Rattle.sg_lattice.specs.declared.kind.Kind.TheVariants.{Square, Triangular, Hexagonal, Cylinder}
use Rattle.sg_lattice.specs.declared.kind.Step.{Step}
use Rattle.sg_lattice.specs.declared.kind.Step.TheVariants.{East, South, SouthEast}
use Rattle.sg_lattice.specs.declared.kind.Ends.{Ends}

-- the least number of columns
abbrev pub least_cols : Kind → ℕ
least_cols Hexagonal = 2
least_cols Cylinder = 3
least_cols kind = 1

-- the sizes that a lattice may have
pub record IsSize (kind : Kind) (R C : ℕ) : Type 0 where
  pub rows : 1 ≤ R
  pub cols : least_cols kind ≤ C
  pub few : R * C ≤ 2 ^ 22

-- whether a bond runs from spin (r, c) to its neighbour in the east, south or south-east
abbrev pub has_bond : Kind → Step → ℕ → ℕ → ℕ → ℕ → Bool
has_bond Cylinder East R C r c = true
has_bond kind East R C r c = nat_lt (c + 1) C
has_bond Hexagonal South R C r c = nat_lt (r + 1) R && ((r + c) % 2 == 0)
has_bond kind South R C r c = nat_lt (r + 1) R
has_bond Triangular SouthEast R C r c = nat_lt (r + 1) R && nat_lt (c + 1) C
has_bond kind SouthEast R C r c = false

-- that neighbour, the second end of the bond
abbrev pub neighbour : Kind → Step → ℕ → ℕ → ℕ → ℕ → ℕ
neighbour Cylinder East R C r c = r * C + (c + 1) % C
neighbour kind East R C r c = r * C + (c + 1)
neighbour kind South R C r c = (r + 1) * C + c
neighbour kind SouthEast R C r c = (r + 1) * C + (c + 1)

-- how many bonds of a hexagonal lattice run to the south from the rows before r: C from each two rows,
-- and from an even row each second spin
abbrev pub vertical_bonds_before : ℕ → ℕ → ℕ
vertical_bonds_before C r = r / 2 * C + (if r % 2 == 1 then (C + 1) / 2 else 0)

-- the number of the bond
abbrev pub bond_number : Kind → Step → ℕ → ℕ → ℕ → ℕ → ℕ
bond_number Cylinder East R C r c = r * C + c
bond_number kind East R C r c = r * (C - 1) + c
bond_number Cylinder South R C r c = R * C + (r * C + c)
bond_number Hexagonal South R C r c = R * (C - 1) + (vertical_bonds_before C r + c / 2)
bond_number kind South R C r c = R * (C - 1) + (r * C + c)
bond_number kind SouthEast R C r c = R * (C - 1) + ((R - 1) * C + (r * (C - 1) + c))

-- the number of all bonds
abbrev pub bond_total : Kind → ℕ → ℕ → ℕ
bond_total Square R C = R * (C - 1) + (R - 1) * C
bond_total Triangular R C = R * (C - 1) + ((R - 1) * C + (R - 1) * (C - 1))
bond_total Hexagonal R C = R * (C - 1) + vertical_bonds_before C (R - 1)
bond_total Cylinder R C = R * C + (R - 1) * C

-- the spins from which such a bond runs, row by row and from west to east
abbrev pub bond_origins : Kind → Step → ℕ → ℕ → List ℕ
bond_origins kind step R C = filter (λ i. has_bond kind step R C (i / C) (i % C)) (range_with_len 0 (R * C))

-- the two ends of the bond that runs from spin i
abbrev pub ends_from : Kind → Step → ℕ → ℕ → ℕ → Ends
ends_from kind step R C i = record { u = i; v = neighbour kind step R C (i / C) (i % C) }

-- the ends of all bonds, in the order of the bonds
abbrev pub ends_of : Kind → ℕ → ℕ → List Ends
ends_of kind R C =
    map (ends_from kind East R C) (bond_origins kind East R C)
    ++ (map (ends_from kind South R C) (bond_origins kind South R C)
    ++ map (ends_from kind SouthEast R C) (bond_origins kind SouthEast R C))

-- the ends of bond k
abbrev pub bond_ends : List Ends → ℕ → Ends
bond_ends ends k = slice_index_or ends k (record { u = 0; v = 0 })

-- the bond between these ends with this coupling
abbrev pub coupled_bond : Ends → ℤ → Bond
coupled_bond ends coupling = record { u = ends.u; v = ends.v; j = coupling }

-- the bonds between given ends with given couplings
abbrev pub bonds_between : List Ends → List ℤ → List Bond
bonds_between ends couplings =
    map (λ k. coupled_bond (bond_ends ends k) (slice_index_or couplings k (pos 0))) (range_with_len 0 (length ends))

-- the dart that leaves spin (r, c) by its own bond
abbrev pub own_dart : Kind → Step → ℕ → ℕ → ℕ → ℕ → List ℕ
own_dart kind step R C r c = if has_bond kind step R C r c then (2 * bond_number kind step R C r c) ∷ [] else []

-- the dart that runs back to spin (r, c) by its bond
abbrev pub reverse_dart : Kind → Step → ℕ → ℕ → ℕ → ℕ → List ℕ
reverse_dart kind step R C r c = if has_bond kind step R C r c then (2 * bond_number kind step R C r c + 1) ∷ [] else []

-- the dart to the east, if there is a bond
abbrev pub east : Kind → ℕ → ℕ → ℕ → ℕ → List ℕ
east kind R C r c = own_dart kind East R C r c

-- the dart to the north, if there is a bond
abbrev pub north : Kind → ℕ → ℕ → ℕ → ℕ → List ℕ
north kind R C r c = if nat_le 1 r then reverse_dart kind South R C (r - 1) c else []

-- the dart to the north-west, if there is a bond
abbrev pub north_west : Kind → ℕ → ℕ → ℕ → ℕ → List ℕ
north_west kind R C r c = if nat_le 1 r && nat_le 1 c then reverse_dart kind SouthEast R C (r - 1) (c - 1) else []

-- the dart to the west, if there is a bond; on a cylinder the first column leads back to the last
abbrev pub west : Kind → ℕ → ℕ → ℕ → ℕ → List ℕ
west Cylinder R C r c =
    if nat_le 1 c then reverse_dart Cylinder East R C r (c - 1) else reverse_dart Cylinder East R C r (C - 1)
west kind R C r c = if nat_le 1 c then reverse_dart kind East R C r (c - 1) else []

-- the dart to the south, if there is a bond
abbrev pub south : Kind → ℕ → ℕ → ℕ → ℕ → List ℕ
south kind R C r c = own_dart kind South R C r c

-- the dart to the south-east, if there is a bond
abbrev pub south_east : Kind → ℕ → ℕ → ℕ → ℕ → List ℕ
south_east kind R C r c = own_dart kind SouthEast R C r c

-- the darts of spin (r, c), in their cyclic order
abbrev pub darts : Kind → ℕ → ℕ → ℕ → ℕ → List ℕ
darts kind R C r c =
    east kind R C r c ++ (north kind R C r c ++ (north_west kind R C r c
    ++ (west kind R C r c ++ (south kind R C r c ++ south_east kind R C r c))))

-- on a cylinder the bonds that run from the last column to the first
abbrev pub seam_of : Kind → ℕ → ℕ → List ℕ
seam_of Cylinder R C = map (λ r. r * C + (C - 1)) (range_with_len 0 R)
seam_of kind R C = []

-- the lattice
abbrev pub lattice : Kind → ℕ → ℕ → List ℤ → Ising
lattice kind R C couplings = record {
  n = R * C;
  bonds = bonds_between (ends_of kind R C) couplings;
  rotation = map (λ i. darts kind R C (i / C) (i % C)) (range_with_len 0 (R * C));
  seam = seam_of kind R C;
}
