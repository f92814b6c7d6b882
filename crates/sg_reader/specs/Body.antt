-- The records of an instance after the first, up to its `end`: each is tested from the records between the first and
-- itself, its `body`.
use Rattle.std.specs.Prelude.{ℕ, ◌+◌, ◌-◌, ◌==◌, ◌&&◌, Bool, not, if◌then◌else◌, ℤ, List, [], ◌∷◌, length, map, filter, find, codes, Option, Some, is_some, option_map, unwrap_or}
use Rattle.std.specs.List.{flat_map, range_with_len}
use Rattle.sg_model.specs.declared.bond.Bond.{Bond}
use Rattle.sg_model.specs.declared.refusal.Refusal.{Refusal}
use Rattle.sg_model.specs.declared.refusal.Refusal.TheVariants.{BadShape, SelfBond, UnknownKind}
use Rattle.sg_model.specs.Ising.{Ising}
use Rattle.sg_lattice.specs.Tables.{bond_total, lattice}
use Rattle.sg_reader.specs.declared.header.Header.{Header}
use Rattle.sg_reader.specs.declared.header.Header.TheVariants as header
use Rattle.sg_reader.specs.declared.range.Range.{Range}
use Rattle.sg_reader.specs.Kept.{Kept, begins}
use Rattle.sg_draft.specs.Draft.{reseamed}
use Rattle.sg_draft.specs.Limits.{program_limits}
use Rattle.sg_draft.specs.Numbers.{bond_count_fault, coupling_count_fault}
use Rattle.sg_draft.specs.Tests.{first_of, refuse_if}
use Rattle.sg_reader.specs.Tests.{any_index, any_number, field_count_fault, fields_fault, field_fault, number_in, size_in, spin_below}

-- the record begins with `end`
abbrev pub says_end : Kept → Bool
says_end r = begins (codes "end") r

-- the record begins with `seam`
abbrev pub says_seam : Kept → Bool
says_seam r = begins (codes "seam") r

-- the record begins with `bond`
abbrev pub says_bond : Kept → Bool
says_bond r = begins (codes "bond") r

-- the record begins with `rot`
abbrev pub says_rot : Kept → Bool
says_rot r = begins (codes "rot") r

-- the numbers in the fields from field `from` on
abbrev pub numbers_from : Kept → ℕ → List ℤ
numbers_from r from = map (λ i. number_in r i) (range_with_len from (length r.fields - from))

-- the sizes of the numbers in the fields from field `from` on
abbrev pub sizes_from : Kept → ℕ → List ℕ
sizes_from r from = map (λ i. size_in r i) (range_with_len from (length r.fields - from))

-- the seam, if a record gives one
unfoldable pub seam_in : List Kept → Option (List ℕ)
seam_in body = option_map (λ r. sizes_from r 1) (find says_seam body)

-- the couplings of a lattice: all fields of the records that are no seam
unfoldable pub couplings_in : List Kept → List ℤ
couplings_in body = flat_map (λ r. numbers_from r 0) (filter (λ r. not (says_seam r)) body)

-- the bond of a record `bond,U,V,J`
abbrev pub bond_of : Kept → Bond
bond_of r = record { u = size_in r 1; v = size_in r 2; j = number_in r 3 }

-- the bonds of the records `bond,U,V,J`, in their order
unfoldable pub bonds_in : List Kept → List Bond
bonds_in body = map bond_of (filter says_bond body)

-- the record `rot,I,D,D,D` is of spin i
abbrev pub says_rot_of : ℕ → Kept → Bool
says_rot_of i r = says_rot r && (size_in r 1 == i)

-- the darts in the first record `rot,I,D,D,D` of spin i, if there is one
unfoldable pub rot_in : List Kept → ℕ → Option (List ℕ)
rot_in body i = option_map (λ r. sizes_from r 2) (find (says_rot_of i) body)

-- a record `rot,I,D,D,D` is of spin i
abbrev pub has_rot : List Kept → ℕ → Bool
has_rot body i = is_some (rot_in body i)

-- the darts that were given, and none if none were
abbrev pub given_darts : Option (List ℕ) → List ℕ
given_darts darts = unwrap_or darts []

-- the darts of spin i by its record `rot,I,D,D,D`, and none if it has no such record
abbrev pub darts_in : List Kept → ℕ → List ℕ
darts_in body i = given_darts (rot_in body i)

-- the tests of a list of indices that may be given once: it was not seen before, and each field is an index
abbrev pub sole_list_fault : Bool → Kept → Option Refusal
sole_list_fault seen r = first_of (refuse_if seen (BadShape r.at) ∷ fields_fault (field_fault any_index) 1 r ∷ [])

-- the record that ends a lattice of `wanted` bonds with the couplings that were found
abbrev pub lattice_end_fault : ℕ → ℕ → Kept → Option Refusal
lattice_end_fault wanted found r = first_of (field_count_fault 1 r ∷ coupling_count_fault found wanted ∷ [])

-- the tests of a record of a lattice
unfoldable pub lattice_fault : ℕ → List Kept → Kept → Option Refusal
lattice_fault wanted body r =
    if says_seam r then sole_list_fault (is_some (seam_in body)) r
    else (if says_end r then lattice_end_fault wanted (length (couplings_in body)) r
    else fields_fault (field_fault any_number) 0 r)

-- the tests of a record `WORD,U,V,Z` that connects two of n spins, followed by a number of the range
unfoldable pub link_fault : Range → ℕ → Kept → Option Refusal
link_fault range n r = first_of (
    field_count_fault 4 r
    ∷ field_fault (spin_below n) 1 r
    ∷ field_fault (spin_below n) 2 r
    ∷ field_fault range 3 r
    ∷ [])

-- bond m between spins u and v: it is one too many, or it connects a spin to itself
abbrev pub ends_fault : ℕ → ℕ → ℕ → Option Refusal
ends_fault u v m = first_of (bond_count_fault program_limits (m + 1) ∷ refuse_if (u == v) (SelfBond m) ∷ [])

-- a bond of an instance of n spins, after m bonds
abbrev pub bond_fault : ℕ → ℕ → Kept → Option Refusal
bond_fault n m r = first_of (link_fault any_number n r ∷ ends_fault (size_in r 1) (size_in r 2) m ∷ [])

-- the darts of a spin, which may have been given before
abbrev pub rot_fault : ℕ → Bool → Kept → Option Refusal
rot_fault n seen r = first_of (
    refuse_if (length r.fields == 1) (BadShape r.at)
    ∷ field_fault (spin_below n) 1 r
    ∷ fields_fault (field_fault any_index) 2 r
    ∷ refuse_if seen (BadShape r.at)
    ∷ [])

-- the tests of a record of a general instance of n spins
unfoldable pub general_fault : ℕ → List Kept → Kept → Option Refusal
general_fault n body r =
    if says_bond r then bond_fault n (length (bonds_in body)) r
    else (if says_rot r then rot_fault n (has_rot body (size_in r 1)) r
    else (if says_seam r then sole_list_fault (is_some (seam_in body)) r
    else (if says_end r then field_count_fault 1 r
    else Some (UnknownKind r.at))))

-- the first failed check of a record
abbrev pub record_fault : Header → List Kept → Kept → Option Refusal
record_fault (header.Lattice kind rows cols) body r = lattice_fault (bond_total kind rows cols) body r
record_fault (header.General n) body r = general_fault n body r

-- the instance that the records give
unfoldable pub instance_of : Header → List Kept → Ising
instance_of (header.Lattice kind rows cols) body = reseamed (seam_in body) (lattice kind rows cols (couplings_in body))
instance_of (header.General n) body = record {
  n = n;
  bonds = bonds_in body;
  rotation = map (darts_in body) (range_with_len 0 n);
  seam = unwrap_or (seam_in body) [];
}
