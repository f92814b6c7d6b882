-- The members of an instance in JSON: which are allowed, and what their data says, as a draft.
use Rattle.std.specs.Prelude.{ℕ, ◌^◌, ◌==◌, ℤ, pos, int_le, nat_lt, unsigned_abs, Bool, false, not, ◌&&◌, ◌||◌, if◌then◌else◌, List, [], ◌∷◌, length, map, slice_index_or, position, codes, Option, Some, None, option_map, option_and_then, is_some, unwrap_or}
use Rattle.std.specs.List.{list_all}
use Rattle.std.specs.Str.{bytes_eq}
use Rattle.serde_json.specs.Data.{Data, null, Items, no_items, item, Members, no_members, member}
use Rattle.serde_json.specs.Find.{get, as_number, as_i64, as_array, as_object, as_str}
use Rattle.sg_model.specs.declared.bond.Bond.{Bond}
use Rattle.sg_lattice.specs.declared.kind.Kind.{Kind}
use Rattle.sg_reader.specs.declared.header.Form.{Form}
use Rattle.sg_reader.specs.declared.header.Form.TheVariants as form
use Rattle.sg_reader.specs.Header.{form_of}
use Rattle.sg_draft.specs.declared.read.Read.{Read}
use Rattle.sg_draft.specs.Bonds.{is_among, is_coupling}
use Rattle.sg_draft.specs.Draft.{Draft, GeneralDraft, LatticeDraft, OfGeneral, OfLattice}
use Rattle.sg_draft.specs.Reads.{unless}
use Rattle.sg_json.specs.declared.entry.Entry.{Entry}
use Rattle.sg_json.specs.declared.entry.Entry.TheVariants as entry

-- the items of an array as a list
abbrev pub item_list : Items → List Data
item_list no_items = []
item_list (item d ds) = d ∷ item_list ds

-- the names of the members of an object, in their order
abbrev pub member_names : Members → List (List ℕ)
member_names no_members = []
member_names (member name d ms) = name ∷ member_names ms

-- the names of the members of a value, and none if it is no object
abbrev pub names_in : Data → List (List ℕ)
names_in d = unwrap_or (option_map member_names (as_object d)) []

-- a value as a whole number of 64 bits, as `serde_json` reads it
abbrev pub whole_number : Data → Option ℤ
whole_number d = option_and_then as_i64 (as_number d)

-- a value as a whole number from 0 on
abbrev pub natural_number : Data → Option ℕ
natural_number d = option_and_then (λ z. if int_le (pos 0) z then Some (unsigned_abs z) else None) (whole_number d)

-- a value as a whole number from 0 to 4294967295, which numbers a spin, a bond or a dart
abbrev pub index_number : Data → Option ℕ
index_number d = option_and_then (λ n. if nat_lt n (2 ^ 32) then Some n else None) (natural_number d)

-- the whole number of a value, and 0 if it is none
abbrev pub value_number : Data → ℤ
value_number d = unwrap_or (whole_number d) (pos 0)

-- the index of a value, and 0 if it is none
abbrev pub value_index : Data → ℕ
value_index d = unwrap_or (index_number d) 0

-- a value as a list
abbrev pub list_in : Data → Option (List Data)
list_in d = option_map item_list (as_array d)

-- the items of a value, and none if it is no list
abbrev pub items_in : Data → List Data
items_in d = unwrap_or (list_in d) []

-- item i, and null past the last
abbrev pub item_at : List Data → ℕ → Data
item_at ds i = slice_index_or ds i null

-- the bond of three numbers: its two ends and its coupling
abbrev pub triple : List Data → Bond
triple ds = record { u = value_index (item_at ds 0); v = value_index (item_at ds 1); j = value_number (item_at ds 2) }

-- a value as a bond
abbrev pub value_bond : Data → Bond
value_bond d = triple (items_in d)

-- a value as a list of indices
abbrev pub value_indices : Data → List ℕ
value_indices d = map value_index (items_in d)

-- the member of a name as a list
abbrev pub member_list : List ℕ → Data → Option (List Data)
member_list name d = option_and_then list_in (get name d)

-- the items of the member of a name, and none if it is no list
abbrev pub items_at : List ℕ → Data → List Data
items_at name d = unwrap_or (member_list name d) []

-- the member of a name as a whole number from 0 on
abbrev pub size_at : List ℕ → Data → Option ℕ
size_at name d = option_and_then natural_number (get name d)

-- the kind, one of the five words
abbrev pub form_in : Data → Option Form
form_in d = option_and_then form_of (option_and_then as_str (get (codes "kind") d))

-- a name that a lattice and a general instance may have
abbrev pub is_common : List ℕ → Bool
is_common name = bytes_eq name (codes "kind") || bytes_eq name (codes "seam")

-- a name that an instance of this form may have
abbrev pub is_known : Form → List ℕ → Bool
is_known (form.Lattice kind) name =
    is_common name || bytes_eq name (codes "rows") || bytes_eq name (codes "cols") || bytes_eq name (codes "couplings")
is_known form.General name =
    is_common name || bytes_eq name (codes "n") || bytes_eq name (codes "bonds") || bytes_eq name (codes "rotation")

-- three numbers: two indices, and a whole number
abbrev pub is_triple : List Data → Bool
is_triple ds =
    (length ds == 3)
    && (is_some (index_number (item_at ds 0))
    && (is_some (index_number (item_at ds 1)) && is_some (whole_number (item_at ds 2))))

-- a list, each item of which is an index
abbrev pub are_indices : Option (List Data) → Bool
are_indices None = false
are_indices (Some ds) = list_all (λ d. is_some (index_number d)) ds

-- whether a value is an entry of its list: a coupling; a bond between two of n spins; a list of indices; an index
abbrev pub is_entry : Entry → Data → Bool
is_entry entry.Coupling d = is_some (whole_number d) && is_coupling (value_number d)
is_entry (entry.Bond n) d = is_triple (items_in d) && is_among n (value_bond d)
is_entry entry.Darts d = are_indices (list_in d)
is_entry entry.Index d = is_some (index_number d)

-- the first item that is no entry of its list
abbrev pub first_wrong : Entry → List Data → Option ℕ
first_wrong what ds = position (λ d. not (is_entry what d)) ds

-- the entry at which a list is wrong, and 0 if there is no list
abbrev pub wrong_list : Entry → Option (List Data) → Option ℕ
wrong_list what None = Some 0
wrong_list what (Some ds) = first_wrong what ds

-- the entry at which a rotation of n spins is wrong, and 0 if it has not n lists
abbrev pub wrong_rotation : ℕ → Option (List Data) → Option ℕ
wrong_rotation n None = Some 0
wrong_rotation n (Some ds) = if length ds == n then first_wrong entry.Darts ds else Some 0

-- the entry at which the seam is wrong; it may be missing
abbrev pub wrong_seam : Option Data → Option ℕ
wrong_seam seam = option_and_then (λ d. wrong_list entry.Index (list_in d)) seam

-- the entries of the member of a name, unless one is wrong
abbrev pub read_list : {X : Type 0} → (Option (List Data) → Option ℕ) → (Data → X) → List ℕ → Data
    → Read (List X)
read_list wrong entry_of name d = unless (wrong (member_list name d)) (map entry_of (items_at name d))

-- the seam, if there is one, unless an entry is wrong
abbrev pub read_seam : Option Data → Read (Option (List ℕ))
read_seam seam = unless (wrong_seam seam) (option_map value_indices seam)

-- the number of spins, and 0 if it is missing
abbrev pub member_spins : Data → ℕ
member_spins d = unwrap_or (size_at (codes "n") d) 0

-- what the members of a lattice say
abbrev pub lattice_draft : Kind → Data → LatticeDraft
lattice_draft kind d = record {
  kind = kind;
  rows = size_at (codes "rows") d;
  cols = size_at (codes "cols") d;
  couplings = read_list (wrong_list entry.Coupling) value_number (codes "couplings") d;
  seam = read_seam (get (codes "seam") d);
}

-- what the members of a general instance say
abbrev pub general_draft : Data → GeneralDraft
general_draft d = record {
  spins = size_at (codes "n") d;
  bonds = read_list (wrong_list (entry.Bond (member_spins d))) value_bond (codes "bonds") d;
  rotation = read_list (wrong_rotation (member_spins d)) value_indices (codes "rotation") d;
  seam = read_seam (get (codes "seam") d);
}

-- what the members of an instance of this form say
abbrev pub draft_of : Form → Data → Draft
draft_of (form.Lattice kind) d = OfLattice (lattice_draft kind d)
draft_of form.General d = OfGeneral (general_draft d)
