-- The first record of an instance: the kind of a lattice with its rows and columns, or `general` with the number of
-- spins.
use Rattle.std.specs.Prelude.{ℕ, ◌*◌, ◌≤◌, if◌then◌else◌, List, [], ◌∷◌, codes, Option, Some, None}
use Rattle.std.specs.Str.{bytes_eq}
use Rattle.sg_model.specs.declared.refusal.Refusal.{Refusal}
use Rattle.sg_model.specs.declared.refusal.Refusal.TheVariants.{UnknownKind}
use Rattle.sg_base.specs.Limits.{spin_limit}
use Rattle.sg_lattice.specs.declared.kind.Kind.TheVariants.{Square, Triangular, Hexagonal, Cylinder}
use Rattle.sg_lattice.specs.Tables.{IsSize, least_cols}
use Rattle.sg_reader.specs.declared.header.Form.{Form}
use Rattle.sg_reader.specs.declared.header.Form.TheVariants as form
use Rattle.sg_reader.specs.declared.header.Header.{Header}
use Rattle.sg_reader.specs.declared.header.Header.TheVariants as header
use Rattle.sg_reader.specs.Kept.{Kept, field}
use Rattle.sg_draft.specs.Limits.{program_limits}
use Rattle.sg_draft.specs.Numbers.{many_spins_fault}
use Rattle.sg_draft.specs.Tests.{first_of}
use Rattle.sg_reader.specs.Tests.{at_least, field_count_fault, field_fault, size_in}

-- the form of an instance that a word names
unfoldable pub form_of : List ℕ → Option Form
form_of word =
    if bytes_eq word (codes "square") then Some (form.Lattice Square)
    else (if bytes_eq word (codes "triangular") then Some (form.Lattice Triangular)
    else (if bytes_eq word (codes "hexagonal") then Some (form.Lattice Hexagonal)
    else (if bytes_eq word (codes "cylinder") then Some (form.Lattice Cylinder)
    else (if bytes_eq word (codes "general") then Some form.General
    else None))))

-- the tests of the first record by the form that its word names, in order: rows and spins are 1 or more, columns as
-- many as the kind needs
unfoldable pub form_fault : Option Form → Kept → Option Refusal
form_fault None r = Some (UnknownKind r.at)
form_fault (Some (form.Lattice kind)) r = first_of (
    field_count_fault 3 r
    ∷ field_fault (at_least 1) 1 r
    ∷ field_fault (at_least (least_cols kind)) 2 r
    ∷ many_spins_fault program_limits (size_in r 1 * size_in r 2)
    ∷ [])
form_fault (Some form.General) r = first_of (
    field_count_fault 2 r
    ∷ field_fault (at_least 1) 1 r
    ∷ many_spins_fault program_limits (size_in r 1)
    ∷ [])

-- the test of the first record of an instance, by its first word
unfoldable pub header_fault : Kept → Option Refusal
header_fault r = form_fault (form_of (field r 0)) r

-- what the first record says, by the form that its word names
unfoldable pub form_header : Option Form → Kept → Option Header
form_header None r = None
form_header (Some (form.Lattice kind)) r = Some (header.Lattice kind (size_in r 1) (size_in r 2))
form_header (Some form.General) r = Some (header.General (size_in r 1))

-- what the first record of an instance says, if its first word is known
unfoldable pub header_of : Kept → Option Header
header_of r = form_header (form_of (field r 0)) r

-- what a first record that passes its tests says: a lattice of a size that it may have, or a number of spins, within
-- the limit
abbrev pub IsHeader : Header → Type 0
IsHeader (header.Lattice kind rows cols) = IsSize kind rows cols × (rows * cols ≤ spin_limit)
IsHeader (header.General n) = (1 ≤ n) × (n ≤ spin_limit)
