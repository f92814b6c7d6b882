-- From the members of a JSON text to their draft.
use Rattle.std.proofs.Common.{◌≡◌, ℕ, ◌≤◌, Bool, true, false, ℤ, List, [], map, length, Option, Some, None, refl, sym, ap, ◌∙◌, codes, cond, ◌==◌, option_map}
use Rattle.std.proofs.Common.{unwrap_or, eqb-true}
use Rattle.std.specs.List.{list_all}
use Rattle.std.proofs.lemmas.List.{length-map}
use Rattle.std.proofs.lemmas.Option.{none-some}
use Rattle.serde_json.specs.Data.{Data}
use Rattle.serde_json.specs.Find.{get}
use Rattle.sg_model.specs.declared.refusal.Fault.{Fault}
use Rattle.sg_model.specs.declared.refusal.Fault.TheVariants.{Refused, NoMemory}
use Rattle.sg_model.specs.declared.bond.Bond.{Bond}
use Rattle.sg_model.specs.Faults.{OrNoMemory}
use Rattle.sg_base.specs.Limits.{json_limit}
use Rattle.sg_lattice.specs.declared.kind.Kind.{Kind}
use Rattle.sg_lattice.specs.Tables.{lattice}
use Rattle.sg_reader.specs.declared.header.Form.{Form}
use Rattle.sg_draft.specs.declared.limits.Limits.{Limits}
use Rattle.sg_draft.specs.Draft.{IsDraftRefusal, OfGeneral, OfLattice, draft_fault, drafted, general_draft_fault, lattice_draft_fault, reseamed}
use Rattle.sg_draft.specs.Limits.{program_limits}
use Rattle.sg_draft.specs.Reads.{read_length, unless, value_or, wrong_entry}
use Rattle.sg_draft.proofs.Drafts.{counted-unless, wrong-unless}
use Rattle.sg_json.specs.declared.entry.Entry.{Entry}
use Rattle.sg_json.specs.declared.entry.Entry.TheVariants as entry
use Rattle.sg_json.specs.Members.{draft_of, form_in, general_draft, value_indices, is_known, items_at, lattice_draft, member_list, member_spins, first_wrong, names_in, size_at, value_bond, value_number, wrong_list, wrong_rotation, wrong_seam}
use Rattle.sg_json.specs.ReadJson.{OfData, OfDraft, RefusesData, RefusesJson, SaysData}

-- how many entries a list of a member has, where none is wrong
told : {X : Type 0} (f : Data → X) (wrong : Option ℕ) (ds : List Data) → read_length (unless wrong (map f ds)) ≡ unless wrong (length ds)
told f wrong ds = counted-unless wrong (map f ds) ∙ ap (λ (n : ℕ). unless wrong n) (length-map ds f)

-- the tests of a lattice, of what the code counts
pub lattice-tests : (most : Limits) (kind : Kind) (d : Data) → draft_fault most (OfLattice (lattice_draft kind d))
    ≡ lattice_draft_fault most kind (size_at (codes "rows") d) (size_at (codes "cols") d)
    (unless (wrong_list entry.Coupling (member_list (codes "couplings") d)) (length (items_at (codes "couplings") d))) (wrong_seam (get (codes "seam") d))
lattice-tests most kind d = λ i. lattice_draft_fault most kind (size_at (codes "rows") d) (size_at (codes "cols") d)
    (told value_number (wrong_list entry.Coupling (member_list (codes "couplings") d)) (items_at (codes "couplings") d) i)
    (wrong-unless (wrong_seam (get (codes "seam") d)) (option_map value_indices (get (codes "seam") d)) i)

-- the value of a member of which no entry is wrong
sound : {X : Type 0} (wrong : Option ℕ) (other x : X) → wrong ≡ None → value_or other (unless wrong x) ≡ x
sound wrong other x none = rw none refl

-- the lattice that the members say
pub lattice-said : (kind : Kind) (d : Data) (rows cols : ℕ) (js : List ℤ) (seam : Option (List ℕ)) → size_at (codes "rows") d ≡ Some rows
    → size_at (codes "cols") d ≡ Some cols → wrong_list entry.Coupling (member_list (codes "couplings") d) ≡ None
    → js ≡ map value_number (items_at (codes "couplings") d) → wrong_seam (get (codes "seam") d) ≡ None → seam ≡ option_map value_indices (get (codes "seam") d)
    → reseamed seam (lattice kind rows cols js) ≡ drafted (OfLattice (lattice_draft kind d))
lattice-said kind d rows cols js seam r c fit j apart s =
    let list : js ≡ _ = j ∙ sym (sound (wrong_list entry.Coupling (member_list (codes "couplings") d)) []
    (map value_number (items_at (codes "couplings") d)) fit) in
    let cut : seam ≡ _ = s ∙ sym (sound (wrong_seam (get (codes "seam") d)) None (option_map value_indices (get (codes "seam") d)) apart) in
    λ i. reseamed (cut i) (lattice kind (unwrap_or (sym r i) 0) (unwrap_or (sym c i) 0) (list i))

-- the tests of a general instance, of what the code counts
pub general-tests : (most : Limits) (d : Data)
    → general_draft_fault most (size_at (codes "n") d) (read_length (general_draft d).bonds) (wrong_entry (general_draft d).rotation)
    (wrong_entry (general_draft d).seam) ≡ general_draft_fault most (size_at (codes "n") d)
    (unless (wrong_list (entry.Bond (member_spins d)) (member_list (codes "bonds") d)) (length (items_at (codes "bonds") d)))
    (wrong_rotation (member_spins d) (member_list (codes "rotation") d)) (wrong_seam (get (codes "seam") d))
general-tests most d = λ i. general_draft_fault most (size_at (codes "n") d)
    (told value_bond (wrong_list (entry.Bond (member_spins d)) (member_list (codes "bonds") d)) (items_at (codes "bonds") d) i)
    (wrong-unless (wrong_rotation (member_spins d) (member_list (codes "rotation") d)) (map value_indices (items_at (codes "rotation") d)) i)
    (wrong-unless (wrong_seam (get (codes "seam") d)) (option_map value_indices (get (codes "seam") d)) i)

-- the bonds, the rotation and the seam that the members say
pub bonds-said : (d : Data) → wrong_list (entry.Bond (member_spins d)) (member_list (codes "bonds") d) ≡ None
    → value_or [] (general_draft d).bonds ≡ map value_bond (items_at (codes "bonds") d)
bonds-said d fit = sound _ [] (map value_bond (items_at (codes "bonds") d)) fit

-- the general instance that the members say
pub general-said : (d : Data) (n : ℕ) (bonds : List Bond) (rotation : List (List ℕ)) (seam : Option (List ℕ)) → size_at (codes "n") d ≡ Some n
    → bonds ≡ value_or [] (general_draft d).bonds → wrong_rotation (member_spins d) (member_list (codes "rotation") d) ≡ None
    → rotation ≡ map value_indices (items_at (codes "rotation") d) → wrong_seam (get (codes "seam") d) ≡ None
    → seam ≡ option_map value_indices (get (codes "seam") d)
    → record { n = n; bonds = bonds; rotation = rotation; seam = unwrap_or seam [] } ≡ drafted (OfGeneral (general_draft d))
general-said d n bonds rotation seam spins b turned r apart s =
    let lists : rotation ≡ _ = r ∙ sym (sound (wrong_rotation (member_spins d) (member_list (codes "rotation") d)) []
    (map value_indices (items_at (codes "rotation") d)) turned) in
    let cut : seam ≡ _ = s ∙ sym (sound (wrong_seam (get (codes "seam") d)) None (option_map value_indices (get (codes "seam") d)) apart) in
    λ i. record { n = unwrap_or (sym spins i) 0; bonds = b i; rotation = lists i; seam = unwrap_or (cut i) [] }

-- there is a list for each spin
pub rotation-counts : (n : ℕ) (o : Option (List Data)) → wrong_rotation n o ≡ None → length (unwrap_or o []) ≡ n
rotation-counts n None h = absurd (none-some 0 (sym h))
rotation-counts n (Some ds) h = counted_by (length ds == n) refl h
  where
    counted_by : (b : Bool) → (length ds == n) ≡ b → cond b (first_wrong entry.Darts ds) (Some 0) ≡ None → length ds ≡ n
    counted_by true e h = eqb-true (length ds) n e
    counted_by false e h = absurd (none-some 0 (sym h))

-- a list that is right has no misfit
pub right-list : (what : Entry) (o : Option (List Data)) → wrong_list what o ≡ None → first_wrong what (unwrap_or o []) ≡ None
right-list what None h = absurd (none-some 0 (sym h))
right-list what (Some ds) h = h

-- what refuses the draft refuses the data
pub data-fault : (d : Data) (form : Form) (e : Fault) → form_in d ≡ Some form → list_all (is_known form) (names_in d) ≡ true
    → OrNoMemory (IsDraftRefusal program_limits (draft_of form d)) e → OrNoMemory (RefusesData d) e
data-fault d form (Refused x) kind names bad = OfDraft form kind names bad
data-fault d form NoMemory kind names bad = tt

-- what refuses the data refuses the text
pub json-fault : (bytes : List ℕ) (d : Data) (e : Fault) → length bytes ≤ json_limit → SaysData bytes d → OrNoMemory (RefusesData d) e
    → OrNoMemory (RefusesJson bytes) e
json-fault bytes d (Refused x) short says bad = OfData short d says bad
json-fault bytes d NoMemory short says bad = tt
