-- The tests at records written out, as a reader would work them by hand.
use Rattle.std.proofs.Common.{◌≡◌, ℕ, pos, negsuc, List, [], ◌∷◌, take, Some, None, refl, codes}
use Rattle.sg_model.specs.declared.refusal.Refusal.TheVariants.{BadNumber, BadShape, CouplingCount, SelfBond, TooManySpins, UnknownKind}
use Rattle.sg_lattice.specs.declared.kind.Kind.TheVariants.{Cylinder}
use Rattle.sg_reader.specs.declared.header.Header.TheVariants as header
use Rattle.sg_reader.specs.Field.{fields_in, trimmed, without_marks}
use Rattle.sg_reader.specs.Kept.{Kept}
use Rattle.sg_reader.specs.Tests.{fields_fault, field_fault, number_of}
use Rattle.sg_reader.specs.Header.{form_fault, form_header, form_of, header_fault, header_of}
use Rattle.sg_reader.specs.Body.{bonds_in, couplings_in, darts_in, general_fault, lattice_fault, link_fault, rot_in, seam_in}
use Rattle.sg_reader.specs.Result.{result_fault, result_of, spin_fault}

abbrev row : ℕ → List (List ℕ) → Kept
row at fields = record { at = at; fields = fields }

-- ` 3 ,<tab>4,, `; an empty field that is not at the end stays; and two marks at the start of a text
fields : (fields_in ((32 ∷ 51 ∷ 32 ∷ []) ∷ (9 ∷ 52 ∷ []) ∷ [] ∷ (32 ∷ []) ∷ []) ≡ codes "3" ∷ codes "4" ∷ [])
    × (fields_in ([] ∷ codes "4" ∷ [] ∷ []) ≡ [] ∷ codes "4" ∷ []) × (without_marks (0xEF ∷ 0xBB ∷ 0xBF ∷ 0xEF ∷ 0xBB ∷ 0xBF ∷ 0xEF ∷ []) ≡ 0xEF ∷ [])
unfolding fields_in trimmed without_marks
fields = (refl, refl, refl)

-- first records: an unknown kind, too few fields, a letter, too narrow, too large, and one that is good, with what another says
first-records : (header_fault (row 0 (codes "cube" ∷ codes "2" ∷ codes "2" ∷ [])) ≡ Some (UnknownKind 0))
    × (header_fault (row 0 (codes "square" ∷ codes "2" ∷ [])) ≡ Some (BadShape 0))
    × (header_fault (row 0 (codes "square" ∷ codes "2" ∷ codes "x" ∷ [])) ≡ Some (BadNumber 0 2))
    × (header_fault (row 3 (codes "cylinder" ∷ codes "99" ∷ codes "2" ∷ [])) ≡ Some (BadNumber 3 2))
    × (header_fault (row 0 (codes "square" ∷ codes "46" ∷ codes "45" ∷ [])) ≡ Some (TooManySpins (pos 2070)))
    × (header_fault (row 0 (codes "general" ∷ codes "+016" ∷ [])) ≡ None)
    × (header_of (row 0 (codes "cylinder" ∷ codes "1" ∷ codes "3" ∷ [])) ≡ Some (header.Lattice Cylinder 1 3))
unfolding header_fault form_fault form_of field_fault number_of header_of form_header
first-records = (refl, refl, refl, refl, refl, refl, refl)

abbrev body : List Kept
body = row 1 (codes "3" ∷ codes "-4" ∷ []) ∷ row 3 (codes "seam" ∷ codes "0" ∷ []) ∷ row 4 (codes "2" ∷ []) ∷ []

-- what these say of a lattice; behind them a second seam, an `end` too early, a long `end`, and a number that is no coupling
of-lattice : (couplings_in body ≡ pos 3 ∷ negsuc 3 ∷ pos 2 ∷ []) × (seam_in body ≡ Some (0 ∷ []))
    × (lattice_fault 4 body (row 5 (codes "seam" ∷ codes "x" ∷ [])) ≡ Some (BadShape 5))
    × (lattice_fault 4 body (row 5 (codes "end" ∷ [])) ≡ Some (CouplingCount 3 4))
    × (lattice_fault 4 body (row 5 (codes "end" ∷ codes "1" ∷ [])) ≡ Some (BadShape 5))
    × (lattice_fault 4 body (row 5 (codes "1" ∷ codes "9223372036854775808" ∷ codes "y" ∷ [])) ≡ Some (BadNumber 5 1))
unfolding couplings_in number_of seam_in lattice_fault fields_fault field_fault
of-lattice = (refl, refl, refl, refl, refl, refl)

abbrev pair : List Kept
pair = row 1 (codes "bond" ∷ codes "0" ∷ codes "1" ∷ codes "7" ∷ []) ∷ row 2 (codes "rot" ∷ codes "1" ∷ codes "1" ∷ []) ∷ []

-- the darts that these say of two spins; behind them a second `rot` of a spin, a bond to itself, a spin past the last, and another word
of-general : (darts_in pair 1 ≡ 1 ∷ []) × (darts_in pair 0 ≡ []) × (general_fault 2 pair (row 4 (codes "rot" ∷ codes "1" ∷ codes "1" ∷ [])) ≡ Some (BadShape 4))
    × (general_fault 2 pair (row 4 (codes "bond" ∷ codes "0" ∷ codes "0" ∷ codes "1" ∷ [])) ≡ Some (SelfBond 1))
    × (general_fault 2 pair (row 4 (codes "bond" ∷ codes "0" ∷ codes "2" ∷ codes "z" ∷ [])) ≡ Some (BadNumber 4 2))
    × (general_fault 2 pair (row 4 (codes "3" ∷ [])) ≡ Some (UnknownKind 4))
unfolding rot_in number_of general_fault fields_fault field_fault bonds_in link_fault
of-general = (refl, refl, refl, refl, refl, refl)

-- what a proof states
abbrev stated : List Kept
stated = row 4 (codes "energy" ∷ codes "-10" ∷ []) ∷ row 5 (codes "spins" ∷ codes "1" ∷ codes "-01" ∷ []) ∷ row 7
    (codes "loop" ∷ codes "4" ∷ codes "0" ∷ codes "3" ∷ []) ∷ []

-- what these state, with their `end`; and what a proof may not state: a long `end`, no energy, no number, a spin of 2, a loop with
-- no weight, and a bond past 32 bits; but a loop with no bond
of-result : (result_of stated ≡ record { energy = negsuc 9; spins = pos 1 ∷ negsuc 0 ∷ []; loops = record { y = pos 4; bonds = 0 ∷ 3 ∷ [] } ∷ [] })
    × (result_fault stated (row 8 (codes "end" ∷ [])) ≡ None) × (result_fault stated (row 8 (codes "end" ∷ codes "1" ∷ [])) ≡ Some (BadShape 8))
    × (result_fault [] (row 4 (codes "spins" ∷ codes "1" ∷ [])) ≡ Some (UnknownKind 4))
    × (result_fault [] (row 4 (codes "energy" ∷ codes "x" ∷ [])) ≡ Some (BadNumber 4 1))
    × (result_fault (take 1 stated) (row 5 (codes "spins" ∷ codes "+1" ∷ codes "2" ∷ codes "0" ∷ [])) ≡ Some (BadNumber 5 2))
    × (result_fault (take 2 stated) (row 6 (codes "loop" ∷ [])) ≡ Some (BadShape 6))
    × (result_fault stated (row 8 (codes "loop" ∷ codes "-4" ∷ codes "4294967295" ∷ codes "4294967296" ∷ [])) ≡ Some (BadNumber 8 3))
    × (result_fault stated (row 8 (codes "loop" ∷ codes "0" ∷ [])) ≡ None)
unfolding result_of number_of result_fault field_fault fields_fault spin_fault
of-result = (refl, refl, refl, refl, refl, refl, refl, refl, refl)
