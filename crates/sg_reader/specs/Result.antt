-- The records of a result, which states an energy, spins and loops: which word is in which place, the tests of each
-- record, and what they state; the first failed check of a record, in the order of the records, refuses them.
use Rattle.std.specs.Prelude.{◌≡◌, ℕ, ◌≤◌, ◌==◌, Bool, false, not, ℤ, unsigned_abs, if◌then◌else◌, List, [], ◌∷◌, length, map, drop, codes, Option, Some, None}
use Rattle.std.specs.List.{sum_by}
use Rattle.sg_model.specs.declared.refusal.Refusal.{Refusal}
use Rattle.sg_model.specs.declared.refusal.Refusal.TheVariants.{BadNumber, BadShape}
use Rattle.sg_check.specs.declared.packing.Loop.{Loop}
use Rattle.sg_check.specs.declared.packing.ResultText.{ResultText}
use Rattle.sg_reader.specs.declared.result.LoopsBody.{LoopsBody}
use Rattle.sg_reader.specs.Kept.{Kept}
use Rattle.sg_draft.specs.Tests.{first_of, refuse_if}
use Rattle.sg_reader.specs.Tests.{any_index, any_number, field_count_fault, fields_fault, field_number, field_fault, number_in, word_fault}
use Rattle.sg_reader.specs.Body.{says_end, numbers_from, sizes_from}
use Rattle.sg_reader.specs.Ended.{RefusesRecords, StatesToEnd, record_at}

-- the value of a spin: 1 or -1
abbrev pub is_spin_value : Option ℤ → Bool
is_spin_value None = false
is_spin_value (Some number) = unsigned_abs number == 1

-- the test of the value in field i
unfoldable pub spin_fault : ℕ → Kept → Option Refusal
spin_fault i r = refuse_if (not (is_spin_value (field_number r i))) (BadNumber r.at i)

-- the energy, `energy,E`
abbrev pub energy_fault : Kept → Option Refusal
energy_fault r =
    first_of (word_fault (codes "energy") r ∷ field_count_fault 2 r ∷ field_fault any_number 1 r ∷ [])

-- the spins, `spins,S,S,..`, perhaps none
abbrev pub spins_fault : Kept → Option Refusal
spins_fault r = first_of (word_fault (codes "spins") r ∷ fields_fault spin_fault 1 r ∷ [])

-- a loop `loop,Y,B,B,..`: any weight, and then bonds, perhaps none
abbrev pub loop_fault : Kept → Option Refusal
loop_fault r = first_of (
    word_fault (codes "loop") r
    ∷ refuse_if (length r.fields == 1) (BadShape r.at)
    ∷ field_fault any_number 1 r
    ∷ fields_fault (field_fault any_index) 2 r
    ∷ [])

-- the tests of a record after the energy and the spins: a loop, or the `end`
abbrev pub loops_fault : List Kept → Kept → Option Refusal
loops_fault loops r = if says_end r then field_count_fault 1 r else loop_fault r

-- the tests of a record of a result: the energy comes first, then the spins, then loops up to the `end`
unfoldable pub result_fault : List Kept → Kept → Option Refusal
result_fault [] r = energy_fault r
result_fault (energy ∷ []) r = spins_fault r
result_fault (energy ∷ spins ∷ loops) r = loops_fault loops r

-- the loop of a record
abbrev pub stated_loop : Kept → Loop
stated_loop r = record { y = number_in r 1; bonds = sizes_from r 2 }

-- the loops that the records of a proof state, in their order
abbrev pub stated_loops : List Kept → List Loop
stated_loops body = map stated_loop body

-- what the records before the `end` state
unfoldable pub result_of : List Kept → ResultText
result_of body = record {
  energy = number_in (record_at body 0) 1;
  spins = numbers_from (record_at body 1) 1;
  loops = stated_loops (drop 2 body);
}

-- the records give the result, and `rest` is left after its `end`
abbrev pub ReadsResult : List Kept → ResultText → List Kept → Type 0
ReadsResult records text rest = StatesToEnd result_fault result_of records text rest

-- the records are refused: at a record that fails a test, or because they run out
abbrev pub RefusesResult : List Kept → Refusal → List Kept → Type 0
RefusesResult records refusal rest = RefusesRecords result_fault records refusal rest

-- what is kept while they are read: the loops of the records, each of which has a field
pub record HoldsLoops (start : LoopsBody) (body : List Kept) (now : LoopsBody) : Type 0 where
  pub loops : now.loops ≡ stated_loops body
  pub few : length now.loops ≤ sum_by (λ r. length r.fields) body
