-- The records of a result, one more at a time.
use Rattle.std.proofs.Common.{◌≡◌, ℕ, ℤ, ◌<◌, ◌≤◌, true, false, List, [], ◌∷◌, ◌++◌, length, Option, None, refl, sym, ap, ◌∙◌, arith, codes, bytes_eq}
use Rattle.std.proofs.Common.{length-append}
use Rattle.std.specs.Option.{option_or}
use Rattle.std.proofs.lemmas.Bool.{not-false}
use Rattle.std.proofs.lemmas.List.{map-append}
use Rattle.sg_model.specs.declared.refusal.Fault.{Fault}
use Rattle.sg_model.specs.declared.refusal.Refusal.{Refusal}
use Rattle.sg_check.specs.declared.packing.Loop.{Loop}
use Rattle.sg_reader.specs.Kept.{Kept, begins}
use Rattle.sg_reader.specs.Tests.{number_in, field_count_fault, word_fault}
use Rattle.sg_draft.specs.Tests.{Refuses}
use Rattle.sg_reader.specs.Body.{says_end, numbers_from}
use Rattle.sg_base.specs.Limits.{text_limit}
use Rattle.sg_reader.specs.declared.result.LoopsBody.{LoopsBody}
use Rattle.sg_reader.specs.Ended.{IsEnded, RefusesRecords, StatesToEnd, Fails, RefusesNext, TakesNext}
use Rattle.sg_reader.specs.Result.{HoldsLoops, energy_fault, loop_fault, stated_loop, loops_fault, stated_loops, result_fault, result_of, spins_fault, ReadsResult, RefusesResult}
use Rattle.sg_draft.proofs.Drafts.{first-none, passed-if}
use Rattle.sg_reader.proofs.BodyLaws.{other-word, word-inside}
use Rattle.sg_reader.proofs.EndedLaws.{first-fault, refuses-cons, states-cons}
use Rattle.sg_reader.proofs.RecordCounts.{field_total, field_total-around, field_total-more}
use Rattle.sg_reader.proofs.RestLaws.{fails-on}
use Rattle.sg_model.specs.Faults.{OrNoMemory}

-- a record whose word passes begins with it, and so with no other
pub word-passes : (w v : List ℕ) (r : Kept) (rest : Option Refusal) → bytes_eq w v ≡ false → option_or (word_fault w r) rest ≡ None → begins v r ≡ false
word-passes w v r rest other h = other-word r w v (not-false _ (passed-if _ _ (first-none (word_fault w r) rest h).0)) other

energy-no_end : (r : Kept) → energy_fault r ≡ None → says_end r ≡ false
energy-no_end r h = word-passes (codes "energy") (codes "end") r _ refl h

spins-no_end : (r : Kept) → spins_fault r ≡ None → says_end r ≡ false
spins-no_end r h = word-passes (codes "spins") (codes "end") r _ refl h

-- an `end` behind the spins is to be a bare one
pub loops_fault-end : (body : List Kept) (r : Kept) → says_end r ≡ true → loops_fault body r ≡ field_count_fault 1 r
loops_fault-end body r h = rw h refl

loops_fault-loop : (body : List Kept) (r : Kept) → says_end r ≡ false → loops_fault body r ≡ loop_fault r
loops_fault-loop body r h = rw h refl

-- one more loop is taken
pub loop-taken : (old new : LoopsBody) (r : Kept) → says_end r ≡ false → loop_fault r ≡ None → new.loops ≡ old.loops ++ stated_loop r ∷ []
    → 1 < length r.fields → TakesNext (λ s. loops_fault) HoldsLoops old r new
loop-taken old new r other good added long = record {
  passes = λ start body h. loops_fault-loop body r other ∙ good;
  goes_on = λ start body h. record {
    loops = added ∙ ap (λ (l : List Loop). l ++ stated_loop r ∷ []) h.loops ∙ sym (map-append stated_loop body (r ∷ []));
    few = omega (arith, ap length added ∙ length-append old.loops (stated_loop r ∷ []), field_total-more body r, h.few, long);
  };
}

-- what refuses a loop refuses the record
pub loop-refused : (old : LoopsBody) (r : Kept) (e : Fault) → says_end r ≡ false → OrNoMemory (Refuses (loop_fault r)) e
    → RefusesNext (λ s. loops_fault) HoldsLoops old r e
loop-refused old r e other bad = record { refused = λ start body h. rw (loops_fault-loop body r other) bad }

-- there are fewer loops than a text has bytes
pub loops-few : (all body : List Kept) (last : Kept) (rest : List Kept) (loops : List Loop) → IsEnded loops_fault all body last rest
    → length loops ≤ field_total body → field_total all ≤ text_limit → length loops < text_limit
loops-few all body last rest loops ended few short =
    omega (arith, field_total-around all body last rest ended.split, word-inside (codes "end") refl last ended.ends, few, short)

-- what refuses the first record refuses the result
pub energy-fault : (all : List Kept) (r : Kept) (rest : List Kept) (e : Fault) → all ≡ r ∷ rest → OrNoMemory (Refuses (energy_fault r)) e
    → Fails (RefusesResult all) all rest e
unfolding result_fault
energy-fault all r rest e split bad = first-fault result_fault all r rest e split bad

-- what refuses the second refuses the records behind the first
pub spins-fault : (q : Kept) (all : List Kept) (r : Kept) (rest : List Kept) (e : Fault) → all ≡ r ∷ rest → OrNoMemory (Refuses (spins_fault r)) e
    → Fails (RefusesRecords (λ body. result_fault (q ∷ body)) all) all rest e
unfolding result_fault
spins-fault q all r rest e split bad = first-fault (λ body. result_fault (q ∷ body)) all r rest e split bad

-- behind an energy, what refuses the others refuses the result
pub behind-energy : (all more : List Kept) (q : Kept) (rest : List Kept) (e : Fault) → all ≡ q ∷ more → energy_fault q ≡ None
    → Fails (RefusesRecords (λ body. result_fault (q ∷ body)) more) more rest e → Fails (RefusesResult all) all rest e
unfolding result_fault
behind-energy all more q rest e split good bad =
    fails-on (RefusesRecords (λ body. result_fault (q ∷ body)) more) (RefusesResult all) all (q ∷ []) more rest split
    (λ x refused. refuses-cons result_fault all more q x rest split (energy-no_end q good) good refused) e bad

-- behind spins, what refuses the loops refuses the others
pub behind-spins : (q : Kept) (all more : List Kept) (r : Kept) (rest : List Kept) (e : Fault) → all ≡ r ∷ more → spins_fault r ≡ None
    → Fails (RefusesRecords loops_fault more) more rest e → Fails (RefusesRecords (λ body. result_fault (q ∷ body)) all) all rest e
unfolding result_fault
behind-spins q all more r rest e split good bad =
    fails-on (RefusesRecords loops_fault more) (RefusesRecords (λ body. result_fault (q ∷ body)) all) all (r ∷ []) more rest split
    (λ x refused. refuses-cons (λ body. result_fault (q ∷ body)) all more r x rest split (spins-no_end r good) good refused) e bad

-- energy, spins and loops that are read are the result
pub stated : (all more left : List Kept) (q r : Kept) (energy : ℤ) (spins : List ℤ) (loops : List Loop) (rest : List Kept)
    → all ≡ q ∷ more → more ≡ r ∷ left → energy_fault q ≡ None → spins_fault r ≡ None → energy ≡ number_in q 1 → spins ≡ numbers_from r 1
    → StatesToEnd loops_fault stated_loops left loops rest
    → ReadsResult all (record { energy = energy; spins = spins; loops = loops }) rest
unfolding result_fault result_of
stated all more left q r energy spins loops rest split next good_energy good_spins is_energy are_spins st =
    states-cons result_fault result_of all more q _ rest split (energy-no_end q good_energy) good_energy
    (states-cons (λ body. result_fault (q ∷ body)) (λ body. result_of (q ∷ body)) more left r _ rest next (spins-no_end r good_spins) good_spins (record {
      body = st.body;
      last = st.last;
      ended = st.ended;
      passes = st.passes;
      value = λ i. record { energy = is_energy i; spins = are_spins i; loops = st.value i };
    }))
