-- The fields of a record one after the other: their tests, and the list that is made of them.
use Rattle.std.proofs.Common.{◌≡◌, ℕ, suc, ◌+◌, ◌-◌, ◌<◌, ◌≤◌, List, [], ◌∷◌, ◌++◌, length, map, Option, Some, None, refl, sym, ap, ◌∙◌, arith, append_assoc, append-nil}
use Rattle.std.specs.List.{range_with_len}
use Rattle.std.specs.Option.{option_or}
use Rattle.sg_model.specs.declared.refusal.Fault.{Fault}
use Rattle.sg_model.specs.declared.refusal.Fault.TheVariants.{Refused, NoMemory}
use Rattle.sg_model.specs.declared.refusal.Refusal.{Refusal}
use Rattle.sg_model.specs.Faults.{OrNoMemory}
use Rattle.sg_draft.specs.Tests.{Refuses}
use Rattle.sg_reader.specs.Kept.{Kept}
use Rattle.sg_reader.specs.Tests.{fields_fault}

-- a test that fails, or an allocation for it, counts before those behind it
pub or-first : (test rest : Option Refusal) (e : Fault) → OrNoMemory (Refuses test) e → OrNoMemory (Refuses (option_or test rest)) e
or-first test rest (Refused x) bad = rw bad refl
or-first test rest NoMemory bad = tt

-- the numbers from i on below n begin with i
range-on : (i n : ℕ) → i < n → range_with_len i (n - i) ≡ i ∷ range_with_len (i + 1) (n - (i + 1))
range-on i n inside = let count : n - i ≡ suc (n - (i + 1)) = omega arith in rw count refl

range-end : (i n : ℕ) → n ≤ i → range_with_len i (n - i) ≡ []
range-end i n behind = let count : n - i ≡ 0 = omega arith in rw count refl

module _ (test : ℕ → Kept → Option Refusal) (r : Kept) (i : ℕ) where
  -- a field that passes leaves the test to those behind it
  pub fault-on : i < length r.fields → test i r ≡ None → fields_fault test i r ≡ fields_fault test (i + 1) r
  unfolding fields_fault
  fault-on inside good = rw (range-on i (length r.fields) inside, good) refl

  -- a field that fails is the first of them
  pub fault-here : (x : Refusal) → i < length r.fields → test i r ≡ Some x → fields_fault test i r ≡ Some x
  unfolding fields_fault
  fault-here x inside bad = rw (range-on i (length r.fields) inside, bad) refl

  -- past the last field none fails
  pub fault-end : length r.fields ≤ i → fields_fault test i r ≡ None
  unfolding fields_fault
  fault-end behind = rw (range-end i (length r.fields) behind) refl

-- a list, and what is made of the numbers from i on below n, are all that is to be listed
module _ {X : Type 0} (f : ℕ → X) (list all : List X) (i n : ℕ) (so_far : list ++ map f (range_with_len i (n - i)) ≡ all) where
  -- with the next one listed too
  pub listed-on : (new : List X) (x : X) → i < n → new ≡ list ++ x ∷ [] → x ≡ f i → new ++ map f (range_with_len (i + 1) (n - (i + 1))) ≡ all
  listed-on new x inside added value =
      let rest = map f (range_with_len (i + 1) (n - (i + 1))) in
      ap (λ (l : List X). l ++ rest) added ∙ append_assoc list (x ∷ []) rest ∙ ap (λ (y : X). list ++ y ∷ rest) value
      ∙ ap (λ (l : List ℕ). list ++ map f l) (sym (range-on i n inside)) ∙ so_far

  -- past the last one all are listed
  pub listed-end : n ≤ i → list ≡ all
  listed-end behind = sym (append-nil list) ∙ ap (λ (l : List ℕ). list ++ map f l) (sym (range-end i n behind)) ∙ so_far
