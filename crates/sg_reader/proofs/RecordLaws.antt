-- The records of a text, one after the other.
use Rattle.std.proofs.Common.{◌≡◌, ℕ, zero, suc, ◌+◌, ◌-◌, ◌<◌, ◌≤◌, Bool, true, false, List, [], ◌∷◌, length, Option, Some, None, refl, ap, ◌∙◌, arith, inl}
use Rattle.std.proofs.Common.{inr, ◌||◌, ◌==◌, cond, length-append}
use Rattle.std.proofs.lemmas.Bool.{cases_Bool, false≢true}
use Rattle.std.proofs.lemmas.Option.{none-some, same_Some}
use Rattle.csv.specs.Machine.{Read, ends_at_end, field_after, fields_after, in_field, is_end, next_record, start_field, start_record, step}
use Rattle.csv.specs.Reading.{default_config, records_from, records_next}
use Rattle.csv.specs.declared.parser.Action.{Action}
use Rattle.csv.specs.declared.parser.Action.TheVariants as act
use Rattle.csv.specs.declared.parser.State.{State}
use Rattle.csv.specs.declared.parser.State.TheVariants as st

-- a step that ends a record leads to a place between two
abbrev EndsBetween : State × Action → Type 0
EndsBetween p = is_end p.1 ≡ true → ends_at_end p.0 ≡ false

either-step : (b : Bool) (p q : State × Action) → EndsBetween p → EndsBetween q → EndsBetween (cond b p q)
either-step true p q f g = f
either-step false p q f g = g

between-end : (b : Bool) → EndsBetween (cond b st.AfterCr st.StartRecord, act.EndRecord)
between-end true h = refl
between-end false h = refl

between-in_field : (c : ℕ) → EndsBetween (in_field default_config c)
between-in_field c =
    either-step (c == 44) _ _ (λ h. absurd (false≢true h)) (either-step ((c == 13) || (c == 10)) _ _ (between-end (c == 13)) (λ h. absurd (false≢true h)))

between-start_field : (c : ℕ) → EndsBetween (start_field default_config c)
between-start_field c = either-step (c == 34) _ _ (λ h. absurd (false≢true h)) (between-in_field c)

between-start_record : (c : ℕ) → EndsBetween (start_record default_config c)
between-start_record c = either-step ((c == 13) || (c == 10)) _ _ (λ h. absurd (false≢true h)) (between-start_field c)

between-step : (s : State) (c : ℕ) → EndsBetween (step default_config s c)
between-step st.StartRecord c = between-start_record c
between-step st.StartField c = between-start_field c
between-step st.InField c = between-in_field c
between-step st.InQuoted c = either-step (c == 34) _ _ (λ h. absurd (false≢true h)) (λ h. absurd (false≢true h))
between-step st.InEscape c = λ h. absurd (false≢true h)
between-step st.AfterQuote c = either-step (c == 34) _ _ (λ h. absurd (false≢true h)) (between-in_field c)
between-step st.InComment c = either-step (c == 10) _ _ (λ h. absurd (false≢true h)) (λ h. absurd (false≢true h))
between-step st.AfterCr c = either-step (c == 10) _ _ (λ h. absurd (false≢true h)) (between-start_record c)

-- a step adds one field at most
length-fields_after : (a : Action) (fields : List (List ℕ)) (field : List ℕ) → length (fields_after a fields field) ≤ length fields + 1
length-fields_after act.EndField fields field = let n = length-append fields (field ∷ []) in omega (arith, n)
length-fields_after act.Skip fields field = omega arith
length-fields_after act.Copy fields field = omega arith
length-fields_after act.EndRecord fields field = let n = length-append fields (field ∷ []) in omega (arith, n)

-- how many fields a text may have from a place between two records on: one more than bytes, and none if there is no byte
abbrev pub most_fields : List ℕ → ℕ
most_fields [] = 0
most_fields (c ∷ rest) = length rest + 2

-- so one more than bytes at most
pub most_fields-le : (xs : List ℕ) → most_fields xs ≤ length xs + 1
most_fields-le [] = omega arith
most_fields-le (c ∷ rest) = omega arith

-- a record is read up to a place between two, takes a byte if there is one, and leaves room for the fields behind it
pub record IsRead (fields : List (List ℕ)) (xs : List ℕ) (r : Read) : Type 0 where
  pub between : ends_at_end r.1 ≡ false
  pub less : length r.2 ≤ length xs - 1
  pub few : length r.0 + most_fields r.2 ≤ length fields + length xs + 1

pub is_read : (s : State) (fields : List (List ℕ)) (field xs : List ℕ) (r : Read) → next_record default_config s fields field xs ≡ Some r → IsRead fields xs r
unfolding next_record
is_read s fields field [] r h = elim (cases_Bool (ends_at_end s)) [
  | inl e ↦ rw (← (same_Some _ _ (rw e at h))) (record { between = refl; less = omega arith; few = omega (arith, length-append fields (field ∷ [])) })
  | inr e ↦ absurd (none-some r (rw e at h))
]
is_read s fields field (c ∷ rest) r h =
    let n = length-fields_after (step default_config s c).1 fields field in
    elim (cases_Bool (is_end (step default_config s c).1)) [
      | inl e ↦ rw (← (same_Some _ _ (rw e at h))) (record { between = between-step s c e; less = omega arith; few = omega (arith, n, most_fields-le rest) })
      | inr e ↦
          let more = is_read (step default_config s c).0 (fields_after (step default_config s c).1 fields field)
          (field_after (step default_config s c).1 c field) rest r (rw e at h) in
          record { between = more.between; less = omega (arith, more.less); few = omega (arith, n, more.few) }
    ]

-- what is left is shorter
shorter-after_record : (s : State) (xs : List ℕ) (r : Read) → next_record default_config s [] [] xs ≡ Some r → ends_at_end s ≡ false → length r.2 < length xs
unfolding next_record
shorter-after_record s [] r h between = absurd (none-some r (rw between at h))
shorter-after_record s (c ∷ rest) r h between = let read = is_read s [] [] (c ∷ rest) r h in omega (arith, read.less)

-- the bound on the number of records does not matter
records_from-enough : (m n : ℕ) (s : State) (xs : List ℕ) → ends_at_end s ≡ false → length xs < m → length xs < n
    → records_from default_config m s xs ≡ records_from default_config n s xs
unfolding records_from
records_from-enough zero n s xs between a b = absurd (omega arith)
records_from-enough (suc m) zero s xs between a b = absurd (omega arith)
records_from-enough (suc m) (suc n) s xs between a b = by (next_record default_config s [] [] xs) (λ r e.
    let less = shorter-after_record s xs r e between in
    records_from-enough m n r.1 r.2 (is_read s [] [] xs r e).between (omega arith) (omega arith))
  where
    by : (o : Option Read) → ((r : Read) → o ≡ Some r → records_from default_config m r.1 r.2 ≡ records_from default_config n r.1 r.2)
        → records_next (records_from default_config m) o ≡ records_next (records_from default_config n) o
    by None more = refl
    by (Some r) more = ap (λ (t : List (List (List ℕ))). r.0 ∷ t) (more r refl)

-- the records of a text are its next one and those after it
records_from-suc : (n : ℕ) (s : State) (xs : List ℕ) (r : Read) → next_record default_config s [] [] xs ≡ Some r
    → records_from default_config (suc n) s xs ≡ r.0 ∷ records_from default_config n r.1 r.2
unfolding records_from
records_from-suc n s xs r h = rw h refl

-- the records are the one that is read, and those of what is left
pub records_from-some : (s : State) (xs : List ℕ) (r : Read) → next_record default_config s [] [] xs ≡ Some r → ends_at_end s ≡ false
    → records_from default_config (length xs + 1) s xs ≡ r.0 ∷ records_from default_config (length r.2 + 1) r.1 r.2
records_from-some s xs r h between =
    let less = shorter-after_record s xs r h between in
    let count : length xs + 1 ≡ suc (length xs) = omega arith in
    let enough = records_from-enough (length xs) (length r.2 + 1) r.1 r.2 (is_read s [] [] xs r h).between less (omega arith) in
    rw count (records_from-suc (length xs) s xs r h ∙ ap (λ (t : List (List (List ℕ))). r.0 ∷ t) enough)

-- a text without a next record has none
pub records_from-none : (n : ℕ) (s : State) (xs : List ℕ) → next_record default_config s [] [] xs ≡ None → records_from default_config n s xs ≡ []
unfolding records_from
records_from-none zero s xs h = refl
records_from-none (suc n) s xs h = rw h refl
