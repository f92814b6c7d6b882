-- How many records, and how many fields in all, a text may have.
use Rattle.std.proofs.Common.{◌≡◌, ℕ, zero, suc, ◌+◌, ◌≤◌, Bool, true, false, List, [], ◌∷◌, ◌++◌, length, Option, Some, None, refl, ap, arith, filter, cond}
use Rattle.std.proofs.Common.{sum_by}
use Rattle.std.proofs.lemmas.List.Sums.{sum_by-append, sum_by-cons}
use Rattle.csv.specs.Machine.{Read, ends_at_end, next_record}
use Rattle.csv.specs.Reading.{default_config, records_from, records_next}
use Rattle.csv.specs.declared.parser.State.{State}
use Rattle.csv.specs.declared.parser.State.TheVariants as st
use Rattle.sg_reader.specs.Field.{fields_in}
use Rattle.sg_reader.specs.Kept.{Kept, is_kept, numbered_from, records_of}
use Rattle.sg_reader.proofs.FieldLaws.{fields_in-short}
use Rattle.sg_reader.proofs.RecordLaws.{IsRead, is_read, most_fields}

-- from a place between two records on there are no more than n, and no more fields than the bytes allow
pub record AreFew (n : ℕ) (xs : List ℕ) (found : List (List (List ℕ))) : Type 0 where
  pub records : length found ≤ n
  pub fields : sum_by length found ≤ most_fields xs

few-records_from : (n : ℕ) (s : State) (xs : List ℕ) → ends_at_end s ≡ false → AreFew n xs (records_from default_config n s xs)
unfolding records_from next_record
few-records_from zero s xs between = record { records = omega arith; fields = omega arith }
few-records_from (suc n) s [] between = rw between (record { records = omega arith; fields = omega arith })
few-records_from (suc n) s (c ∷ rest) between =
    by (next_record default_config s [] [] (c ∷ rest)) (λ r e. (
      is_read s [] [] (c ∷ rest) r e,
      few-records_from n r.1 r.2 (is_read s [] [] (c ∷ rest) r e).between,
    ))
  where
    by : (o : Option Read) → ((r : Read) → o ≡ Some r → IsRead [] (c ∷ rest) r × AreFew n r.2 (records_from default_config n r.1 r.2))
        → AreFew (suc n) (c ∷ rest) (records_next (records_from default_config n) o)
    by None one = record { records = omega arith; fields = omega arith }
    by (Some r) one =
        let (read, more) = one r refl in
        let all = sum_by-cons length r.0 (records_from default_config n r.1 r.2) in
        record { records = omega (arith, more.records); fields = rw all (omega (arith, read.few, more.fields)) }

-- a text has at most one record more than bytes, and one field more
pub few-records_of : (xs : List ℕ) → AreFew (length xs + 1) xs (records_of xs)
few-records_of xs = few-records_from (length xs + 1) st.StartRecord xs refl

-- the fields of the records that are kept
abbrev pub field_total : List Kept → ℕ
field_total records = sum_by (λ (r : Kept). length r.fields) records

-- the fields of one more record
pub field_total-more : (body : List Kept) (r : Kept) → field_total (body ++ r ∷ []) ≡ field_total body + length r.fields
field_total-more body r = omega (arith, sum_by-append (λ (q : Kept). length q.fields) body (r ∷ []), sum_by-cons (λ (q : Kept). length q.fields) r [])

-- the fields of records round one
pub field_total-around : (records body : List Kept) (r : Kept) (rest : List Kept) → records ≡ body ++ r ∷ rest
    → field_total records ≡ field_total body + (length r.fields + field_total rest)
field_total-around records body r rest split =
    omega (arith, ap field_total split, sum_by-append (λ (q : Kept). length q.fields) body (r ∷ rest), sum_by-cons (λ (q : Kept). length q.fields) r rest)

-- the records that are kept have no more fields than all
pub field_total-numbered : (at : ℕ) (raw : List (List (List ℕ))) → field_total (filter is_kept (numbered_from at raw)) ≤ sum_by length raw
field_total-numbered at [] = omega arith
field_total-numbered at (r ∷ raw) =
    let first = fields_in-short r in
    let others = field_total-numbered (at + 1) raw in
    by (is_kept (record { at = at; fields = fields_in r })) (filter is_kept (numbered_from (at + 1) raw)) (omega (arith, others)) (omega (arith, first))
    (omega (arith, sum_by-cons length r raw))
  where
    by : (b : Bool) (rest : List Kept) → field_total rest ≤ sum_by length raw → length (fields_in r) ≤ length r
        → length r + sum_by length raw ≤ sum_by length (r ∷ raw)
        → field_total (cond b (record { at = at; fields = fields_in r } ∷ rest) rest) ≤ sum_by length (r ∷ raw)
    by true rest others first all = let e = sum_by-cons (λ (q : Kept). length q.fields) (record { at = at; fields = fields_in r }) rest in omega (arith, e)
    by false rest others first all = omega arith
