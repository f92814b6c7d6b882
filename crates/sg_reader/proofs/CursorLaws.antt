-- What a read of a record does to what is left.
use Rattle.std.proofs.Common.{◌≡◌, ℕ, ◌+◌, true, false, List, [], ◌∷◌, length, Option, Some, None, Bor, refl, ◌∙◌, inl, IsSome}
use Rattle.std.proofs.lemmas.Bool.{false≢true}
use Rattle.csv.specs.Machine.{ends_at_end}
use Rattle.csv.specs.Reading.{Reached, ReadRecord, default_config, is_flexible, records_from, reader_state, took_first}
use Rattle.csv.specs.declared.reader.Reader.{Reader}
use Rattle.csv.specs.declared.parser.State.{State}
use Rattle.csv.proofs.ReadFacts.{rows-more, rows-end}
use Rattle.sg_reader.specs.Cursor.{IsBetweenRecords, records_left}
use Rattle.sg_reader.proofs.RecordLaws.{is_read, records_from-some, records_from-none}

known-bytes : {A : Type 0} (o : Option A) → IsSome o → (x : A) × (o ≡ Some x)
known-bytes None h = absurd (false≢true h)
known-bytes (Some x) h = (x, refl)

-- a record that was read, by the bytes before it and after it
first-reached : (s t : State) (xs ys : List ℕ) (row : List (List ℕ)) → ends_at_end s ≡ false → Reached default_config s xs (row ∷ []) t ys
    → (records_from default_config (length xs + 1) s xs ≡ row ∷ records_from default_config (length ys + 1) t ys) × (ends_at_end t ≡ false)
unfolding Reached
first-reached s t xs ys row between (p, next, fields, end) =
    (rw (fields, ← end.0, ← end.1) (records_from-some s xs p next between), rw (← end.0) (is_read s [] [] xs p next).between)

none-reached : (s : State) (xs : List ℕ) → Reached default_config s xs [] s xs
unfolding Reached
none-reached s xs = (refl, refl)

-- a record was read: it is the first of those that were left
pub records_left-more : (a b : Reader (Bor (List ℕ))) (row : List (List ℕ)) → IsBetweenRecords a
    → ReadRecord (λ (s : Bor (List ℕ)). Some s.now) a b true row → took_first b ≡ true → is_flexible b ≡ is_flexible a
    → (records_left a ≡ row ∷ records_left b) × IsBetweenRecords b
records_left-more a b row h read first flexible =
    let (xs, at) = known-bytes _ h.known in
    let (ys, after, reached) = rows-more (λ (s : Bor (List ℕ)). Some s.now) a b row default_config (reader_state a) xs xs [] h.setup at
    (none-reached (reader_state a) xs) read in
    let (left, between) = first-reached (reader_state a) (reader_state b) xs ys row h.between reached in (
      rw (at, after) left,
      record {
        known = rw after refl;
        between = between;
        setup = read.2 ∙ h.setup;
        untrimmed = read.3 ∙ h.untrimmed;
        any_length = flexible ∙ h.any_length;
        ready = inl first;
      },
    )

-- no record was read: none was left
pub records_left-none : (a b : Reader (Bor (List ℕ))) (row : List (List ℕ)) → IsBetweenRecords a
    → ReadRecord (λ (s : Bor (List ℕ)). Some s.now) a b false row → records_left a ≡ []
records_left-none a b row h read =
    let (xs, at) = known-bytes _ h.known in
    rw at (records_from-none (length xs + 1) (reader_state a) xs (rows-end (λ (s : Bor (List ℕ)). Some s.now) a b row default_config xs h.setup at read))
