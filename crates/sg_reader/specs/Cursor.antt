-- What a cursor over the records of a text in memory has left.
use Rattle.std.specs.Prelude.{◌≡◌, ℕ, ◌+◌, true, false, if◌then◌else◌, List, [], length, Some, IsSome}
use Rattle.std.specs.Option.{unwrap_or}
use Rattle.std.specs.Borrow.{Bor}
use Rattle.csv.specs.Machine.{ends_at_end}
use Rattle.csv.specs.Reading.{Ready, default_config, is_flexible, reader_config, reader_state, reader_trim, records_from, source_of}
use Rattle.csv.specs.declared.reader.Reader.{Reader}
use Rattle.csv.specs.declared.reader.Trim.TheVariants as trim
use Rattle.sg_reader.specs.declared.cursor.Cursor.TheInside.{Inside}

-- the bytes that a reader has left
abbrev pub bytes_left : Reader (Bor (List ℕ)) → List ℕ
bytes_left reader = unwrap_or (source_of (λ (s : Bor (List ℕ)). Some s.now) reader) []

-- the records of those bytes
abbrev pub records_left : Reader (Bor (List ℕ)) → List (List (List ℕ))
records_left reader =
    records_from default_config (length (bytes_left reader) + 1) (reader_state reader) (bytes_left reader)

-- the reader is between two records, and reads on with the defaults but without a header row and at any length
pub record IsBetweenRecords (reader : Reader (Bor (List ℕ))) : Type 0 where
  pub known : IsSome (source_of (λ (s : Bor (List ℕ)). Some s.now) reader)
  pub between : ends_at_end (reader_state reader) ≡ false
  pub setup : reader_config reader ≡ default_config
  pub untrimmed : reader_trim reader ≡ trim.None
  pub any_length : is_flexible reader ≡ true
  pub ready : Ready reader

-- a cursor at the end, or one whose reader failed, has nothing left
abbrev pub cursor_left : Inside → List (List (List ℕ))
cursor_left cursor = if cursor.is_done then [] else records_left cursor.reader

-- unless it is done, the cursor is between two records
abbrev pub IsSoundCursor : Inside → Type 0
IsSoundCursor cursor = cursor.is_done ≡ false → IsBetweenRecords cursor.reader
