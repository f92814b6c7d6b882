-- What a run answers to a caller, and its words as they cross: each ended by a byte 0.
use Rattle.std.specs.Prelude.{◌≡◌, ◌≢◌, ℕ, List, [], ◌∷◌, ◌++◌, length, map, flat_map, All}
use Rattle.std.specs.Str.Lossy.{utf8_lossy}
use Rattle.sg_report.specs.Exit.{exit_code, IsReply}
use Rattle.sg_report.specs.declared.status.Status.{Status}
use Rattle.sg_cli.specs.Laws.{WithAllLaws}
use Rattle.sg_cli.specs.Served.{Served}
use Rattle.sg_calls.specs.Crossing.{Fills}

-- no byte is 0
abbrev pub HasNoZero : List ℕ → Type 0
HasNoZero word = All (λ byte. byte ≢ 0) word

-- a word with the byte 0 that ends it
abbrev pub ended : List ℕ → List ℕ
ended word = word ++ 0 ∷ []

-- the bytes are these words, each ended by a byte 0; what is no UTF-8 in a word is replaced
pub record AreWords (bytes : List ℕ) (words : List (List ℕ)) : Type 0 where
  pub pieces : List (List ℕ)
  pub whole : bytes ≡ flat_map ended pieces
  pub clean : All HasNoZero pieces
  pub texts : words ≡ map utf8_lossy pieces

-- something follows the last byte 0
pub record IsUnended (bytes : List ℕ) : Type 0 where
  pub pieces : List (List ℕ)
  pub rest : List ℕ
  pub whole : bytes ≡ flat_map ended pieces ++ rest
  pub clean : HasNoZero rest
  pub some : rest ≢ []

-- the text and the status that belong to the words and the input, with the four laws
pub record Answers (words : List (List ℕ)) (input text : List ℕ) (status : Status) : Type 0 where
  pub replied : IsReply status
  pub served : WithAllLaws (λ laws. Served words laws input text status)

-- nothing is written
pub record IsSilent (before after : List ℕ) (written whole : ℕ) : Type 0 where
  pub kept : after ≡ before
  pub none : written ≡ 0
  pub empty : whole ≡ 0

-- how a run ends for its caller
pub data Ends (words input before after : List ℕ) (written whole code : ℕ) : Type 0 where
  -- the text is answered: its length is told, and it is written as far as there is room
  Answered : (list : List (List ℕ)) (text : List ℕ) (status : Status) → AreWords words list
      → Answers list input text status → Fills text before after written → whole ≡ length text → code ≡ exit_code status
      → Ends words input before after written whole code
  -- the last word is not ended
  WordsUnended : IsUnended words → IsSilent before after written whole → code ≡ 7
      → Ends words input before after written whole code
  -- an allocation fails
  OutOfMemory : IsSilent before after written whole → code ≡ 6 → Ends words input before after written whole code
