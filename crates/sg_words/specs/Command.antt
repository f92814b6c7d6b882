-- Which command the words of a call name.
use Rattle.std.specs.Prelude.{ℕ, ◌*◌, ◌≤◌, nat_le, Option, Some, None, List, [], ◌∷◌, codes, if◌then◌else◌, ⊤}
use Rattle.std.specs.Str.{bytes_eq}
use Rattle.std.specs.Option.{option_and_then}
use Rattle.sg_base.specs.Limits.{spin_limit, sample_limit, width_limit}
use Rattle.sg_lattice.specs.declared.kind.Kind.{Kind}
use Rattle.sg_lattice.specs.declared.kind.Kind.TheVariants.{Square, Triangular, Hexagonal, Cylinder}
use Rattle.sg_lattice.specs.Tables.{least_cols}
use Rattle.sg_words.specs.Numeral.{word_number}
use Rattle.sg_words.specs.declared.command.Command.{Command}
use Rattle.sg_words.specs.declared.command.Command.TheVariants.{Read, Draw}
use Rattle.sg_words.specs.declared.command.Reading.TheVariants.{Study, Check, Graph}
use Rattle.sg_words.specs.declared.command.Study.TheVariants.{Energy, Ground, Wall, Bonds, Clusters}
use Rattle.sg_words.specs.declared.command.Study.TheVariants.{Report, Ranges, Maxcut}
use Rattle.sg_words.specs.declared.command.GraphTask.TheVariants.{TJoin, Postman}
use Rattle.sg_words.specs.declared.command.Drawing.{Drawing}
use Rattle.sg_words.specs.declared.command.Drawing.TheVariants.{Gen, Sample, Ensemble, Widths}
use Rattle.sg_words.specs.declared.command.Size.{Size}

-- the command that one word names
abbrev pub command_named : List ℕ → Option Command
command_named word =
    if bytes_eq word (codes "energy") then Some (Read (Study Energy))
    else (if bytes_eq word (codes "ground") then Some (Read (Study Ground))
    else (if bytes_eq word (codes "wall") then Some (Read (Study Wall))
    else (if bytes_eq word (codes "bonds") then Some (Read (Study Bonds))
    else (if bytes_eq word (codes "clusters") then Some (Read (Study Clusters))
    else (if bytes_eq word (codes "report") then Some (Read (Study Report))
    else (if bytes_eq word (codes "ranges") then Some (Read (Study Ranges))
    else (if bytes_eq word (codes "maxcut") then Some (Read (Study Maxcut))
    else (if bytes_eq word (codes "check") then Some (Read Check)
    else (if bytes_eq word (codes "tjoin") then Some (Read (Graph TJoin))
    else (if bytes_eq word (codes "postman") then Some (Read (Graph Postman))
    else None))))))))))

-- the kind of lattice that a word names
abbrev pub kind_named : List ℕ → Option Kind
kind_named word =
    if bytes_eq word (codes "square") then Some Square
    else (if bytes_eq word (codes "triangular") then Some Triangular
    else (if bytes_eq word (codes "hexagonal") then Some Hexagonal
    else (if bytes_eq word (codes "cylinder") then Some Cylinder
    else None)))

-- a seed: any number of 64 bits
abbrev pub seed_in : List ℕ → Option ℕ
seed_in word = word_number 0 18446744073709551615 word

-- rows and columns, of no more spins together than the limit, with at least and at most so many columns
abbrev pub size_of_words : ℕ → ℕ → List ℕ → List ℕ → Option Size
size_of_words least most rows cols =
    option_and_then (λ R. option_and_then (λ C.
    if nat_le (R * C) spin_limit then Some (record { rows = R; cols = C }) else None)
    (word_number least most cols)) (word_number 1 spin_limit rows)

-- a lattice of a kind
abbrev pub gen_of : List ℕ → List ℕ → List ℕ → List ℕ → Option Command
gen_of seed kind rows cols =
    option_and_then (λ s. option_and_then (λ k. option_and_then (λ size. Some (Draw (Gen s k size)))
    (size_of_words (least_cols k) spin_limit rows cols)) (kind_named kind)) (seed_in seed)

-- a sample of the square lattice
abbrev pub sample_of : List ℕ → List ℕ → List ℕ → Option Command
sample_of seed rows cols =
    option_and_then (λ s. option_and_then (λ size. Some (Draw (Sample s size)))
    (size_of_words 1 spin_limit rows cols)) (seed_in seed)

-- an ensemble of so many cylinders
abbrev pub ensemble_of : List ℕ → List ℕ → List ℕ → List ℕ → Option Command
ensemble_of seed rows cols count =
    option_and_then (λ s. option_and_then (λ size. option_and_then (λ n. Some (Draw (Ensemble s size n)))
    (word_number 1 sample_limit count)) (size_of_words 3 spin_limit rows cols)) (seed_in seed)

-- an ensemble for each width from 3 on
abbrev pub widths_of : List ℕ → List ℕ → List ℕ → List ℕ → Option Command
widths_of seed rows cols count =
    option_and_then (λ s. option_and_then (λ size. option_and_then (λ n. Some (Draw (Widths s size n)))
    (word_number 1 sample_limit count)) (size_of_words 3 width_limit rows cols)) (seed_in seed)

-- the command of six words, of which the second is left out
unfoldable pub six_words : List ℕ → List ℕ → List ℕ → List ℕ → List ℕ → Option Command
six_words word seed fourth fifth sixth =
    if bytes_eq word (codes "gen") then gen_of seed fourth fifth sixth
    else (if bytes_eq word (codes "ensemble") then ensemble_of seed fourth fifth sixth
    else (if bytes_eq word (codes "widths") then widths_of seed fourth fifth sixth
    else None))

-- the command of the words, each given by its bytes; none if the words have no shape. The second word of a command
-- that draws is the name of its law, and may be any
abbrev pub command_of : List (List ℕ) → Option Command
command_of (word ∷ []) = command_named word
command_of (word ∷ law ∷ seed ∷ rows ∷ cols ∷ []) =
    if bytes_eq word (codes "sample") then sample_of seed rows cols else None
command_of (word ∷ law ∷ seed ∷ fourth ∷ fifth ∷ sixth ∷ []) = six_words word seed fourth fifth sixth
command_of _ = None

-- the name of a law, if the words have one
abbrev pub law_word : List (List ℕ) → List ℕ
law_word (word ∷ law ∷ others) = law
law_word _ = []

-- the sizes that words may name
pub record IsAllowedSize (kind : Kind) (size : Size) : Type 0 where
  pub rows : 1 ≤ size.rows
  pub cols : least_cols kind ≤ size.cols
  pub few : size.rows * size.cols ≤ spin_limit

-- what words may name
abbrev pub IsAllowedDrawing : Drawing → Type 0
IsAllowedDrawing (Gen seed kind size) = IsAllowedSize kind size
IsAllowedDrawing (Sample seed size) = IsAllowedSize Square size
IsAllowedDrawing (Ensemble seed size count) = IsAllowedSize Cylinder size × (1 ≤ count) × (count ≤ sample_limit)
IsAllowedDrawing (Widths seed size count) =
    IsAllowedSize Cylinder size × (size.cols ≤ width_limit) × (1 ≤ count) × (count ≤ sample_limit)

-- the numbers of a command are within its limits
abbrev pub IsAllowed : Command → Type 0
IsAllowed (Read reading) = ⊤
IsAllowed (Draw drawing) = IsAllowedDrawing drawing
