-- Laws by their names, as clauses see them: no box is in sight.
use Rattle.std.specs.Prelude.{ℕ, ℤ, List, Option, find}
use Rattle.std.specs.Str.{bytes_eq}

-- the name of a law, and its draws after each seed
pub record Law : Type 0 where
  pub title : List ℕ
  pub stream : ℕ → ℕ → List ℤ

-- the first law with a name
abbrev pub first_named : List ℕ → List Law → Option Law
first_named name laws = find (λ law. bytes_eq law.title name) laws
