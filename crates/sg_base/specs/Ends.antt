-- Edges and their ends: which edges end at a node, up to an even number.
use Rattle.std.specs.Prelude.{ℕ, ◌==◌, ◌<◌, Bool, ◌&&◌, List, All}
use Rattle.sg_base.specs.Parity.{xor, parity_by}

-- x is an end of the edge from a to b; the two ends of an edge to itself cancel
abbrev pub is_end : ℕ → ℕ → ℕ → Bool
is_end a b x = xor (a == x) (b == x)

module _ {X : Type 0} (a b : X → ℕ) where
  -- whether an odd number of the edges that pass d end at x
  abbrev pub degree_parity : (X → Bool) → List X → ℕ → Bool
  degree_parity d edges x = parity_by (λ e. d e && is_end (a e) (b e) x) edges

  -- both ends of each edge are below n
  abbrev pub EndsBelow : ℕ → List X → Type 0
  EndsBelow n edges = All (λ e. (a e < n) × (b e < n)) edges
