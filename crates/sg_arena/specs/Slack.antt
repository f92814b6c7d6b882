-- The duals between two leaves: their cost less this is their slack.
use Rattle.std.specs.Prelude.{ℕ, Bool, true, false, not, Option, sum_by, if◌then◌else◌}
use Rattle.std.specs.Option.{option_map_or}
use Rattle.sg_arena.specs.Family.{Node, Family, has_leaf}

-- one of the two, and not both
abbrev pub exactly_one : Bool → Bool → Bool
exactly_one true other = not other
exactly_one false other = other

-- what a node adds: its dual if its set has exactly one of the two leaves
abbrev pub cut_share : ℕ → ℕ → Option Node → ℕ
cut_share u v slot = option_map_or
    (λ n. if exactly_one (has_leaf n.leaves u) (has_leaf n.leaves v) then n.dual else 0) slot 0

-- the sum of the duals of the sets that hold exactly one of two leaves
abbrev pub duals_between : Family → ℕ → ℕ → ℕ
duals_between f u v = sum_by (cut_share u v) f.nodes
