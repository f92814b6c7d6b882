-- Pairings of the leaves, and what makes one least.
use Rattle.std.specs.List.{range_with_len}
use Rattle.std.specs.Option.{option_map_or}
use Rattle.std.specs.Prelude.{◌≡◌, ◌≢◌, ℕ, ◌<◌, ◌≤◌, List, length, slice_index, Option, sum_by, if◌then◌else◌, nat_lt}
use Rattle.sg_arena.specs.Family.{Family, Holds, leaf_count, IsAlive, Node}
use Rattle.sg_arena.specs.Slack.{duals_between}
use Rattle.sg_slack.specs.Tight.{IsTight}

-- each of k leaves has a mate, another leaf, whose own mate it is
pub record IsPairing (k : ℕ) (mates : List ℕ) : Type 0 where
  pub count : length mates ≡ k
  pub low : (u : ℕ) → u < k → slice_index mates u < k
  pub other : (u : ℕ) → u < k → slice_index mates u ≢ u
  pub back : (u : ℕ) → u < k → slice_index mates (slice_index mates u) ≡ u

-- the leaf is in the set and its mate is not
pub record IsExit (f : Family) (mates : List ℕ) (name u : ℕ) : Type 0 where
  pub low : u < leaf_count f
  pub inside : Holds f name u
  pub outside : ¬ Holds f name (slice_index mates u)

-- exactly one pair of mates leaves the set
pub record IsLeftOnce (f : Family) (mates : List ℕ) (name : ℕ) : Type 0 where
  pub one : (u : ℕ) × IsExit f mates name u
  pub only : (u v : ℕ) → IsExit f mates name u → IsExit f mates name v → u ≡ v

-- a pairing along pairs of slack 0 that leaves each set just once
pub record IsMatching (f : Family) (cost : ℕ → ℕ → ℕ) (mates : List ℕ) : Type 0 where
  pub pairing : IsPairing (leaf_count f) mates
  pub tight : (u : ℕ) → u < leaf_count f → IsTight f cost u (slice_index mates u)
  pub left : (name : ℕ) → IsAlive f name → IsLeftOnce f mates name

-- the costs of the pairs, each pair once
abbrev pub pairing_cost : (ℕ → ℕ → ℕ) → List ℕ → ℕ
pairing_cost cost mates = sum_by (λ u. if nat_lt u (slice_index mates u) then cost u (slice_index mates u) else 0)
    (range_with_len 0 (length mates))

-- the dual of a node
abbrev pub dual_in : Option Node → ℕ
dual_in slot = option_map_or (λ n. n.dual) slot 0

-- the sum of the duals of all sets
abbrev pub sum_of_duals : Family → ℕ
sum_of_duals f = sum_by dual_in f.nodes

-- no slack is negative
abbrev pub NoSlackIsNegative : Family → (ℕ → ℕ → ℕ) → Type 0
NoSlackIsNegative f cost = (u v : ℕ) → u < leaf_count f → v < leaf_count f → duals_between f u v ≤ cost u v
