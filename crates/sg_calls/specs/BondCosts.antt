-- Costs of chosen bonds by bounds that a caller keeps, as two lists: what is wrong with the numbers, and what a search
-- makes of the bounds.
use Rattle.std.specs.Prelude.{◌≡◌, ◌⊎◌, ℕ, ℤ, pos, ◌==◌, ◌||◌, not, nat_lt, int_le, if◌then◌else◌, Bool, Option, Some, None, find, position, List, [], ◌∷◌, All, length, map, slice_index_or}
use Rattle.std.specs.List.{range_with_len}
use Rattle.std.specs.Ordering.{int_eq}
use Rattle.sg_model.specs.Ising.{Ising, bond_count}
use Rattle.sg_model.specs.Faults.{OrNoMemory}
use Rattle.sg_model.specs.declared.refusal.Fault.{Fault}
use Rattle.sg_model.specs.declared.refusal.Refusal.{Refusal}
use Rattle.sg_draft.specs.declared.limits.Limits.{Limits}
use Rattle.sg_draft.specs.Tests.{Refuses, first_of}
use Rattle.sg_bonds.specs.Bounds.{AreBounds, AreKnown, Decides, Narrows, no_bound}
use Rattle.sg_bonds.specs.declared.bounds.Bound.{Bound}
use Rattle.sg_calls.specs.Graphs.{IsFitFault, IsFitGraph, Numbers}
use Rattle.sg_calls.specs.Networks.{place_fault}

-- two lists, of a lower and an upper bound for each bond
pub record BoundLists : Type 0 where
  pub low : List ℤ
  pub high : List ℤ

-- the same, list by list
abbrev pub bound_lists : List ℤ → List ℤ → BoundLists
bound_lists low high = record { low = low; high = high }

-- the bounds of bond k
abbrev pub bound_by : BoundLists → ℕ → Bound
bound_by lists k = record {
  low = slice_index_or lists.low k (pos 0);
  high = slice_index_or lists.high k (pos 0);
}

-- all bounds, in the order of the bonds
abbrev pub bounds_by : BoundLists → List Bound
bounds_by lists = map (bound_by lists) (range_with_len 0 (length lists.low))

-- the two lists say these bounds
pub record SaysBounds (lists : BoundLists) (bounds : List Bound) : Type 0 where
  pub count_low : length lists.low ≡ length bounds
  pub count_high : length lists.high ≡ length bounds
  pub says : bounds_by lists ≡ bounds

-- the place of the asked bonds in the line of a refusal
abbrev pub asked_place : ℕ
asked_place = 14

-- the place of the lower bounds
abbrev pub low_place : ℕ
low_place = 15

-- the place of the upper bounds
abbrev pub high_place : ℕ
high_place = 16

-- the first asked number that is none of so many bonds
abbrev pub wrong_asked : ℕ → List ℕ → Option ℕ
wrong_asked count asked = position (λ k. not (nat_lt k count)) asked

-- the first lower bound that is below -1; 0 if there is not one for each of so many bonds
abbrev pub wrong_low : ℕ → List ℤ → Option ℕ
wrong_low count low =
    if length low == count then position (λ x. not (int_le no_bound x)) low else Some 0

-- -1, or no less than the lower bound
abbrev pub is_above : Bound → Bool
is_above b = int_eq b.high no_bound || int_le b.low b.high

-- the first upper bound that is not -1 and below the lower one; 0 if there is not one for each of so many bonds
abbrev pub wrong_high : ℕ → BoundLists → Option ℕ
wrong_high count lists =
    if length lists.high == count
    then find (λ k. not (is_above (bound_by lists k))) (range_with_len 0 count)
    else Some 0

-- the tests of the numbers, where there are so many bonds
abbrev pub bounds_fault : ℕ → List ℕ → BoundLists → Option Refusal
bounds_fault count asked lists = first_of (
    place_fault asked_place (wrong_asked count asked)
    ∷ place_fault low_place (wrong_low count lists.low)
    ∷ place_fault high_place (wrong_high count lists)
    ∷ [])

-- why there is no answer: the numbers give no fit graph, or a test of the bounds fails
abbrev pub IsBoundsFault : Limits → Numbers → List ℕ → BoundLists → Fault → Type 0
IsBoundsFault most g asked lists fault =
    IsFitFault most g fault
    ⊎ ((inst : Ising) × IsFitGraph most g inst
    × OrNoMemory (Refuses (bounds_fault (bond_count inst) asked lists)) fault)

-- the numbers pass their tests; if the bounds before hold, so do those after, none is looser, and both bounds of each
-- asked bond are its cost
pub record FindsCosts (asked : List ℕ) (before after : BoundLists) (inst : Ising) : Type 0 where
  pub passes : bounds_fault (bond_count inst) asked before ≡ None
  pub count_low : length after.low ≡ bond_count inst
  pub count_high : length after.high ≡ bond_count inst
  pub narrows : Narrows inst (bounds_by before) (bounds_by after)
  pub known : AreBounds inst (bounds_by before) → AreKnown inst (bounds_by after) asked

-- the numbers pass their tests; if the bounds before hold, so do those after, none is looser, each bond has an upper
-- one, and they tell which bonds are rigid
pub record DecidesBonds (before after : BoundLists) (inst : Ising) : Type 0 where
  pub passes : bounds_fault (bond_count inst) [] before ≡ None
  pub count_low : length after.low ≡ bond_count inst
  pub count_high : length after.high ≡ bond_count inst
  pub narrows : Narrows inst (bounds_by before) (bounds_by after)
  pub decided : AreBounds inst (bounds_by before) → All Decides (bounds_by after)
