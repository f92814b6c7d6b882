-- General graphs by numbers: what they say, which numbers give one, what is wrong with others, and what a study or a
-- checker finds of one.
use Rattle.std.specs.Prelude.{◌≡◌, ◌⊎◌, ℕ, ℤ, pos, ◌+◌, ◌*◌, ◌<◌, ◌==◌, not, if◌then◌else◌, Option, Some, find, List, [], length, map, slice_index_or}
use Rattle.std.specs.List.{range_with_len}
use Rattle.sg_base.specs.Limits.{bond_limit, spin_limit}
use Rattle.sg_draft.specs.Limits.{large_limits}
use Rattle.sg_model.specs.Ising.{Ising}
use Rattle.sg_model.specs.Faults.{OrNoMemory}
use Rattle.sg_model.specs.declared.bond.Bond.{Bond}
use Rattle.sg_model.specs.declared.refusal.Fault.{Fault}
use Rattle.sg_model.specs.declared.refusal.Fault.TheVariants.{Refused, NoMemory}
use Rattle.sg_model.specs.declared.refusal.Refusal.{Refusal}
use Rattle.sg_model.specs.declared.refusal.Refusal.TheVariants.{NoSeam}
use Rattle.sg_planar.specs.Fit.{IsFit, IsUnfit}
use Rattle.sg_draft.specs.declared.limits.Limits.{Limits}
use Rattle.sg_draft.specs.declared.read.Read.TheVariants.{Known}
use Rattle.sg_draft.specs.Bonds.{is_among}
use Rattle.sg_draft.specs.Draft.{Draft, IsDrafted, IsDraftRefusal, OfGeneral}
use Rattle.sg_draft.specs.Reads.{unless}
use Rattle.sg_draft.specs.Tests.{Refuses}
use Rattle.sg_tjoin.specs.declared.allowance.Unproved.{Unproved}
use Rattle.sg_tjoin.specs.declared.allowance.Unproved.TheVariants as unproved
use Rattle.sg_calls.specs.declared.unanswered.Unanswered.{Unanswered}
use Rattle.sg_calls.specs.declared.unanswered.Unanswered.TheVariants.{Fault as ByFault, TablesTooLarge}
use Rattle.sg_calls.specs.declared.graphs.Given.{Given}
use Rattle.sg_calls.specs.Crossing.{entries_of, entry, wrong_start}

-- the numbers of a graph: its spins, two ends for each bond and its coupling, the darts of each spin from its start on,
-- and the bonds of the seam
pub record Numbers : Type 0 where
  pub n : ℕ
  pub ends : List ℕ
  pub couplings : List ℤ
  pub starts : List ℕ
  pub darts : List ℕ
  pub seam : List ℕ

-- the numbers of a graph as a caller hands them in, by their lists
abbrev pub numbers : ℕ → List ℕ → List ℤ → List ℕ → List ℕ → List ℕ → Numbers
numbers n ends couplings starts darts seam =
    record { n = n; ends = ends; couplings = couplings; starts = starts; darts = darts; seam = seam }

-- the numbers of a graph that was handed in
abbrev pub numbers_of : Given → Numbers
numbers_of g = numbers g.n g.ends.now g.couplings.now g.starts.now g.darts.now g.seam.now

-- bond k has the ends at the places 2k and 2k + 1
abbrev pub bond_by : List ℕ → List ℤ → ℕ → Bond
bond_by ends couplings k =
    record { u = entry ends (2 * k); v = entry ends (2 * k + 1); j = slice_index_or couplings k (pos 0) }

-- the bonds that these ends and couplings give, in the order of the couplings
abbrev pub bonds_by : List ℕ → List ℤ → List Bond
bonds_by ends couplings = map (bond_by ends couplings) (range_with_len 0 (length couplings))

-- the first bond that does not connect two of n spins or has no coupling; 0 if there are not two ends for each bond
abbrev pub wrong_bond : ℕ → List ℕ → List ℤ → Option ℕ
wrong_bond n ends couplings =
    if length ends == 2 * length couplings
    then find (λ k. not (is_among n (bond_by ends couplings k))) (range_with_len 0 (length couplings))
    else Some 0

-- the darts of each of n spins
abbrev pub lists_by : ℕ → List ℕ → List ℕ → List (List ℕ)
lists_by n starts darts = map (entries_of starts darts) (range_with_len 0 n)

-- what the numbers say
abbrev pub graph_draft : Numbers → Draft
graph_draft g = OfGeneral (record {
  spins = Some g.n;
  bonds = unless (wrong_bond g.n g.ends g.couplings) (bonds_by g.ends g.couplings);
  rotation = unless (wrong_start g.starts g.n (length g.darts)) (lists_by g.n g.starts g.darts);
  seam = Known (Some g.seam);
})

-- the graph of these numbers, within the limits
abbrev pub IsGraph : Limits → Numbers → Ising → Type 0
IsGraph most g inst = IsDrafted most (graph_draft g) inst

-- the first thing that is wrong with these numbers: a test fails, or what they say is no instance
abbrev pub IsGraphFault : Limits → Numbers → Fault → Type 0
IsGraphFault most g fault = OrNoMemory (IsDraftRefusal most (graph_draft g)) fault

-- the graph of the numbers is fit for a planar solver
pub record IsFitGraph (most : Limits) (g : Numbers) (inst : Ising) : Type 0 where
  pub given : IsGraph most g inst
  pub fit : IsFit inst

-- why the numbers give none: they give no graph, or one that is not fit
abbrev pub IsFitFault : Limits → Numbers → Fault → Type 0
IsFitFault most g fault =
    IsGraphFault most g fault ⊎ ((inst : Ising) × IsGraph most g inst × OrNoMemory (IsUnfit inst) fault)

-- why they give no wall: no fit graph, or one without a seam
abbrev pub IsWallFault : Limits → Numbers → Fault → Type 0
IsWallFault most g fault =
    IsFitFault most g fault
    ⊎ ((inst : Ising) × IsFitGraph most g inst × (inst.seam ≡ []) × (fault ≡ Refused NoSeam))

-- why they give no verdict: they give no graph, or a test of what is stated of it fails
abbrev pub IsProofFault : Limits → Numbers → Option Refusal → Fault → Type 0
IsProofFault most g test fault =
    IsGraphFault most g fault ⊎ ((inst : Ising) × IsGraph most g inst × OrNoMemory (Refuses test) fault)

-- the same if the graph has to be fit
abbrev pub IsFitProofFault : Limits → Numbers → Option Refusal → Fault → Type 0
IsFitProofFault most g test fault =
    IsFitFault most g fault ⊎ ((inst : Ising) × IsFitGraph most g inst × OrNoMemory (Refuses test) fault)

-- a solver's error as that of a study
abbrev pub unanswered_by : Unproved → Unanswered
unanswered_by unproved.NoMemory = ByFault NoMemory
unanswered_by unproved.TablesTooLarge = TablesTooLarge

-- why a study has no answer: a fault that is owed, or tables that exceed what is allowed
abbrev pub IsUnanswered : (Fault → Type 0) → Type 0 → Unanswered → Type 0
IsUnanswered Owed Exceed (ByFault fault) = Owed fault
IsUnanswered Owed Exceed TablesTooLarge = Exceed

-- an instance that the numbers give, of which this was found
pub record Finds (Given Study : Ising → Type 0) : Type 0 where
  pub instance : Ising
  pub given : Given instance
  pub study : Study instance

-- the tables of the fit graph exceed what is allowed, and it has more spins or more bonds than the program takes
pub record IsTooLarge (g : Numbers) (Exceed : Ising → Type 0) : Type 0 where
  pub exceed : Finds (IsFitGraph large_limits g) Exceed
  pub large : (spin_limit < g.n) ⊎ (bond_limit < length g.couplings)
