-- The tests of the numbers of an input: its sizes, and how many entries its lists have.
use Rattle.std.specs.Prelude.{ℕ, ◌+◌, ◌-◌, ◌*◌, ◌^◌, ◌==◌, min, pos, Bool, false, not, nat_le, nat_lt, [], ◌∷◌, Option, Some, None, unwrap_or}
use Rattle.sg_model.specs.declared.refusal.Refusal.{Refusal}
use Rattle.sg_model.specs.declared.refusal.Refusal.TheVariants.{CouplingCount, TooManyBonds, TooManySpins}
use Rattle.sg_lattice.specs.declared.kind.Kind.{Kind}
use Rattle.sg_lattice.specs.Tables.{least_cols}
use Rattle.sg_draft.specs.declared.limits.Limits.{Limits}
use Rattle.sg_draft.specs.declared.member.Member.{Member}
use Rattle.sg_draft.specs.declared.member.Member.TheVariants as member
use Rattle.sg_draft.specs.Members.{bad_member}
use Rattle.sg_draft.specs.Tests.{first_of, refuse_if}

-- a number is there, and at least so large
abbrev pub is_number_from : ℕ → Option ℕ → Bool
is_number_from least None = false
is_number_from least (Some n) = nat_le least n

-- the test of a number: it exists and is at least so large
abbrev pub number_fault : Member → ℕ → Option ℕ → Option Refusal
number_fault what least size = refuse_if (not (is_number_from least size)) (bad_member what)

-- the spins are no more than the limit
abbrev pub many_spins_fault : Limits → ℕ → Option Refusal
many_spins_fault most n = refuse_if (nat_lt most.spins n) (TooManySpins (pos n))

-- the size of a lattice: its rows, its columns, and the number of its spins
abbrev pub lattice_size_fault : Limits → Kind → Option ℕ → Option ℕ → Option Refusal
lattice_size_fault most kind rows cols = first_of (
    number_fault member.Rows 1 rows
    ∷ number_fault member.Cols (least_cols kind) cols
    ∷ many_spins_fault most (unwrap_or rows 0 * unwrap_or cols 0)
    ∷ [])

-- the number of spins of a general instance
abbrev pub spin_count_fault : Limits → Option ℕ → Option Refusal
spin_count_fault most spins = first_of (
    number_fault member.SpinCount 1 spins
    ∷ many_spins_fault most (unwrap_or spins 0)
    ∷ [])

-- a lattice has a coupling for each bond; how many it has is told up to the last number of 32 bits
abbrev pub coupling_count_fault : ℕ → ℕ → Option Refusal
coupling_count_fault found wanted =
    refuse_if (not (found == wanted)) (CouplingCount (min found (2 ^ 32 - 1)) wanted)

-- the bonds are no more than the limit
abbrev pub bond_count_fault : Limits → ℕ → Option Refusal
bond_count_fault most bonds = refuse_if (nat_lt most.bonds bonds) (TooManyBonds (most.bonds + 1))
