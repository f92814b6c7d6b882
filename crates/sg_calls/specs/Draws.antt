-- Draws of a law by its number.
use Rattle.std.specs.Prelude.{ℕ, ℤ, pos, ◌+◌, ◌==◌, nat_lt, if◌then◌else◌, Option, List, [], ◌∷◌, replicate}
use Rattle.sg_base.specs.Limits.{large_bond_limit}
use Rattle.sg_laws.specs.Stream.{alternating, drawn, seeded_generator, level_of, sign_of}
use Rattle.sg_model.specs.declared.refusal.Refusal.{Refusal}
use Rattle.sg_model.specs.declared.refusal.Refusal.TheVariants.{TooManyBonds, UnknownLaw}
use Rattle.sg_draft.specs.Tests.{first_of, refuse_if}

-- the first draws of a law after a seed; the laws are, by their numbers, one, alternate, pm and uniform
abbrev pub draws_by : ℕ → ℕ → ℕ → List ℤ
draws_by law seed count =
    if law == 0 then replicate count (pos 1) else
    (if law == 1 then alternating seed count else
    (if law == 2 then drawn sign_of count (seeded_generator seed) else
    drawn level_of count (seeded_generator seed)))

-- the tests: there is a law of this number, and there are no more draws than a large instance may have bonds
abbrev pub draws_fault : ℕ → ℕ → Option Refusal
draws_fault law count = first_of (
    refuse_if (nat_lt 3 law) UnknownLaw
    ∷ refuse_if (nat_lt large_bond_limit count) (TooManyBonds (large_bond_limit + 1))
    ∷ [])
