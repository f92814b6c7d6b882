-- Tests of an input: each gives its refusal if it fails, and of several the first that fails counts.
use Rattle.std.specs.Prelude.{◌≡◌, Bool, if◌then◌else◌, List, [], ◌∷◌, Option, Some, None}
use Rattle.std.specs.Option.{option_or}
use Rattle.sg_model.specs.declared.refusal.Refusal.{Refusal}

-- the refusal, if the test fails
abbrev pub refuse_if : Bool → Refusal → Option Refusal
refuse_if fails refusal = if fails then Some refusal else None

-- the first failed check
abbrev pub first_of : List (Option Refusal) → Option Refusal
first_of [] = None
first_of (test ∷ tests) = option_or test (first_of tests)

-- the test fails with this refusal
abbrev pub Refuses : Option Refusal → Refusal → Type 0
Refuses test refusal = test ≡ Some refusal
