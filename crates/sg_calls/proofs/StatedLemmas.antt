-- The tests of the numbers that state a proof.
use Rattle.std.proofs.Common.{◌≡◌, ℕ, ◌+◌, ◌<◌, ◌≤◌, ℤ, pos, None, Some, List, [], ◌∷◌, ◌++◌, get_or, length, map, take, refl, ap, sym, ◌∙◌, le-ltb}
use Rattle.std.proofs.lemmas.List.{map-append, take_more}
use Rattle.sg_check.specs.declared.packing.Loop.{Loop}
use Rattle.sg_base.specs.Limits.{input_limit}
use Rattle.sg_draft.specs.Members.{bad_entry}
use Rattle.sg_draft.specs.declared.member.Member.TheVariants as member
use Rattle.sg_calls.specs.Proofs.{first_bad_spin, values_fault}

module _ (values : List ℤ) where
  -- a bad value refuses the values
  pub by_value : (k : ℕ) → length values ≤ input_limit → first_bad_spin values ≡ Some k → values_fault values ≡ Some (bad_entry member.Spins k)
  by_value k few bad = rw (le-ltb input_limit (length values) few, bad) refl

  -- without one, and not too many, they pass
  pub values-pass : length values ≤ input_limit → first_bad_spin values ≡ None → values_fault values ≡ None
  values-pass few bad = rw (le-ltb input_limit (length values) few, bad) refl

-- the weight of one loop more
pub weights_more : (loops : List Loop) (each : Loop) (weights : List ℤ) (k : ℕ) → k < length weights → map (λ l. l.y) loops ≡ take k weights
    → each.y ≡ get_or weights k (pos 0) → map (λ l. l.y) (loops ++ each ∷ []) ≡ take (k + 1) weights
weights_more loops each weights k less so_far here =
    map-append (λ (l : Loop). l.y) loops (each ∷ [])
    ∙ ap (λ (l : List ℤ). l ++ each.y ∷ []) so_far
    ∙ ap (λ (z : ℤ). take k weights ++ z ∷ []) here
    ∙ sym (take_more weights k (pos 0) less)
