-- An instance that is fit is not unfit, and one that is unfit is so by one refusal.
use Rattle.std.proofs.Common.{◌≡◌, ◌⊎◌, inl, inr, ◌<◌, ◌≤◌, ℤ, pos, refl, sym, ap, ◌∙◌, arith}
use Rattle.sg_base.specs.Limits.{sum_limit}
use Rattle.sg_model.specs.declared.refusal.Refusal.{Refusal}
use Rattle.sg_model.specs.declared.refusal.Refusal.TheVariants.{NotPlanar, SumTooLarge}
use Rattle.sg_model.specs.Ising.{Ising}
use Rattle.sg_model.specs.Energy.{weight}
use Rattle.sg_faces.specs.Euler.{IsEuler}
use Rattle.sg_faces.proofs.SameFaces.{one_euler}
use Rattle.sg_planar.specs.Fit.{IsFit, IsUnfit}

-- an instance that is fit is not unfit
pub fit_not_unfit : (inst : Ising) → IsFit inst → (refusal : Refusal) → IsUnfit inst refusal → ⊥
fit_not_unfit inst h (SumTooLarge sum) u = omega (arith, h.small, u.0)
fit_not_unfit inst h (NotPlanar e) u = u.2 (one_euler inst e (pos 2) u.1 h.genus_zero)
fit_not_unfit inst h _ u = u

-- the two refusals
abbrev pub IsOver : Ising → Refusal → Type 0
IsOver inst r = (sum_limit < weight inst) × (r ≡ SumTooLarge (pos (weight inst)))

abbrev pub IsCurved : Ising → Refusal → Type 0
IsCurved inst r = (e : ℤ) × (r ≡ NotPlanar e) × (weight inst ≤ sum_limit) × IsEuler inst e

unfit-cases : (inst : Ising) (r : Refusal) → IsUnfit inst r → IsOver inst r ⊎ IsCurved inst r
unfit-cases inst (SumTooLarge sum) u = inl (u.0, ap SumTooLarge u.1)
unfit-cases inst (NotPlanar e) u = inr (e, refl, u.0, u.1)
unfit-cases inst _ u = absurd u

pub unfit-one : (inst : Ising) (r s : Refusal) → IsUnfit inst r → IsUnfit inst s → r ≡ s
unfit-one inst r s p q = by_case (unfit-cases inst r p) (unfit-cases inst s q)
  where
    by_case : IsOver inst r ⊎ IsCurved inst r → IsOver inst s ⊎ IsCurved inst s → r ≡ s
    by_case (inl a) (inl b) = a.1 ∙ sym b.1
    by_case (inl a) (inr b) = absurd (omega (arith, a.0, b.2))
    by_case (inr a) (inl b) = absurd (omega (arith, a.2, b.0))
    by_case (inr a) (inr b) = a.1 ∙ ap NotPlanar (one_euler inst a.0 b.0 a.3 b.3) ∙ sym b.1
