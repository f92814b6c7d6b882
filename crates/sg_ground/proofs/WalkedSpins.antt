-- What a walk from marks that are not set says: what it marks is reached.
use Rattle.std.proofs.Common.{◌≡◌, ◌⊎◌, inl, inr, ℕ, Bool, true, false, List, subst, get_or, replicate}
use Rattle.sg_base.specs.Sets.{IsMarked, Stands}
use Rattle.sg_base.proofs.MarkLaws.{none_marked}
use Rattle.sg_model.specs.Ising.{Ising}
use Rattle.sg_model.specs.Connected.{Reached}
use Rattle.sg_planar.specs.Walk.{IsWalked}

-- a walk marks what its root reaches
pub reached_by_walk : (inst : Ising) (set : ℕ → Bool) (root x n : ℕ) (old now : List Bool) (order : List ℕ)
    → old ≡ replicate n false → IsWalked inst set root old now order → get_or now x false ≡ true → Reached inst set root x
reached_by_walk inst set root x n old now order fresh walked marked = by_noted (walked.noted x marked)
  where
    by_noted : IsMarked old x ⊎ Stands order x → Reached inst set root x
    by_noted (inl before) = absurd (none_marked n x (subst (λ ms. IsMarked ms x) fresh before))
    by_noted (inr (k, l, e)) = subst (Reached inst set root) e (walked.reached k l)
