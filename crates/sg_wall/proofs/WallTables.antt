-- Tables that take more than is allowed under one of the two boundaries.
use Rattle.std.proofs.Common.{inl, inr, ◌≡◌, ℕ, ◌-◌, ◌^◌, ap, subst}
use Rattle.sg_model.specs.Ising.{Ising}
use Rattle.sg_model.specs.Changes.{with_seam_flipped}
use Rattle.sg_planar.specs.Fit.{Embedding}
use Rattle.sg_tjoin.specs.Allowance.{IfTooLarge}
use Rattle.sg_tjoin.specs.declared.allowance.Unproved.{Unproved}
use Rattle.sg_tjoin.proofs.TableBounds.{IfTooLarge-weaker}
use Rattle.sg_ground.specs.Allowance.{TablesExceed}
use Rattle.sg_ground.proofs.Allowed.{all_fit}
use Rattle.sg_wall.specs.Wall.{WallTablesExceed}

pub first_exceeds : (inst : Ising) (most : ℕ) (e : Unproved) → IfTooLarge (TablesExceed most inst) e → IfTooLarge (WallTablesExceed most inst) e
first_exceeds inst most = IfTooLarge-weaker inl

pub second_exceeds : (p q : Embedding) → q ≡ record { instance = with_seam_flipped p.instance; faces = p.faces } → (most : ℕ) (e : Unproved)
    → IfTooLarge (TablesExceed most q.instance) e → IfTooLarge (WallTablesExceed most p.instance) e
second_exceeds p q flipped most =
    IfTooLarge-weaker (λ h. inr (subst (TablesExceed most) (ap (λ (r : Embedding). r.instance) flipped) h))

-- all of them fit 2^64 bytes
pub walls_fit : (inst : Ising) → WallTablesExceed (2 ^ 64 - 1) inst → ⊥
walls_fit inst (inl h) = all_fit inst h
walls_fit inst (inr h) = all_fit (with_seam_flipped inst) h
