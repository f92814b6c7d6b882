-- A seam has one wall.
use Rattle.std.proofs.Common.{◌≡◌, ℤ, ◌-ℤ◌, sym, ap₂, ◌∙◌}
use Rattle.sg_model.specs.Ising.{Ising}
use Rattle.sg_model.specs.Changes.{with_seam_flipped}
use Rattle.sg_model.proofs.OneEnergy.{least-one}
use Rattle.sg_wall.specs.Wall.{IsWall}

pub wall-one : (inst : Ising) (a b c x y z : ℤ) → IsWall inst a b c → IsWall inst x y z → (a ≡ x) × (b ≡ y) × (c ≡ z)
wall-one inst a b c x y z p q =
    let first : a ≡ x = least-one inst a x p.least q.least in
    let second : b ≡ y = least-one (with_seam_flipped inst) b y p.least_flipped q.least_flipped in
    (first, second, p.gain ∙ ap₂ (λ (v w : ℤ). v -ℤ w) second first ∙ sym q.gain)
