-- An instance has one least energy.
use Rattle.std.proofs.Common.{◌≡◌, ℤ, ◌≤ℤ◌, arith}
use Rattle.std.proofs.lemmas.Int.{ints}
use Rattle.sg_model.specs.Ising.{Ising}
use Rattle.sg_model.specs.Energy.{IsLeastEnergy}

-- two least numbers, each of which is reached where the other is a bound, are one
pub least-meet : (d e x y : ℤ) → d ≤ℤ x → e ≤ℤ y → y ≡ d → x ≡ e → d ≡ e
least-meet d e x y p q r s = omega (arith, ints)

pub least-one : (inst : Ising) (d e : ℤ) → IsLeastEnergy inst d → IsLeastEnergy inst e → d ≡ e
least-one inst d e p q = grind arith
