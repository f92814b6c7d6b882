-- The weight of the bonds that are broken at the least energy.
use Rattle.std.proofs.Common.{◌≡◌, ℕ, ◌*◌, ℤ, pos, ◌+ℤ◌, ◌-ℤ◌, sym, ◌∙◌, arith, sum_by}
use Rattle.std.proofs.lemmas.Int.{ints}
use Rattle.sg_model.specs.Ising.{Ising}
use Rattle.sg_model.specs.WellFormed.{IsInstance}
use Rattle.sg_model.specs.Energy.{IsLeastEnergy, weight}
use Rattle.sg_model.proofs.BrokenEnergy.{broken_weight, energy_from_broken}

-- the broken bonds of some spins that have the least energy
abbrev pub broken_at : (inst : Ising) (e : ℤ) → IsLeastEnergy inst e → ℕ
broken_at inst e least = sum_by (broken_weight least.reached.0) inst.bonds

-- twice that weight is the energy and the weight of all bonds together
pub twice_broken : (inst : Ising) (e : ℤ) → IsInstance inst → (least : IsLeastEnergy inst e)
    → pos (broken_at inst e least) +ℤ pos (broken_at inst e least) ≡ e +ℤ pos (weight inst)
twice_broken inst e good least =
    added (broken_at inst e least) (weight inst) e (sym least.reached.2 ∙ energy_from_broken inst least.reached.0 good least.reached.1)
  where
    added : (k w : ℕ) (e : ℤ) → e ≡ pos (2 * k) -ℤ pos w → pos k +ℤ pos k ≡ e +ℤ pos w
    added k w e h = omega (arith, ints, h)
