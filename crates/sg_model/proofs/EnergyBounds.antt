-- An energy is at most the weight of all bonds in size; and the energy of a ground state is the least.
use Rattle.std.proofs.Common.{◌≡◌, ℕ, ◌*◌, ◌≤◌, ℤ, pos, ◌-ℤ◌, List, arith, sum_by, unsigned_abs}
use Rattle.std.proofs.lemmas.Int.{ints}
use Rattle.sg_base.proofs.SumLaws.{sum_by-le-all}
use Rattle.sg_model.specs.declared.bond.Bond.{Bond}
use Rattle.sg_model.specs.Ising.{Ising}
use Rattle.sg_model.specs.WellFormed.{IsInstance}
use Rattle.sg_model.specs.Spins.{IsAssignment}
use Rattle.sg_model.specs.Energy.{IsGroundState, IsLeastEnergy, energy, weight}
use Rattle.sg_model.proofs.BrokenEnergy.{broken_weight, energy_from_broken}

broken-le : (s : List ℤ) (bonds : List Bond) → sum_by (broken_weight s) bonds ≤ sum_by (λ b. unsigned_abs b.j) bonds
broken-le s bonds = grind (arith, sum_by-le-all)

-- no energy is larger in size than the weight of all bonds
pub energy_size : (inst : Ising) (s : List ℤ) → IsInstance inst → IsAssignment inst s → unsigned_abs (energy inst s) ≤ weight inst
energy_size inst s good h = bounded (energy inst s) _ (weight inst) (energy_from_broken inst s good h) (broken-le s inst.bonds)
  where
    bounded : (e : ℤ) (b w : ℕ) → e ≡ pos (2 * b) -ℤ pos w → b ≤ w → unsigned_abs e ≤ w
    bounded e b w p q = omega (arith, ints)

-- the energy of a ground state is the least energy
pub least_of_ground_state : (inst : Ising) (s : List ℤ) (e : ℤ) → IsGroundState inst s → e ≡ energy inst s → IsLeastEnergy inst e
least_of_ground_state inst s e g same = grind arith
