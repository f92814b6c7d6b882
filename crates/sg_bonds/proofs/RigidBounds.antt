-- A bond that another ground state turns is free.
use Rattle.sg_bonds.proofs.Common.{◌≡◌, ℕ, ◌<◌, ℤ, pos, neg_ℤ, ◌≤ℤ◌, List, refl, sym, subst, arith, ints, Ising, bond_at, bond_count, IsInstance, IsUpOrDown}
use Rattle.sg_bonds.proofs.Common.{IsAssignment, IsGroundState, energy, product}
use Rattle.sg_bonds.specs.Cost.{IsCost}
use Rattle.sg_bonds.proofs.CostNumbers.{cost_from_other}
use Rattle.sg_bonds.proofs.ForcedMinimum.{unit_product}

module _ (inst : Ising) (good : IsInstance inst) (s : List ℤ) (ground : IsGroundState inst s) (k : ℕ) (inside : k < bond_count inst) where
  unit : IsUpOrDown (product s (bond_at inst k))
  unit = unit_product inst good k inside s ground.assignment

  -- a bond that another ground state turns is free
  pub free_turned : (t : List ℤ) → IsAssignment inst t → energy inst t ≡ energy inst s
      → product t (bond_at inst k) ≡ neg_ℤ (product s (bond_at inst k)) → IsCost inst k (pos 0)
  free_turned t h level turned =
      cost_from_other inst good k s (product t (bond_at inst k)) (energy inst t) (pos 0) ground (unit_product inst good k inside t h)
      (grind (arith, ints, turned, unit))
      (record { reached = (t, h, refl, refl); least = λ x u same. subst (λ e. e ≤ℤ energy inst x) (sym level) (ground.least x u) })
      (omega (arith, ints, level))
