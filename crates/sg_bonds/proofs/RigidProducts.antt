-- Two ground states agree on the product at each rigid bond, and so on the product of two spins that rigid bonds join.
use Rattle.sg_bonds.proofs.Common.{◌≡◌, inl, inr, ℕ, Bool, ℤ, ◌*ℤ◌, List, arith, ints, Ising, IsInstance, spin, IsGroundState, Reached}
use Rattle.sg_bonds.specs.Cluster.{HasRigid, IsCluster}
use Rattle.sg_bonds.proofs.Agreement.{Agree, agree_back, agree_or_turn, agree_through}
use Rattle.sg_bonds.proofs.ForcedMinimum.{unit_product}
use Rattle.sg_bonds.proofs.PathBounds.{turned_costs}

module _ (inst : Ising) (good : IsInstance inst) (s t : List ℤ) (gs : IsGroundState inst s) (gt : IsGroundState inst t) where
  agree_reached : (set : ℕ → Bool) → HasRigid inst set → (a b : ℕ) → Reached inst set a b → Agree inst good s t gs.assignment gt.assignment a b
  agree_reached set rigid a b r = elim (agree_or_turn inst good s t gs.assignment gt.assignment set r.0 a b r.1) [
    | inl same ↦ same
    | inr u ↦
        let (c, cost, more) = (rigid u.bond u.below).0 u.in_set in
        let far = turned_costs inst good s gs u.bond c t cost (unit_product inst good u.bond u.below s gs.assignment) gt.assignment u.turned in
        absurd (omega (arith, ints, far, more, gt.least s gs.assignment))
  ]

  -- two spins of one cluster
  pub cluster_products : (i j k : ℕ) → IsCluster inst i k → IsCluster inst j k → spin s i *ℤ spin s j ≡ spin t i *ℤ spin t j
  cluster_products i j k p q =
      agree_through inst good s t gs.assignment gt.assignment i k j (agree_reached p.set p.rigid i k p.reached)
      (agree_back inst good s t gs.assignment gt.assignment j k (agree_reached q.set q.rigid j k q.reached))
