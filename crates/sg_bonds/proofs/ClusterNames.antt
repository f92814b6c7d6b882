-- Names of clusters: the costs show the rigid bonds, and the names over these are the clusters.
use Rattle.sg_bonds.proofs.Common.{◌≡◌, ◌↔◌, ℕ, ◌+◌, ◌<◌, ℤ, pos, ◌<ℤ◌, Bool, true, false, List, [], ◌∷◌, ◌++◌, length, get_or, ◌∙◌, ap, subst, arith, IsTrue, length_push, Ising, has}
use Rattle.sg_bonds.proofs.OneCost.{cost-one}
use Rattle.sg_bonds.proofs.OneEntry.{push_each}
use Rattle.sg_bonds.specs.Cost.{AreCosts, IsRigid}
use Rattle.sg_bonds.specs.Cluster.{AreClusters, HasRigid}
use Rattle.sg_planar.specs.Naming.{AllNamed}
use Rattle.sg_bonds.specs.Naming.{ShowsRigid}

-- the costs above 0 are those of the rigid bonds
pub has_rigid : (inst : Ising) (costs : List ℤ) (set : List Bool) → AreCosts inst costs → ShowsRigid costs set (length costs) → HasRigid inst (has set)
has_rigid inst costs set right shows b l =
    let below : b < length costs = omega (arith, right.count) in (
      λ (h : has set b ≡ true). (get_or costs b (pos 0), right.each b l, (shows.shown b below).0 h),
      λ (r : IsRigid inst b). (shows.shown b below).1 (subst (λ c. pos 0 <ℤ c) (cost-one inst b r.0 (get_or costs b (pos 0)) r.1 (right.each b l)) r.2),
    )

-- names over the rigid bonds are the clusters
pub are_clusters : (inst : Ising) (set : List Bool) (names : List ℕ) → HasRigid inst (has set) → AllNamed inst (has set) names → AreClusters inst names
are_clusters inst set names rigid all = record {
  count = all.count;
  each = λ i l. record { set = has set; rigid = rigid; reached = (all.each i l).reached; least = (all.each i l).least };
}

-- one cost more
pub shows_more : (costs : List ℤ) (set : List Bool) (stop : ℕ) (flag : Bool) → ShowsRigid costs set stop
    → (IsTrue flag ↔ (pos 0 <ℤ get_or costs stop (pos 0))) → ShowsRigid costs (set ++ flag ∷ []) (stop + 1)
shows_more costs set stop flag h test = record {
  count = length_push set flag ∙ ap (λ n. n + 1) h.count;
  shown = push_each (λ b t. (t ≡ true) ↔ (pos 0 <ℤ get_or costs b (pos 0))) set flag false stop h.count h.shown test;
}
