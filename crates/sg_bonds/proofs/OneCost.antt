-- A bond has one cost, and a spin one cluster.
use Rattle.sg_bonds.proofs.Common.{◌≡◌, ◌<◌, ℕ, ℤ, pos, negsuc, ◌-ℤ◌, Bool, true, List, [], ◌∷◌, get_or, sym, ap₂, ◌∙◌, arith, unsigned_abs, get_or_default}
use Rattle.sg_bonds.proofs.Common.{same_lists, Ising, bond_count, IsWalk, Reached}
use Rattle.sg_model.proofs.OneEnergy.{least-meet}
use Rattle.sg_bonds.specs.Cost.{AreCosts, IsCost, IsLeastWith}
use Rattle.sg_bonds.specs.Cluster.{AreClusters, IsCluster}

-- one energy is the least with a product at a bond
pub with-one : (inst : Ising) (k : ℕ) (p d e : ℤ) → IsLeastWith inst k p d → IsLeastWith inst k p e → d ≡ e
with-one inst k p d e a b =
    least-meet d e _ _ (a.least b.reached.0 b.reached.1 b.reached.2) (b.least a.reached.0 a.reached.1 a.reached.2) a.reached.3 b.reached.3

-- a bond has one cost
pub cost-one : (inst : Ising) (k : ℕ) (c d : ℤ) → IsCost inst k c → IsCost inst k d → c ≡ d
cost-one inst k c d p q =
    p.apart
    ∙ ap₂ (λ (u l : ℤ). pos (unsigned_abs (u -ℤ l))) (with-one inst k (negsuc 0) p.unlike q.unlike p.least_unlike q.least_unlike)
    (with-one inst k (pos 1) p.like q.like p.least_like q.least_like)
    ∙ sym q.apart

pub costs-one : (inst : Ising) (xs ys : List ℤ) → AreCosts inst xs → AreCosts inst ys → xs ≡ ys
costs-one inst xs ys p q =
    same_lists xs ys (p.count ∙ sym q.count)
    (λ k d l.
    get_or_default xs k d (pos 0) l
    ∙ cost-one inst k (get_or xs k (pos 0)) (get_or ys k (pos 0)) (p.each k (omega (arith, l, p.count))) (q.each k (omega (arith, l, p.count)))
    ∙ sym (get_or_default ys k d (pos 0) (omega (arith, l, p.count, q.count))))

-- a walk over bonds of one set is one over those of another that has them too
pub walk-kept : (inst : Ising) (set other : ℕ → Bool) →
    ((b : ℕ) → b < bond_count inst → set b ≡ true → other b ≡ true) → (path : List ℕ) (a b : ℕ)
    → IsWalk inst set a path b → IsWalk inst other a path b
walk-kept inst set other more [] a b w = w
walk-kept inst set other more (c ∷ cs) a b w = (
  record { bond = w.0.bond; below = w.0.below; in_set = more w.0.bond w.0.below w.0.in_set; ends = w.0.ends },
  walk-kept inst set other more cs c b w.1,
)

-- a spin has one cluster
pub cluster-one : (inst : Ising) (i k l : ℕ) → IsCluster inst i k → IsCluster inst i l → k ≡ l
cluster-one inst i k l p q =
    let forth : Reached inst q.set i k =
    (p.reached.0, walk-kept inst p.set q.set (λ b low h. (q.rigid b low).1 ((p.rigid b low).0 h)) p.reached.0 i k p.reached.1) in
    let back : Reached inst p.set i l =
    (q.reached.0, walk-kept inst q.set p.set (λ b low h. (p.rigid b low).1 ((q.rigid b low).0 h)) q.reached.0 i l q.reached.1) in
    omega (arith, p.least l back, q.least k forth)

pub clusters-one : (inst : Ising) (xs ys : List ℕ) → AreClusters inst xs → AreClusters inst ys → xs ≡ ys
clusters-one inst xs ys p q =
    same_lists xs ys (p.count ∙ sym q.count)
    (λ k d l.
    get_or_default xs k d 0 l
    ∙ cluster-one inst k (get_or xs k 0) (get_or ys k 0) (p.each k (omega (arith, l, p.count))) (q.each k (omega (arith, l, p.count)))
    ∙ sym (get_or_default ys k d 0 (omega (arith, l, p.count, q.count))))
