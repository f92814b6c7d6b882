-- The energy where one bond has another coupling.
use Rattle.std.proofs.Common.{◌≡◌, ℕ, zero, suc, ◌<◌, ℤ, pos, neg_ℤ, ◌+ℤ◌, ◌-ℤ◌, ◌*ℤ◌, List, [], ◌∷◌, length, get_or, set, refl, ◌∙◌, ap, arith, fold}
use Rattle.std.proofs.lemmas.Int.{ints}
use Rattle.sg_model.specs.declared.bond.Bond.{Bond}
use Rattle.sg_model.specs.Ising.{Ising, bond_at, bond_count}
use Rattle.sg_model.specs.Energy.{product, energy}
use Rattle.sg_model.specs.Changes.{recoupled, with_coupling}

abbrev no_bond : Bond
no_bond = record { u = 0; v = 0; j = pos 0 }

-- the sum that an energy is the negative of, from `total` on
abbrev aligned : List ℤ → ℤ → List Bond → ℤ
aligned s total bonds = fold (λ total b. total +ℤ (b.j *ℤ product s b)) total bonds

-- what is added first can be added last
aligned_from : (s : List ℤ) (a b : ℤ) (bonds : List Bond) → aligned s (a +ℤ b) bonds ≡ aligned s a bonds +ℤ b
aligned_from s a b [] = refl
aligned_from s a b (c ∷ bonds) =
    ap (λ t. aligned s t bonds) (moved a b (c.j *ℤ product s c)) ∙ aligned_from s (a +ℤ (c.j *ℤ product s c)) b bonds
  where
    moved : (x y z : ℤ) → (x +ℤ y) +ℤ z ≡ (x +ℤ z) +ℤ y
    moved x y z = omega (arith, ints)

aligned_set : (s : List ℤ) (total z : ℤ) (bonds : List Bond) (k : ℕ) → k < length bonds →
    aligned s total (set bonds k (recoupled (get_or bonds k no_bond) z)) +ℤ ((get_or bonds k no_bond).j *ℤ product s (get_or bonds k no_bond))
    ≡ aligned s total bonds +ℤ (z *ℤ product s (get_or bonds k no_bond))
aligned_set s total z [] k l = absurd (omega arith)
aligned_set s total z (b ∷ bonds) zero l =
    added _ _ _ _ _ (aligned_from s total (z *ℤ product s b) bonds) (aligned_from s total (b.j *ℤ product s b) bonds)
  where
    added : (t x y r q : ℤ) → r ≡ t +ℤ x → q ≡ t +ℤ y → r +ℤ y ≡ q +ℤ x
    added t x y r q e f = omega (arith, ints)
aligned_set s total z (b ∷ bonds) (suc k) l = aligned_set s (total +ℤ (b.j *ℤ product s b)) z bonds k (omega arith)

-- another coupling at bond k changes the term of this bond alone
pub energy_coupled : (inst : Ising) (k : ℕ) (z : ℤ) (s : List ℤ) → k < bond_count inst →
    energy (with_coupling inst k z) s ≡ (energy inst s +ℤ ((bond_at inst k).j *ℤ product s (bond_at inst k))) -ℤ (z *ℤ product s (bond_at inst k))
energy_coupled inst k z s l = turned _ _ _ _ (aligned_set s (pos 0) z inst.bonds k l)
  where
    turned : (a b x y : ℤ) → a +ℤ x ≡ b +ℤ y → neg_ℤ a ≡ (neg_ℤ b +ℤ x) -ℤ y
    turned a b x y e = omega (arith, ints)
