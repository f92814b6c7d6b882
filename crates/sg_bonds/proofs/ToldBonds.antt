-- What is told of the bonds stays true: one more bond is told, bonds that were weakened are rigid, or another ground state frees
-- those that it turns.
use Rattle.sg_bonds.proofs.Common.{◌≡◌, ◌⊎◌, ◌↔◌, inl, inr, ℕ, ◌+◌, ◌<◌, ◌≤◌, Bool, true, false, ℤ, pos, ◌≤ℤ◌, List, [], ◌∷◌, ◌++◌, sym, ◌∙◌, subst, arith}
use Rattle.sg_bonds.proofs.Common.{length, set, length-set, ints, Ising, bond_count, has}
use Rattle.sg_bonds.specs.Cost.{IsCost, IsRigid}
use Rattle.sg_bonds.specs.declared.telling.Told.{Told}
use Rattle.sg_bonds.specs.declared.telling.Told.TheVariants.{Free, Rigid, Unknown}
use Rattle.sg_bonds.specs.Told.{AreTold, IsTold, told_at}
use Rattle.sg_bonds.proofs.OneCost.{cost-one}
use Rattle.sg_bonds.proofs.OneEntry.{push_each, set_either}

-- a bond that does not cost more than 0 is not rigid
pub not_rigid : (inst : Ising) (k : ℕ) (c : ℤ) → IsCost inst k c → c ≤ℤ pos 0 → IsRigid inst k → ⊥
not_rigid inst k c cost none (d, other, more) = omega (arith, ints, cost-one inst k d c other cost, none, more)

module _ (inst : Ising) (told : List Told) (are : AreTold inst told) where
  -- one more bond is told
  pub told_more : (k : ℕ) → k < bond_count inst → (now : Told) → IsTold inst k now → AreTold inst (set told k now)
  told_more k inside now true_now = record {
    count = length-set told k now ∙ are.count;
    each = λ i l. set_either (IsTold inst) told now Unknown k i (omega (arith, inside, are.count)) true_now (λ _. are.each i l);
  }

  -- what is told of a bond after another ground state, where it is free if that turns it
  pub freed_true : (k : ℕ) (now : Told) (turns : Bool) → k < bond_count inst → (turns ≡ true → IsCost inst k (pos 0))
      → (now ≡ told_at told k) ⊎ ((turns ≡ true) × (now ≡ Free)) → IsTold inst k now
  freed_true k now turns inside free (inl same) = subst (IsTold inst k) (sym same) (are.each k inside)
  freed_true k now turns inside free (inr (yes_turned, is)) = subst (IsTold inst k) (sym is) (free yes_turned)

  -- what is told of a bond that was weakened by an amount
  pub stiffened_true : (k : ℕ) (now : Told) (amount : ℕ) → k < bond_count inst → (1 ≤ amount → IsRigid inst k)
      → (now ≡ told_at told k) ⊎ ((1 ≤ amount) × (now ≡ Rigid)) → IsTold inst k now
  stiffened_true k now amount inside rigid (inl same) = subst (IsTold inst k) (sym same) (are.each k inside)
  stiffened_true k now amount inside rigid (inr (some, is)) = subst (IsTold inst k) (sym is) (rigid some)

-- one more mark of a rigid bond
pub marks_push : (inst : Ising) (set : List Bool) (now : Bool) (stop : ℕ) → length set ≡ stop → ((k : ℕ) → k < stop → (has set k ≡ true) ↔ IsRigid inst k)
    → ((now ≡ true) ↔ IsRigid inst stop) → (k : ℕ) → k < stop + 1 → (has (set ++ now ∷ []) k ≡ true) ↔ IsRigid inst k
marks_push inst set now stop long before here = push_each (λ k m. (m ≡ true) ↔ IsRigid inst k) set now false stop long before here
