-- A list with another entry, or one more: what holds of that entry and of the others holds of each.
use Rattle.sg_bonds.proofs.Common.{◌≡◌, ◌≢◌, inl, inr, ℕ, ◌+◌, ◌<◌, List, [], ◌∷◌, ◌++◌, length, get_or, set, sym, ◌∙◌, subst, arith, cases_eq, cases_lt}
use Rattle.sg_bonds.proofs.Common.{get_or-set_other, get_or-set_same, get_or_append_left, get_or_push}

module _ {A : Type 0} (P : ℕ → A → Type 0) (xs : List A) (now d : A) where
  pub set_either : (k i : ℕ) → k < length xs → P k now → (i ≢ k → P i (get_or xs i d)) → P i (get_or (set xs k now) i d)
  set_either k i l here other = elim (cases_eq i k) [
    | inl e ↦ subst (λ j. P j (get_or (set xs k now) j d)) (sym e) (subst (P k) (sym (get_or-set_same xs k now d l)) here)
    | inr ne ↦ subst (P i) (sym (get_or-set_other xs k i now d ne)) (other ne)
  ]

  pub push_each : (n : ℕ) → length xs ≡ n → ((k : ℕ) → k < n → P k (get_or xs k d)) → P n now → (k : ℕ) → k < n + 1 → P k (get_or (xs ++ now ∷ []) k d)
  push_each n long before here k l = elim (cases_lt k n) [
    | inl b ↦ subst (P k) (sym (get_or_append_left xs (now ∷ []) d k (omega (arith, long, b)))) (before k b)
    | inr past ↦
        let same : k ≡ n = omega (arith, past, l) in
        subst (P k) (sym (get_or_push xs now d k (long ∙ sym same))) (subst (λ i. P i now) (sym same) here)
  ]
