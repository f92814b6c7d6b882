-- The scans over the inner tops: the least of dual 0, and the least dual.
use Rattle.std.proofs.Common.{◌≡◌, ◌⊎◌, ℕ, ◌+◌, ◌<◌, ◌≤◌, ℤ, pos, ◌≤ℤ◌, List, length, Option, Some, None, IfSome, IfNone, refl, sym, ap, ◌∙◌, subst, inl, inr, arith}
use Rattle.std.proofs.lemmas.Bool.{cases_eq}
use Rattle.std.proofs.lemmas.Option.{none-some, same_Some}
use Rattle.sg_arena.specs.Family.{Family, IsBlossom, dual_of}
use Rattle.sg_match.specs.InnerZeros.{IsInnerZero, IsLeastInnerZero}
use Rattle.sg_match.specs.Tree.{tree_edge_at}
use Rattle.sg_match.specs.declared.TreeEdge.{TreeEdge}

-- the best name is that of an inner blossom of dual 0, and no such blossom of the first tree edges has a lesser one
pub record IsBest (f : Family) (edges : List TreeEdge) (n : ℕ) (best : Option ℕ) : Type 0 where
  pub some : (name : ℕ) → best ≡ Some name → IsInnerZero f edges name
  pub least : (node : ℕ) (o : IsInnerZero f edges node) → o.place < n → (name : ℕ) × (best ≡ Some name) × (name ≤ node)

module _ (f : Family) (edges : List TreeEdge) where
  -- the next tree edge's inner top isn't of dual 0
  pub IsBest-skip : (n : ℕ) (best : Option ℕ) → ((IsBlossom f (tree_edge_at edges n).inner × (dual_of f (tree_edge_at edges n).inner ≡ 0)) → ⊥) →
      IsBest f edges n best → IsBest f edges (n + 1) best
  IsBest-skip n best not was = record {
    some = was.some;
    least = λ node o low. elim (cases_eq o.place n) [
      | inl same ↦
          let here : (tree_edge_at edges n).inner ≡ node = ap (λ i. (tree_edge_at edges i).inner) (sym same) ∙ o.here in
          absurd (not (subst (λ m. IsBlossom f m) (sym here) o.blossom, ap (λ m. dual_of f m) here ∙ o.inner_zero))
      | inr differ ↦ was.least node o (omega (arith, low, differ))
    ];
  }

  -- it is of dual 0: the lesser of its name and the best one so far is the best
  pub IsBest-take : (n name : ℕ) (best : Option ℕ) → n < length edges → IsBlossom f (tree_edge_at edges n).inner →
      dual_of f (tree_edge_at edges n).inner ≡ 0 → name ≤ (tree_edge_at edges n).inner → IfSome best (λ old. name ≤ old) →
      (name ≡ (tree_edge_at edges n).inner) ⊎ (best ≡ Some name) → IsBest f edges n best → IsBest f edges (n + 1) (Some name)
  IsBest-take n name best within blossom inner_zero less below one was = record {
    some = λ other is. elim one [
      | inl same ↦ subst (λ m. IsInnerZero f edges m) (sym same ∙ same_Some _ _ is)
          (record { place = n; within = within; here = refl; blossom = blossom; inner_zero = inner_zero })
      | inr old ↦ was.some other (old ∙ is)
    ];
    least = λ node o low. elim (cases_eq o.place n) [
      | inl same ↦ (name, refl, omega (arith, ap (λ i. (tree_edge_at edges i).inner) (sym same), o.here, less))
      | inr differ ↦
          let old = was.least node o (omega (arith, low, differ)) in
          let lower : name ≤ old.0 = subst (λ b. IfSome b (λ old. name ≤ old)) old.1 below in
          (name, refl, omega (arith, lower, old.2))
    ];
  }

  -- what is found at the end is the least
  pub IsBest-some : (best : Option ℕ) → IsBest f edges (length edges) best → IfSome best (IsLeastInnerZero f edges)
  IsBest-some None was = tt
  IsBest-some (Some name) was = record {
    inner_zero = was.some name refl;
    least = λ node o. let at = was.least node o o.within in omega (arith, same_Some name at.0 at.1, at.2);
  }

  -- where nothing is found there is none
  pub IsBest-none : (best : Option ℕ) → IsBest f edges (length edges) best → IfNone best ((node : ℕ) → IsInnerZero f edges node → ⊥)
  IsBest-none None was = λ node o. let at = was.least node o o.within in none-some at.0 at.1
  IsBest-none (Some name) was = tt

-- the least of a number and the duals of the first tree edges' inner blossoms
pub record IsLeastDual (f : Family) (edges : List TreeEdge) (n : ℕ) (most least : ℤ) : Type 0 where
  pub within : least ≤ℤ most
  pub duals : (i : ℕ) → i < n → IsBlossom f (tree_edge_at edges i).inner → least ≤ℤ pos (dual_of f (tree_edge_at edges i).inner)
  pub one : (least ≡ most) ⊎ ((i : ℕ) × (i < n) × IsBlossom f (tree_edge_at edges i).inner × (least ≡ pos (dual_of f (tree_edge_at edges i).inner)))
