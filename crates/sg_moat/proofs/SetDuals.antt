-- The duals of the sets that hold one of two leaves, beside those of the sets within a set.
use Rattle.std.proofs.Common.{◌≡◌, ◌≢◌, ℕ, ◌+◌, ◌≤◌, ◌&&◌, Bool, true, false, cond, [], length, Option, Some, None, refl, ap, ◌∙◌, subst, arith, true≢false}
use Rattle.std.specs.Option.{option_map_or}
use Rattle.std.proofs.lemmas.Bool.{and_parts, false_from_ne_true}
use Rattle.sg_base.specs.Parity.{xor}
use Rattle.sg_base.specs.Sums.{sum_below}
use Rattle.sg_base.proofs.SumLaws.{sum_below-add, sum_below-same, sum_below-le, sum_by_is_sum_below}
use Rattle.sg_arena.specs.Family.{Node, Family, node_at, IsAlive, dual_of, has_leaf, holds, Holds, Covers, IsFamily}
use Rattle.sg_arena.specs.Slack.{cut_share, duals_between, exactly_one}
use Rattle.sg_arena.specs.Sets.{within, strictly_within, share_below, inner_of}
use Rattle.sg_arena.proofs.InnerDuals.{below_from, cond_le, covers_from, inner_and_own, up_to_share}

-- a leaf of the first set alone, and a leaf of the second set alone
two_sides : (b c t u : Bool) (v : ℕ) → (b ≡ true → (t ≡ true) × (u ≡ false)) → (c ≡ true → (u ≡ true) × (t ≡ false)) →
    cond b v 0 + cond c v 0 ≤ cond (xor t u) v 0
two_sides b c t u v h1 h2 = grind (arith, true≢false)

module _ (f : Family) where
  -- the duals between two leaves, name by name
  abbrev pub between_share : ℕ → ℕ → ℕ → ℕ
  between_share i j x = cond (xor (holds f x i) (holds f x j)) (dual_of f x) 0

  -- the duals between two leaves, as a sum over all names
  pub between_is : (i j : ℕ) → duals_between f i j ≡ sum_below (between_share i j) (length f.nodes)
  between_is i j =
      sum_by_is_sum_below (cut_share i j) f.nodes None
      ∙ sum_below-same (λ n. cut_share i j (node_at f n)) (between_share i j) (length f.nodes) (λ x l. go (node_at f x))
    where
      one_of : (a b : Bool) → exactly_one a b ≡ xor a b
      one_of true true = refl
      one_of true false = refl
      one_of false b = refl

      go : (o : Option Node) → cut_share i j o ≡ cond
          (xor (has_leaf (option_map_or (λ (n : Node). n.leaves) o []) i) (has_leaf (option_map_or (λ (n : Node). n.leaves) o []) j))
          (option_map_or (λ (n : Node). n.dual) o 0) 0
      go None = refl
      go (Some n) = ap (λ b. cond b n.dual 0) (one_of (has_leaf n.leaves i) (has_leaf n.leaves j))

  -- a set within s holds no leaf outside of s
  separates : (s x t u : ℕ) → holds f s u ≡ false → (within f s x && holds f x t) ≡ true → (holds f x t ≡ true) × (holds f x u ≡ false)
  separates s x t u out p = grind (arith, and_parts, false_from_ne_true, true≢false, covers_from)

  -- from a leaf of s to one outside of it
  pub outside_duals : (s t u : ℕ) → Holds f s t → holds f s u ≡ false → inner_of f s t + dual_of f s ≤ duals_between f t u
  outside_duals s t u h out = grind (arith, inner_and_own, between_is, sum_below-le, up_to_share, cond_le, separates, f.nodes, out)

  -- from a leaf of s to a leaf of s', which is disjoint from it
  pub apart_duals : (s s' t u : ℕ) → Holds f s t → Holds f s' u → holds f s u ≡ false → holds f s' t ≡ false →
      (inner_of f s t + dual_of f s) + (inner_of f s' u + dual_of f s') ≤ duals_between f t u
  apart_duals s s' t u h h' out out' =
      omega (
        arith,
        inner_and_own f s t h,
        inner_and_own f s' u h',
        between_is t u,
        sum_below-add (up_to_share f s t) (up_to_share f s' u) (length f.nodes),
        sum_below-le (λ x. up_to_share f s t x + up_to_share f s' u x) (between_share t u) (length f.nodes)
            (λ x l. two_sides (within f s x && holds f x t) (within f s' x && holds f x u) (holds f x t) (holds f x u) (dual_of f x) (separates s x t u out)
            (separates s' x u t out')),
      )

  -- at a leaf of a smaller set within s
  pub nested_duals : IsFamily f → (s s' t : ℕ) → IsAlive f s → s ≢ s' → Covers f s s' → Holds f s' t →
      inner_of f s' t + dual_of f s' ≤ inner_of f s t
  nested_duals fam s s' t alive ne over h =
      omega (
        arith,
        inner_and_own f s' t h,
        sum_below-le (up_to_share f s' t) (share_below f s t) (length f.nodes)
            (λ x l. cond_le (within f s' x && holds f x t) (strictly_within f s x && holds f x t) (dual_of f x) (wider x)),
      )
    where
      wider : (x : ℕ) → (within f s' x && holds f x t) ≡ true → (strictly_within f s x && holds f x t) ≡ true
      wider x p =
          let both : (within f s' x ≡ true) × (holds f x t ≡ true) = and_parts (within f s' x) (holds f x t) p in
          let under : Covers f s' x = covers_from f s' x both.0 in
          below_from f s t x (λ l k. over l (under l k))
          (λ (e : x ≡ s). ne (fam.apart s s' alive over (subst (λ z. Covers f s' z) e under))) both.1
