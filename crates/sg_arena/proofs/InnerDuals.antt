-- What the duals of the smaller sets within a set sum to at a leaf: nothing at the leaf's own node, one dual more with each
-- step up, and at a top all but its own dual.
use Rattle.std.proofs.Common.{◌≡◌, ◌≢◌, ℕ, ◌+◌, ◌<◌, ◌≤◌, ◌&&◌, ◌||◌, not, Bool, true, false, cond, eqb, List, [], ◌∷◌, length, None, refl, sym, ap, ◌∙◌}
use Rattle.std.proofs.Common.{subst, inl, inr, arith, eq-eqb, ne_eqb, true≢false}
use Rattle.std.specs.List.{list_all}
use Rattle.std.proofs.lemmas.Bool.{cases_eq, and_from, and_parts, or_right, false≢true, false_from_ne_true}
use Rattle.sg_base.specs.Sums.{sum_below}
use Rattle.sg_base.proofs.SumLaws.{sum_below-add, sum_below-same, sum_below-le, sum_below-zero, sum_below_pick, sum_by_is_sum_below}
use Rattle.sg_arena.specs.Family.{Family, node_at, leaves_of, dual_of, has_leaf, holds, Holds, Covers, share, total_of, IsFamily}
use Rattle.sg_arena.proofs.FamilyLemmas.{child-covered, child-smaller, top-covers, alive_from_holds, name_bound, share-is}
use Rattle.sg_arena.specs.Sets.{within, strictly_within, share_below, inner_of}
use Rattle.sg_arena.specs.Family.{IsChildAt, IsTop, leaf_count, leaf_node}
use Rattle.sg_arena.proofs.Chains.{own-covered}

-- two conditions that imply each other are the same
pub same_truth : (a b : Bool) → (a ≡ true → b ≡ true) → (b ≡ true → a ≡ true) → a ≡ b
same_truth a b h1 h2 = grind arith

-- what passes the narrower test adds no more than by the wider one
pub cond_le : (b c : Bool) (v : ℕ) → (b ≡ true → c ≡ true) → cond b v 0 ≤ cond c v 0
cond_le b c v h1 = grind arith

-- a list has its first leaf
pub has_head : (x : ℕ) (xs : List ℕ) → has_leaf (x ∷ xs) x ≡ true
has_head x xs = ap (λ b. b || has_leaf xs x) (eq-eqb x x refl)

all_from : (p : ℕ → Bool) (xs : List ℕ) → ((l : ℕ) → has_leaf xs l ≡ true → p l ≡ true) → list_all p xs ≡ true
all_from p [] h = refl
all_from p (x ∷ xs) h = and_from (p x) (list_all p xs) (h x (has_head x xs)) (all_from p xs (λ l k. h l (or_right (eqb x l) (has_leaf xs l) k)))

all_at : (p : ℕ → Bool) (xs : List ℕ) → list_all p xs ≡ true → (l : ℕ) → has_leaf xs l ≡ true → p l ≡ true
all_at p [] h l k = absurd (false≢true k)
all_at p (x ∷ xs) h l k =
    let both : (p x ≡ true) × (list_all p xs ≡ true) = and_parts (p x) (list_all p xs) h in
    elim (cases_eq x l) [
      | inl e ↦ subst (λ y. p y ≡ true) e both.0
      | inr ne ↦ all_at p xs both.1 l (sym (ap (λ b. b || has_leaf xs l) (ne_eqb x l ne)) ∙ k)
    ]

module _ (f : Family) where
  -- a set that covers another has it within
  pub within_from : (s x : ℕ) → Covers f s x → within f s x ≡ true
  within_from s x h = all_from (holds f s) (leaves_of f x) h

  -- a set that has another within covers it
  pub covers_from : (s x : ℕ) → within f s x ≡ true → Covers f s x
  covers_from s x h = all_at (holds f s) (leaves_of f x) h

  -- strictly within, and holding the leaf
  pub below_parts : (s leaf x : ℕ) → (strictly_within f s x && holds f x leaf) ≡ true → Covers f s x × (x ≢ s) × Holds f x leaf
  below_parts s leaf x h = grind (arith, and_parts, covers_from, false≢true, eq-eqb)

  -- a smaller set that holds the leaf is counted among those inside
  pub below_from : (s leaf x : ℕ) → Covers f s x → x ≢ s → Holds f x leaf → (strictly_within f s x && holds f x leaf) ≡ true
  below_from s leaf x c ne h = simp (and_from, within_from, ne_eqb)

  -- no set is strictly within itself
  pub below_not_itself : (s leaf : ℕ) → (strictly_within f s s && holds f s leaf) ≡ false
  below_not_itself s leaf = false_from_ne_true (strictly_within f s s && holds f s leaf) (λ h. (below_parts s leaf s h).1 refl)

  -- the set within s, s itself among them, that hold the leaf
  abbrev pub up_to_share : ℕ → ℕ → ℕ → ℕ
  up_to_share s leaf x = cond (within f s x && holds f x leaf) (dual_of f x) 0

  -- a set that holds a leaf has a name below the room
  pub dual_low : (s leaf : ℕ) → Holds f s leaf → s < length f.nodes
  dual_low s leaf h = name_bound f s (alive_from_holds f s leaf h)

  -- the smaller sets and s itself
  pub inner_and_own : (s leaf : ℕ) → Holds f s leaf → inner_of f s leaf + dual_of f s ≡ sum_below (up_to_share s leaf) (length f.nodes)
  inner_and_own s leaf h =
      let own : ℕ → ℕ = λ x. cond (eqb s x) (dual_of f s) 0 in
      let picked : sum_below own (length f.nodes) ≡ dual_of f s = sum_below_pick (dual_of f s) s (length f.nodes) (dual_low s leaf h) in
      let added = sum_below-add (share_below f s leaf) own (length f.nodes) in
      let same : sum_below (λ x. share_below f s leaf x + own x) (length f.nodes) ≡ sum_below (up_to_share s leaf) (length f.nodes) =
      sum_below-same (λ x. share_below f s leaf x + own x) (up_to_share s leaf) (length f.nodes) (λ x l. each x) in
      omega arith
    where
      plain : (a b : Bool) → b ≡ false → (a && not b) ≡ a
      plain a b h1 = grind (arith, true≢false)

      each : (x : ℕ) → share_below f s leaf x + cond (eqb s x) (dual_of f s) 0 ≡ up_to_share s leaf x
      each x = grind (arith, cases_eq s x, below_not_itself, and_from, within_from, eq-eqb, ne_eqb, plain)

  -- the total as a sum over names
  total_is : (leaf : ℕ) → total_of f leaf ≡ sum_below (λ x. cond (holds f x leaf) (dual_of f x) 0) (length f.nodes)
  total_is leaf =
      sum_by_is_sum_below (share leaf) f.nodes None
      ∙ sum_below-same (λ n. share leaf (node_at f n)) (λ n. cond (holds f n leaf) (dual_of f n) 0) (length f.nodes) (λ n l. share-is f leaf n)

  -- they add no more than all sets that hold the leaf
  pub inner_total : (s leaf : ℕ) → Holds f s leaf → inner_of f s leaf + dual_of f s ≤ total_of f leaf
  inner_total s leaf h = grind (arith, inner_and_own, sum_below-le, cond_le, and_parts, total_is, f.nodes)

  module _ (fam : IsFamily f) where
    -- at a top they are all
    pub inner_top : (t leaf : ℕ) → IsTop f t → Holds f t leaf → inner_of f t leaf + dual_of f t ≡ total_of f leaf
    inner_top t leaf top h =
        inner_and_own t leaf h
        ∙ sum_below-same (up_to_share t leaf) (λ x. cond (holds f x leaf) (dual_of f x) 0) (length f.nodes)
        (λ x l. ap (λ b. cond b (dual_of f x) 0) (same_truth (within f t x && holds f x leaf) (holds f x leaf)
        (λ p. (and_parts (within f t x) (holds f x leaf) p).1)
        (λ k. and_from (within f t x) (holds f x leaf) (within_from t x (top-covers f fam t x leaf top h k)) k)))
        ∙ sym (total_is leaf)

    -- no set is within a leaf's own node
    pub no_inner : (leaf : ℕ) → leaf < leaf_count f → inner_of f (leaf_node f leaf) leaf ≡ 0
    no_inner leaf low =
        sum_below-zero (share_below f (leaf_node f leaf) leaf) (length f.nodes)
        (λ x l. ap (λ b. cond b (dual_of f x) 0) (false_from_ne_true (strictly_within f (leaf_node f leaf) x && holds f x leaf)
        (λ h. (
        let p = below_parts (leaf_node f leaf) leaf x h in
        p.1 (fam.apart x (leaf_node f leaf) (alive_from_holds f x leaf p.2) (own-covered f fam leaf x low p.2) p.0)
        ))))

    -- from a set to the blossom that it is a child of
    module _ (leaf at p i : ℕ) (held : Holds f at leaf) (child : IsChildAt f p i at) where
      over : Covers f p at
      over = subst (λ n. Covers f p n) child.here (child-covered f fam p i child.within)

      differs : at ≢ p
      differs e = absurd (omega (arith, child-smaller f fam p i child.within, ap (λ n. length (leaves_of f n)) (child.here ∙ e)))

      -- no set lies between the two
      pub next_down : (x : ℕ) → Holds f x leaf → Covers f p x → x ≢ p → Covers f at x
      next_down x h c ne = elim (fam.nested at x leaf held h) [
        | inl under ↦ under
        | inr above ↦ elim (fam.between p i x child.within c (subst (λ n. Covers f x n) (sym child.here) above)) [
          | inl e ↦ absurd (ne e)
          | inr e ↦ subst (λ n. Covers f n x) (e ∙ child.here) (λ l k. k)
        ]
      ]

      -- at does not cover p
      smaller : Covers f at p → ⊥
      smaller c = differs (fam.apart at p (alive_from_holds f at leaf held) c over)

      -- one step up adds the dual of the set that is left
      pub inner_step : inner_of f p leaf ≡ inner_of f at leaf + dual_of f at
      inner_step =
          sum_below-same (share_below f p leaf) (up_to_share at leaf) (length f.nodes)
          (λ x l. ap (λ b. cond b (dual_of f x) 0) (same_truth (strictly_within f p x && holds f x leaf) (within f at x && holds f x leaf)
          (λ h. (let q = below_parts p leaf x h in and_from (within f at x) (holds f x leaf) (within_from at x (next_down x q.2 q.0 q.1)) q.2))
          (λ h. (
          let both = and_parts (within f at x) (holds f x leaf) h in
          let under : Covers f at x = covers_from at x both.0 in
          below_from p leaf x (λ l k. over l (under l k)) (λ (e : x ≡ p). smaller (subst (λ n. Covers f at n) e under)) both.1
          ))))
          ∙ sym (inner_and_own at leaf held)
