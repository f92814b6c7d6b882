-- Up from a leaf: the sets that hold it lie one in another, each a child of the next.
use Rattle.std.proofs.Common.{arith, false, get_or, inl, inr, length, subst, suc, sym, zero, ℕ, ◌||◌, ◌<◌, ◌∙◌, ◌≡◌, ◌≢◌, ◌≤◌, Bool, eqb-true}
use Rattle.std.proofs.lemmas.Bool.{cases_eq, cases_lt}
use Rattle.std.proofs.lemmas.List.{get_or_read}
use Rattle.std.proofs.lemmas.List.Sums.{count_by-le-length}
use Rattle.std.proofs.lemmas.List.FromFn.{length-range_with_len}
use Rattle.sg_base.proofs.ListLaws.{place_of_any}
use Rattle.sg_arena.specs.declared.Link.{Link}
use Rattle.sg_arena.specs.Family.{Covers, Family, Holds, IsAlive, IsChildAt, IsFamily, IsTop, blank_link, cycle_of, holds, leaf_count, leaf_node, leaves_of, link_at}
use Rattle.sg_arena.proofs.FamilyLemmas.{alive_from_holds, child-covered, child-smaller, size-is, size-positive, some_leaf}

-- or nothing
pub or_false : (b : Bool) → (b || false) ≡ b
or_false b = grind arith

-- the number of a node's leaves
abbrev pub size_of : Family → ℕ → ℕ
size_of f name = length (leaves_of f name)

module _ (f : Family) (fam : IsFamily f) where
  -- a child's parent holds what it holds
  pub child-up : (p i n leaf : ℕ) → IsChildAt f p i n → Holds f n leaf → Holds f p leaf
  child-up p i n leaf child held = child-covered f fam p i child.within leaf (subst (λ m. Holds f m leaf) (sym child.here) held)

  -- and is larger
  pub child-less : (p i n : ℕ) → IsChildAt f p i n → size_of f n < size_of f p
  child-less p i n child = subst (λ m. size_of f m < size_of f p) child.here (child-smaller f fam p i child.within)

  -- no set is larger than the number of leaves
  pub size-most : (n : ℕ) → size_of f n ≤ leaf_count f
  size-most n = grind (arith, size-is, count_by-le-length, length-range_with_len)

  -- a set within another is within a child of it
  child-around : (a b leaf : ℕ) → Covers f a b → a ≢ b → Holds f b leaf → (i : ℕ) × (i < length (cycle_of f a)) × Covers f
      (link_at (cycle_of f a) i).node b
  child-around a b leaf covers differ held =
      elim (cases_lt 0 (length (cycle_of f a))) [
        | inl blossom ↦
            let at = place_of_any (λ (link : Link). holds f link.node leaf) (cycle_of f a) blank_link (sym (fam.union a leaf blossom) ∙ covers leaf held) in
            elim (fam.nested (link_at (cycle_of f a) at.0).node b leaf at.2 held) [
              | inl over ↦ (at.0, at.1, over)
              | inr under ↦ elim (fam.between a at.0 b at.1 covers under) [
                | inl same ↦ absurd (differ (sym same))
                | inr same ↦ (at.0, at.1, λ l h. subst (λ n. Holds f n l) same h)
              ]
            ]
        | inr plain ↦
            let named = fam.leaf_named a (alive_from_holds f a leaf (covers leaf held)) (λ some. omega arith) in
            let one = only_leaf named.0 named.1 in
            let is : get_or f.leaf_nodes named.0 0 ≡ a = sym (get_or_read f.leaf_nodes named.0 a named.1 (sym named.2) 0) in
            let alone : (l : ℕ) → Holds f a l → l ≡ named.0 = (λ l h. one l (subst (λ n. Holds f n l) (sym is) h)) in
            absurd (differ (fam.apart a b (alive_from_holds f a leaf (covers leaf held)) covers
            (λ l h. subst (λ x. Holds f b x) (alone leaf (covers leaf held) ∙ sym (alone l h)) held)))
      ]
    where
      only_leaf : (k : ℕ) → k < leaf_count f → (l : ℕ) → Holds f (get_or f.leaf_nodes k 0) l → l ≡ k
      only_leaf k low l h = grind (arith, eqb-true, or_false, fam.leaf_set)

  -- a node that is no child is a top
  pub top-no_parent : (n : ℕ) → IsAlive f n → ((p i : ℕ) → ¬ IsChildAt f p i n) → IsTop f n
  top-no_parent n alive none = record { alive = alive; outermost = λ other covers. go (size_of f other) other (omega arith) covers }
    where
      go : (fuel other : ℕ) → size_of f other ≤ fuel → Covers f other n → other ≡ n
      go zero other most covers = elim (cases_eq other n) [
        | inl same ↦ same
        | inr differ ↦
            let leaf = some_leaf f fam n alive in
            absurd (omega (arith, size-positive f fam other (alive_from_holds f other leaf.0 (covers leaf.0 leaf.1))))
      ]
      go (suc fuel) other most covers = elim (cases_eq other n) [
        | inl same ↦ same
        | inr differ ↦
            let leaf = some_leaf f fam n alive in
            let at = child-around other n leaf.0 covers differ leaf.1 in
            let less = child-smaller f fam other at.0 at.1 in
            absurd (none other at.0 (record { within = at.1; here = go fuel (link_at (cycle_of f other) at.0).node (omega arith) at.2 }))
      ]

  -- a set that holds a leaf covers the leaf's node
  pub own-covered : (leaf m : ℕ) → leaf < leaf_count f → Holds f m leaf → Covers f m (leaf_node f leaf)
  own-covered leaf m low in_m l h = grind (arith, eqb-true, or_false, fam.leaf_set)
