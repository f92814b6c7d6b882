-- What holds of tops and passes to children holds of all sets.
use Rattle.std.proofs.Common.{ap, arith, inl, inr, length, subst, suc, sym, zero, ℕ, ◌<◌, ◌∙◌, ◌≡◌, ◌≤◌}
use Rattle.std.proofs.lemmas.Bool.{cases_lt, eqb-true}
use Rattle.std.proofs.lemmas.List.{get_or_read}
use Rattle.std.proofs.Math.Bool.{or-false}
use Rattle.sg_arena.proofs.FamilyLemmas.{alive_from_holds, child-covered, child-smaller, leaf_bound, size-positive, some_leaf, top-covers}
use Rattle.sg_base.proofs.ListLaws.{place_of_any}
use Rattle.sg_arena.specs.Family.{Covers, Family, Holds, IsAlive, IsFamily, IsTop, blank_link, cycle_of, holds, leaf_count, leaf_node, leaves_of, link_at}
use Rattle.sg_match.proofs.TopLemmas.{top_of}

module _ (f : Family) (fam : IsFamily f) where
  -- a child is a node
  pub child_alive : (b i : ℕ) → i < length (cycle_of f b) → IsAlive f (link_at (cycle_of f b) i).node
  child_alive b i low = alive_from_holds f (link_at (cycle_of f b) i).node (link_at (cycle_of f b) i).from ((fam.cycles b (omega arith)).from i low)

  -- a blossom is none of its children
  pub not_own_child : (b i : ℕ) → i < length (cycle_of f b) → (link_at (cycle_of f b) i).node ≡ b → ⊥
  not_own_child b i low same = omega (arith, child-smaller f fam b i low, ap (λ n. length (leaves_of f n)) same)

  -- a leaf's node holds that leaf alone
  pub leaf-only : (l u : ℕ) → l < leaf_count f → Holds f (leaf_node f l) u → l ≡ u
  leaf-only l u low held = grind (arith, eqb-true, or-false, fam.leaf_set)

  -- a node without children is the node of the leaf that it holds
  pub plain_is : (n l : ℕ) → length (cycle_of f n) ≤ 0 → Holds f n l → leaf_node f l ≡ n
  plain_is n l plain held = grind (arith, alive_from_holds, get_or_read, leaf-only, fam.leaf_named, f.leaf_nodes)

  -- a leaf's node lies in each set that holds the leaf
  pub leaf-covered : (n l : ℕ) → l < leaf_count f → Holds f n l → Covers f n (leaf_node f l)
  leaf-covered n l low held u h = subst (λ k. Holds f n k) (leaf-only l u low h) held

  -- nothing but itself lies in a node without children
  pub plain-covered : (e n l : ℕ) → length (cycle_of f e) ≤ 0 → Covers f e n → Holds f n l → l < leaf_count f → n ≡ e
  plain-covered e n l plain covers held low =
      let is : leaf_node f l ≡ e = plain_is e l plain (covers l held) in
      fam.apart n e (alive_from_holds f n l held) (λ u h. leaf-covered n l low held u (subst (λ m. Holds f m u) (sym is) h)) covers

  -- what holds of tops and passes from blossoms to children holds of all
  pub from_above : (P : ℕ → Type 0) → ((t : ℕ) → IsTop f t → P t) → ((b i : ℕ) → i < length (cycle_of f b) → P b → P (link_at (cycle_of f b) i).node) →
      (n : ℕ) → IsAlive f n → P n
  from_above P tops kids n alive =
      let leaf = some_leaf f fam n alive in
      let low = leaf_bound f fam n leaf.0 leaf.1 in
      let t = top_of f fam leaf.0 low in
      go leaf.0 low leaf.1 (length (leaves_of f t.0)) t.0 (omega arith) t.1.alive (top-covers f fam t.0 n leaf.0 t.1 t.2 leaf.1) (tops t.0 t.1)
    where
      go : (leaf : ℕ) → leaf < leaf_count f → Holds f n leaf → (fuel e : ℕ) → length (leaves_of f e) ≤ fuel → IsAlive f e → Covers f e n → P e → P n
      go leaf low held zero e small alive covers is = absurd (omega (arith, size-positive f fam e alive, small))
      go leaf low held (suc fuel) e small alive covers is = elim (cases_lt 0 (length (cycle_of f e))) [
        | inl some ↦
            let at = place_of_any (λ link. holds f link.node leaf) (cycle_of f e) blank_link (sym (fam.union e leaf some) ∙ covers leaf held) in
            elim (fam.nested (link_at (cycle_of f e) at.0).node n leaf at.2 held) [
              | inl over ↦ go leaf low held fuel (link_at (cycle_of f e) at.0).node (omega (arith, child-smaller f fam e at.0 at.1, small))
                  (child_alive e at.0 at.1) over (kids e at.0 at.1 is)
              | inr under ↦ elim (fam.between e at.0 n at.1 covers under) [
                | inl same ↦ subst (λ m. P m) (sym same) is
                | inr same ↦ subst (λ m. P m) (sym same) (kids e at.0 at.1 is)
              ]
            ]
        | inr plain ↦ subst (λ m. P m) (sym (plain-covered e n leaf plain covers held low)) is
      ]

  -- a child has one blossom
  pub one_parent : (b d i j : ℕ) → i < length (cycle_of f b) → j < length (cycle_of f d) →
      (link_at (cycle_of f b) i).node ≡ (link_at (cycle_of f d) j).node → b ≡ d
  one_parent b d i j low_i low_j same =
      let c = (link_at (cycle_of f b) i).node in
      let leaf = (link_at (cycle_of f b) i).from in
      let held : Holds f c leaf = (fam.cycles b (omega arith)).from i low_i in
      let over_b : Covers f b c = child-covered f fam b i low_i in
      let over_d : Covers f d c = subst (λ m. Covers f d m) (sym same) (child-covered f fam d j low_j) in
      elim (fam.nested b d leaf (over_b leaf held) (over_d leaf held)) [
        | inl over ↦ elim (fam.between b i d low_i over over_d) [
          | inl is ↦ sym is
          | inr is ↦ absurd (not_own_child d j low_j (sym same ∙ sym is))
        ]
        | inr under ↦ elim (fam.between d j b low_j under (subst (λ m. Covers f b m) same over_b)) [
          | inl is ↦ is
          | inr is ↦ absurd (not_own_child b i low_i (same ∙ sym is))
        ]
      ]
