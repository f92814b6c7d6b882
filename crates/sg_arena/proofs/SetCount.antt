-- How many sets a family has: twice their number is at most three times the number of leaves.
use Rattle.std.proofs.Common.{◌≡◌, ℕ, ◌+◌, ◌*◌, ◌<◌, ◌≤◌, cond, ltb, length, is_some, sym, ap, ◌∙◌, subst, inl, inr, arith, lt-ltb, le-ltb}
use Rattle.std.proofs.lemmas.Bool.{cases_lt}
use Rattle.sg_base.specs.Sums.{sum_below}
use Rattle.sg_base.proofs.SumLaws.{sum_below-add, sum_below-le, sum_below-same}
use Rattle.sg_base.proofs.Tallies.{below_exchange, cond_small, sum_below_times, sum_below_unique, times, times_at_most, times_once, times_place, times_some, times_total}
use Rattle.sg_arena.specs.declared.Link.{Link}
use Rattle.sg_arena.specs.Family.{Family, leaf_count, node_at, IsAlive, leaves_of, cycle_of, Holds, Covers, blank_link, link_at, IsFamily}
use Rattle.sg_arena.proofs.FamilyLemmas.{alive_from_holds, child-covered, child-smaller, name_bound}
use Rattle.sg_arena.specs.Sets.{alive_at}

module _ (f : Family) (fam : IsFamily f) where
  -- a node that is alive counts once
  pub alive_one : (name : ℕ) → IsAlive f name → alive_at f name ≡ 1
  alive_one name alive = ap (λ b. cond b 1 0) alive

  -- the leaf from which the link of a child starts is one of the child's
  child_leaf : (name i : ℕ) → i < length (cycle_of f name) → Holds f (link_at (cycle_of f name) i).node (link_at (cycle_of f name) i).from
  child_leaf name i low = (fam.cycles name (omega arith)).from i low

  child_alive : (name i : ℕ) → i < length (cycle_of f name) → IsAlive f (link_at (cycle_of f name) i).node
  child_alive name i low = alive_from_holds f (link_at (cycle_of f name) i).node (link_at (cycle_of f name) i).from (child_leaf name i low)

  -- a child of two blossoms, one within the other: they are the same
  one_side : (p q i j : ℕ) → i < length (cycle_of f p) → j < length (cycle_of f q) →
      (link_at (cycle_of f p) i).node ≡ (link_at (cycle_of f q) j).node → Covers f p q → q ≡ p
  one_side p q i j low low' same over =
      elim (fam.between p i q low over (subst (λ n. Covers f q n) (sym same) (child-covered f fam q j low'))) [
        | inl e ↦ e
        | inr e ↦ absurd (omega (arith, child-smaller f fam q j low', ap (λ n. length (leaves_of f n)) (e ∙ same)))
      ]

  -- a node is a child of one blossom alone
  pub one_parent : (p q i j : ℕ) → i < length (cycle_of f p) → j < length (cycle_of f q) →
      (link_at (cycle_of f p) i).node ≡ (link_at (cycle_of f q) j).node → p ≡ q
  one_parent p q i j low low' same = grind (arith, child_leaf, child-covered, one_side, low, low', same, fam.nested)

  -- how often m is a child of p
  abbrev child_times : ℕ → ℕ → ℕ
  child_times p m = times (λ (l : Link). l.node) m (cycle_of f p)

  children_below : sum_below (λ p. length (cycle_of f p)) (length f.nodes) ≤ sum_below (alive_at f) (length f.nodes)
  children_below =
      let r : ℕ = length f.nodes in
      let counted : sum_below (λ p. length (cycle_of f p)) r ≡ sum_below (λ p. sum_below (child_times p) r) r =
      sum_below-same (λ p. length (cycle_of f p)) (λ p. sum_below (child_times p) r) r
      (λ p l. sym (times_total (λ (l : Link). l.node) (cycle_of f p) blank_link r
      (λ i low. name_bound f (link_at (cycle_of f p) i).node (child_alive p i low)))) in
      let turned = below_exchange child_times r r in
      let each : sum_below (λ m. sum_below (λ p. child_times p m) r) r ≤ sum_below (alive_at f) r =
      sum_below-le (λ m. sum_below (λ p. child_times p m) r) (alive_at f) r (λ m l. one_blossom m) in
      omega arith
    where
      small : (p m : ℕ) → child_times p m ≤ alive_at f m
      small p m = elim (cases_lt 0 (child_times p m)) [
        | inl some ↦
            let at = times_place (λ (l : Link). l.node) m (cycle_of f p) blank_link some in
            let once : child_times p m ≤ 1 = times_once (λ (l : Link). l.node) m (cycle_of f p) blank_link (fam.cycles p (omega (arith, at.1))).differ in
            omega (arith, alive_one m (subst (λ n. IsAlive f n) at.2 (child_alive p at.0 at.1)))
        | inr none ↦ omega arith
      ]

      one_blossom : (m : ℕ) → sum_below (λ p. child_times p m) (length f.nodes) ≤ alive_at f m
      one_blossom m = sum_below_unique (λ p. child_times p m) (alive_at f m) (length f.nodes) (λ p l. small p m)
          (λ p q lp lq some some'. (
          let at = times_place (λ (l : Link). l.node) m (cycle_of f p) blank_link some in
          let at' = times_place (λ (l : Link). l.node) m (cycle_of f q) blank_link some' in
          one_parent p q at.0 at'.0 at.1 at'.1 (at.2 ∙ sym at'.2)
          ))

  -- 1 for a blossom, and 0 for another name
  blossom_at : ℕ → ℕ
  blossom_at p = cond (ltb 0 (length (cycle_of f p))) 1 0

  thrice : (p : ℕ) → 3 * blossom_at p ≤ length (cycle_of f p)
  unfolding blossom_at
  thrice p = grind (arith, cases_lt 0 (length (cycle_of f p)), lt-ltb, le-ltb, fam.cycles)

  alive_small : (name : ℕ) → alive_at f name ≤ 1
  alive_small name = cond_small (is_some (node_at f name))

  -- a node is a leaf's or a blossom
  alive_parts : (name : ℕ) → alive_at f name ≤ times (λ (x : ℕ). x) name f.leaf_nodes + blossom_at name
  unfolding blossom_at
  alive_parts name =
      grind (arith, cases_lt 0 (alive_at f name), cases_lt 0 (length (cycle_of f name)), lt-ltb, alive_small, times_some, is_some, f.leaf_nodes, fam.leaf_named)

  -- twice the number of sets is at most three times that of the leaves
  pub sets_few : 2 * sum_below (alive_at f) (length f.nodes) ≤ 3 * leaf_count f
  sets_few =
      let r : ℕ = length f.nodes in
      let tripled : sum_below (λ p. 3 * blossom_at p) r ≤ sum_below (λ p. length (cycle_of f p)) r =
      sum_below-le (λ p. 3 * blossom_at p) (λ p. length (cycle_of f p)) r (λ p l. thrice p) in
      let parts : sum_below (alive_at f) r ≤ sum_below (λ n. times (λ (x : ℕ). x) n f.leaf_nodes + blossom_at n) r =
      sum_below-le (alive_at f) (λ n. times (λ (x : ℕ). x) n f.leaf_nodes + blossom_at n) r (λ n l. alive_parts n) in
      omega (
        arith,
        children_below,
        sum_below_times 3 blossom_at r,
        sum_below-add (λ n. times (λ (x : ℕ). x) n f.leaf_nodes) blossom_at r,
        times_at_most (λ (x : ℕ). x) f.leaf_nodes r,
      )
