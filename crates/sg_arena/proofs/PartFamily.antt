-- A family whose sets are some of another's, as `expand` and `raise` leave it: it is one, and its tops.
use Rattle.std.proofs.Common.{Contains, IsSome, Some, [], ap, filter, arith, get_or, inl, inr, length, subst, sym, refl, ℕ, ◌%◌, ◌<◌, ◌^◌, ◌∙◌, ◌≡◌, ◌≤◌}
use Rattle.std.proofs.lemmas.List.Elements.{filter_agree}
use Rattle.std.specs.List.{range_with_len}
use Rattle.std.specs.Option.{option_map_or}
use Rattle.sg_arena.specs.Family.{Covers, Family, Holds, IsAlive, IsBlossom, IsCycle, IsFamily, IsTop, after_index, any_holds, blank_link, cycle_of}
use Rattle.sg_arena.specs.Family.{dual_of, has_leaf, holds, leaf_count, leaf_node, leaves_of, link_at, node_at, single, total_of}
use Rattle.sg_arena.proofs.FamilyLemmas.{after_within, alive_from_blossom, alive_from_holds, some_leaf}
use Rattle.sg_base.proofs.ListLaws.{cases_option, filter-never, list_any-agree_at}

-- each node of g is one of f with the same set and cycle; f's leaves and children are left
pub record IsPart (f g : Family) : Type 0 where
  pub leaf_nodes : g.leaf_nodes ≡ f.leaf_nodes
  pub leaf_set : (leaf : ℕ) → leaf < leaf_count f → node_at g (leaf_node f leaf) ≡ Some (single leaf (dual_of g (leaf_node f leaf)))
  pub alive : (n : ℕ) → IsAlive g n → IsAlive f n
  pub leaves : (n : ℕ) → IsAlive g n → leaves_of g n ≡ leaves_of f n
  pub cycle : (n : ℕ) → IsAlive g n → cycle_of g n ≡ cycle_of f n
  pub child : (n i : ℕ) → i < length (cycle_of f n) → IsAlive g (link_at (cycle_of f n) i).node
  pub bounded : (leaf : ℕ) → total_of g leaf ≤ 2 ^ 61

module _ {f g : Family} (fam : IsFamily f) (part : IsPart f g) where
  held : (n leaf : ℕ) → IsAlive g n → holds g n leaf ≡ holds f n leaf
  held n leaf alive = ap (λ xs. has_leaf xs leaf) (part.leaves n alive)

  was_held : (n leaf : ℕ) → Holds g n leaf → Holds f n leaf
  was_held n leaf h = sym (held n leaf (alive_from_holds g n leaf h)) ∙ h

  child_held : (n i leaf : ℕ) → i < length (cycle_of f n) → holds g (link_at (cycle_of f n) i).node leaf ≡ holds f (link_at (cycle_of f n) i).node leaf
  child_held n i leaf within = held (link_at (cycle_of f n) i).node leaf (part.child n i within)

  same_cycle : (n : ℕ) → IsBlossom g n → cycle_of g n ≡ cycle_of f n
  same_cycle n some = part.cycle n (alive_from_blossom g n some)

  was_blossom : (n : ℕ) → IsBlossom g n → IsBlossom f n
  was_blossom n some = subst (λ xs. 0 < length xs) (same_cycle n some) some

  -- it is a family
  pub IsFamily-part : IsFamily g
  IsFamily-part =
      record {
        leaf_set = λ leaf low. subst (λ xs. node_at g (get_or xs leaf 0) ≡ Some (single leaf (dual_of g (get_or xs leaf 0)))) (sym part.leaf_nodes)
            (part.leaf_set leaf (subst (λ xs. leaf < length xs) part.leaf_nodes low));
        in_order = λ n. elim (cases_option (node_at g n)) [
          | inl none ↦ ap (λ o. option_map_or (λ x. x.leaves) o []) none ∙
              sym (filter-never (holds g n) (range_with_len 0 (leaf_count g)) (λ l. ap (λ o. has_leaf (option_map_or (λ x. x.leaves) o []) l) none))
          | inr some ↦
              let alive : IsAlive g n = subst (λ o. IsSome o) (sym some.1) refl in
              part.leaves n alive ∙ fam.in_order n ∙
              filter_agree (holds f n) (holds g n) (λ l. sym (held n l alive)) (range_with_len 0 (leaf_count f)) ∙
              ap (λ xs. filter (holds g n) (range_with_len 0 (length xs))) (sym part.leaf_nodes)
        ];
        nested = λ a c leaf in_a in_c. elim (fam.nested a c leaf (was_held a leaf in_a) (was_held c leaf in_c)) [
          | inl over ↦ inl (λ l h. held a l (alive_from_holds g a leaf in_a) ∙ over l (was_held c l h))
          | inr under ↦ inr (λ l h. held c l (alive_from_holds g c leaf in_c) ∙ under l (was_held a l h))
        ];
        apart = λ a c alive over under.
            let leaf = some_leaf f fam a (part.alive a alive) in
            let c_alive = alive_from_holds g c leaf.0 (under leaf.0 (held a leaf.0 alive ∙ leaf.1)) in
            fam.apart a c (part.alive a alive) (λ l h. was_held a l (over l (held c l c_alive ∙ h)))
            (λ l h. was_held c l (under l (held a l alive ∙ h)));
        odd = λ n alive. ap (λ xs. length xs % 2) (part.leaves n alive) ∙ fam.odd n (part.alive n alive);
        leaf_named = λ n alive plain. subst (λ xs. Contains xs n) (sym part.leaf_nodes)
            (fam.leaf_named n (part.alive n alive) (λ some. plain (subst (λ xs. 0 < length xs) (sym (part.cycle n alive)) some)));
        cycles = λ n some.
            let is = fam.cycles n (was_blossom n some) in
            subst (λ xs. IsCycle g xs) (sym (same_cycle n some)) (record {
              long = is.long;
              odd = is.odd;
              differ = is.differ;
              from = λ i within. child_held n i (link_at (cycle_of f n) i).from within ∙ is.from i within;
              to = λ i within. child_held n (after_index (length (cycle_of f n)) i) (link_at (cycle_of f n) i).to
                  (after_within (length (cycle_of f n)) i within) ∙ is.to i within;
            });
        union = λ n leaf some. held n leaf (alive_from_blossom g n some) ∙ fam.union n leaf (was_blossom n some) ∙
            sym (ap (λ xs. any_holds g xs leaf) (same_cycle n some) ∙ list_any-agree_at (λ link. holds g link.node leaf)
            (λ link. holds f link.node leaf) (cycle_of f n) blank_link (λ i within. child_held n i leaf within));
        disjoint = λ n i j leaf a c p q.
            let e = same_cycle n (omega arith) in
            let a' = subst (λ xs. i < length xs) e a in
            let c' = subst (λ xs. j < length xs) e c in
            fam.disjoint n i j leaf a' c' (sym (child_held n i leaf a') ∙ subst (λ xs. Holds g (link_at xs i).node leaf) e p)
            (sym (child_held n j leaf c') ∙ subst (λ xs. Holds g (link_at xs j).node leaf) e q);
        between = λ n i o within over under.
            let e = same_cycle n (omega arith) in
            let within' : i < length (cycle_of f n) = subst (λ xs. i < length xs) e within in
            let under' : Covers g o (link_at (cycle_of f n) i).node = subst (λ xs. Covers g o (link_at xs i).node) e under in
            let from = (link_at (cycle_of f n) i).from in
            let alive = alive_from_holds g o from (under' from (child_held n i from within' ∙ (fam.cycles n (omega arith)).from i within')) in
            elim (fam.between n i o within' (λ l h. was_held n l (over l (held o l alive ∙ h)))
            (λ l h. was_held o l (under' l (child_held n i l within' ∙ h)))) [
              | inl x ↦ inl x
              | inr y ↦ inr (y ∙ ap (λ xs. (link_at xs i).node) (sym e))
            ];
        bounded = part.bounded;
      }

  -- a top that is left is still one
  pub IsTop-part : (t : ℕ) → IsAlive g t → IsTop f t → IsTop g t
  IsTop-part t alive top = record {
    alive = alive;
    outermost = λ other covers. top.outermost other (λ l h. was_held other l (covers l (held t l alive ∙ h)));
  }
