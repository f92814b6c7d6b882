-- The family of leaves alone, as `open` makes it.
use Rattle.std.proofs.Common.{IsSome, List, Some, [], ap, arith, eq-eqb, eqb, get_or, inl, inr, length, refl, subst, suc, sym, zero, ℕ, ◌%◌, ◌<◌, ◌∙◌, ◌∷◌}
use Rattle.std.proofs.Common.{◌≡◌, eqb-true}
use Rattle.std.specs.List.{range_with_len}
use Rattle.std.specs.Option.{option_map_or}
use Rattle.sg_arena.specs.Changes.{OnlyLeaves}
use Rattle.sg_arena.specs.Family.{Family, Holds, IsFamily, IsTop, cycle_of, has_leaf, holds, leaf_count, leaves_of, node_at, share}
use Rattle.sg_arena.proofs.Chains.{or_false}
use Rattle.sg_arena.proofs.FamilyLemmas.{alive_from_holds, total-names}
use Rattle.sg_base.proofs.ListLaws.{cases_option, cond-same, filter-never, filter-single, sum_by-zero}

module _ (f : Family) (only : OnlyLeaves f) where
  leaf_of : (l : ℕ) → l < leaf_count f → leaves_of f (get_or f.leaf_nodes l 0) ≡ l ∷ []
  leaf_of l low = ap (λ o. option_map_or (λ x. x.leaves) o []) (only.leaves l low)

  -- a held leaf is the node's own
  pub own : (n leaf : ℕ) → Holds f n leaf → (leaf < leaf_count f) × (n ≡ get_or f.leaf_nodes leaf 0)
  own n leaf held = grind (arith, alive_from_holds, leaf_of, eqb-true, or_false, only.named, f.leaf_nodes)

  -- a leaf's node holds it
  pub holds_own : (l : ℕ) → l < leaf_count f → Holds f (get_or f.leaf_nodes l 0) l
  holds_own l low = ap (λ xs. has_leaf xs l) (leaf_of l low) ∙ rw (eq-eqb l l refl) refl

  no_cycle : (n : ℕ) → cycle_of f n ≡ []
  no_cycle n = grind (arith, cases_option (node_at f n), only.named, only.leaves)

  -- there is no child
  pub leaves-no_child : (n i : ℕ) → i < length (cycle_of f n) → ⊥
  leaves-no_child n i within = omega (arith, within, ap length (no_cycle n))

  -- every dual is 0
  pub no_share : (leaf n : ℕ) → share leaf (node_at f n) ≡ 0
  no_share leaf n = grind (arith, cases_option (node_at f n), cond-same, only.named, only.leaves)

  -- it is a family
  pub IsFamily-leaves : IsFamily f
  IsFamily-leaves =
      record {
        leaf_set = λ l low. only.leaves l low ∙ ap (λ d. Some (record { leaves = l ∷ []; dual = d; cycle = [] }))
            (sym (ap (λ o. option_map_or (λ x. x.dual) o 0) (only.leaves l low)));
        in_order = λ n. elim (cases_option (node_at f n)) [
          | inl none ↦ ap (λ o. option_map_or (λ x. x.leaves) o []) none ∙
              sym (filter-never (holds f n) (range_with_len 0 (leaf_count f)) (λ l. ap (λ o. has_leaf (option_map_or (λ x. x.leaves) o []) l) none))
          | inr some ↦
              let at = only.named n (subst (λ o. IsSome o) (sym some.1) refl) in
              let whole : leaves_of f n ≡ at.0 ∷ [] = ap (leaves_of f) (sym at.2) ∙ leaf_of at.0 at.1 in
              whole ∙ sym (filter-single (holds f n) 0 (leaf_count f) at.0 (omega arith) (omega (arith, at.1))
              (λ x within. ap (λ xs. has_leaf xs x) whole ∙ or_false (eqb at.0 x)))
        ];
        nested = λ a b leaf in_a in_b. inl (λ l h. subst (λ n. Holds f n l) ((own b leaf in_b).1 ∙ sym (own a leaf in_a).1) h);
        apart = λ a b alive over under.
            let at = only.named a alive in
            let held = subst (λ n. Holds f n at.0) at.2 (holds_own at.0 at.1) in
            (own a at.0 held).1 ∙ sym (own b at.0 (under at.0 held)).1;
        odd = λ n alive. let at = only.named n alive in ap (λ xs. length xs % 2) (ap (leaves_of f) (sym at.2) ∙ leaf_of at.0 at.1);
        leaf_named = λ n alive plain. let at = only.named n alive in (at.0, at.1, sym (get_or_far f.leaf_nodes at.0 at.1 n) ∙ at.2);
        cycles = λ n some. absurd (leaves-no_child n 0 some);
        union = λ n leaf some. absurd (leaves-no_child n 0 some);
        disjoint = λ n i j leaf a b p q. absurd (leaves-no_child n i a);
        between = λ n i o within over under. absurd (leaves-no_child n i within);
        bounded = λ leaf. omega (arith, total-names f leaf, sum_by-zero (λ n. share leaf (node_at f n)) (range_with_len 0 (length f.nodes)) (no_share leaf));
      }
    where
      get_or_far : (xs : List ℕ) (i : ℕ) → i < length xs → (d : ℕ) → get_or xs i 0 ≡ get_or xs i d
      get_or_far [] i low d = absurd (omega arith)
      get_or_far (x ∷ xs) zero low d = refl
      get_or_far (x ∷ xs) (suc i) low d = get_or_far xs i (omega arith) d

-- a leaf's node is a top where there are only leaves
pub IsTop-leaf : (f : Family) → OnlyLeaves f → (l : ℕ) → l < leaf_count f → IsTop f (get_or f.leaf_nodes l 0)
IsTop-leaf f only l low =
    record {
      alive = subst (λ o. IsSome o) (sym (only.leaves l low)) refl;
      outermost = λ other covers. (own f only other l (covers l (holds_own f only l low))).1;
    }
