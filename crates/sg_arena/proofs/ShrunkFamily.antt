-- The family with a new blossom, as `shrink` leaves it: what it keeps and what it gains.
use Rattle.std.proofs.Common.{IsSome, List, None, Option, Some, [], ap, arith, filter, get_or, inl, inr, length, refl, subst, sum_by, sym, true, ℕ, ◌%◌, ◌<◌, ◌∙◌, ◌∷◌, ◌≡◌, ◌≢◌}
use Rattle.std.proofs.lemmas.Bool.{cases_eq, cases_lt, false_from_ne_true}
use Rattle.std.proofs.lemmas.List.{get_or-set_other, get_or-set_same}
use Rattle.std.proofs.lemmas.List.Elements.{filter_agree}
use Rattle.std.proofs.lemmas.List.Folds.{list_any_at}
use Rattle.std.proofs.lemmas.List.Sums.{length-filter, sum_by-set}
use Rattle.std.specs.List.{range_with_len}
use Rattle.std.specs.Option.{option_map_or}
use Rattle.sg_arena.specs.declared.Link.{Link}
use Rattle.sg_arena.specs.Changes.{CanShrink, blossom_of, with_slot}
use Rattle.sg_arena.specs.Family.{Covers, Family, Holds, IsAlive, IsBlossom, IsCycle, IsFamily, IsTop, any_holds, blank_link, cycle_of, has_leaf}
use Rattle.sg_arena.specs.Family.{Node, holds, leaf_count, leaves_of, link_at, node_at, share, total_of}
use Rattle.sg_arena.specs.Slack.{duals_between}
use Rattle.sg_arena.proofs.FamilyLemmas.{alive_from_holds, leaf_bound, not_dead, some_leaf, top-apart, top-covers, union-odd}
use Rattle.sg_base.proofs.ListLaws.{cond-same, list_any-agree_at, place_of_any}
use Rattle.sg_arena.proofs.SetLemmas.{has_leaf-filter, has_leaf-filter_out}

-- a family whose tops are made into a blossom at a dead name
module _ (f : Family) (b : ℕ) (cycle : List Link) (fam : IsFamily f) (can : CanShrink f cycle) (dead : node_at f b ≡ None) (room : b < length f.nodes) where
  abbrev after : Family
  after = with_slot f b (Some (blossom_of f cycle))

  at_new : node_at after b ≡ Some (blossom_of f cycle)
  at_new = get_or-set_same f.nodes b (Some (blossom_of f cycle)) None room

  at_other : (n : ℕ) → n ≢ b → node_at after n ≡ node_at f n
  at_other n differs = get_or-set_other f.nodes b n (Some (blossom_of f cycle)) None differs

  -- what adds nothing at the new name has the same sum
  sum_same : (h : Option Node → ℕ) → h None ≡ 0 → h (Some (blossom_of f cycle)) ≡ 0 → sum_by h after.nodes ≡ sum_by h f.nodes
  sum_same h none new = omega (arith, sum_by-set h f.nodes b (Some (blossom_of f cycle)) None room, ap h dead, none, new)

  -- the new blossom adds nothing to a total
  pub total-shrink : (u : ℕ) → total_of after u ≡ total_of f u
  total-shrink u = sum_same (share u) refl (cond-same (has_leaf (blossom_of f cycle).leaves u) 0)

  -- nor between two leaves
  pub duals_between-shrink : (u v : ℕ) → duals_between after u v ≡ duals_between f u v
  duals_between-shrink u v = simp (sum_same, cond-same)

  -- every other node holds what it held
  pub holds_other : (n leaf : ℕ) → n ≢ b → holds after n leaf ≡ holds f n leaf
  holds_other n leaf differs = ap (λ o. has_leaf (option_map_or (λ x. x.leaves) o []) leaf) (at_other n differs)

  not_new : (n : ℕ) → IsAlive f n → n ≢ b
  not_new n alive same = not_dead f n alive (ap (node_at f) same ∙ dead)

  child_alive : (i : ℕ) → i < length cycle → IsAlive f (link_at cycle i).node
  child_alive i within = (can.tops i within).alive

  -- what holds a leaf in the new blossom: a child
  child_holding : (leaf : ℕ) → any_holds f cycle leaf ≡ true → (i : ℕ) × (i < length cycle) × Holds f (link_at cycle i).node leaf
  child_holding leaf some = place_of_any (λ link. holds f link.node leaf) cycle blank_link some

  -- the new blossom holds what its children hold
  pub holds_new : (leaf : ℕ) → holds after b leaf ≡ any_holds f cycle leaf
  holds_new leaf = grind (arith, cases_lt leaf (leaf_count f), at_new, has_leaf-filter, has_leaf-filter_out, false_from_ne_true, child_holding, leaf_bound)

  apart_children : (i j leaf : ℕ) → i < length cycle → j < length cycle → Holds f (link_at cycle i).node leaf →
      Holds f (link_at cycle j).node leaf → i ≡ j
  apart_children i j leaf a b in_i in_j = grind (arith, top-apart, can.closed.differ, a, b, can.tops, in_i)

  -- a node that meets the new blossom lies in it
  covers_met : (c leaf : ℕ) → c ≢ b → Holds after b leaf → Holds after c leaf → Covers after b c
  covers_met c leaf differs in_b in_c l h = grind (arith, child_holding, holds_new, top-covers, holds_other, list_any_at, can.tops)

  -- no other node covers the new blossom
  covers_no : (c : ℕ) → c ≢ b → Covers after c b → ⊥
  covers_no c differs covers =
      let over : (i : ℕ) → i < length cycle → c ≡ (link_at cycle i).node =
      (λ i within. (can.tops i within).outermost c
      (λ l h. sym (holds_other c l differs) ∙ covers l (holds_new l ∙ list_any_at (λ link. holds f link.node l) cycle i blank_link within h))) in
      let long = can.closed.long in
      let same : 0 ≡ 1 = can.closed.differ 0 1 (omega arith) (omega arith) (sym (over 0 (omega arith)) ∙ over 1 (omega arith)) in
      omega (arith, same)

  -- the new blossom is a top
  pub IsTop-shrink : IsTop after b
  IsTop-shrink = grind (arith, at_new, covers_no)

  any_kept : (links : List Link) → ((i : ℕ) → i < length links → IsAlive f (link_at links i).node) → (leaf : ℕ) →
      any_holds after links leaf ≡ any_holds f links leaf
  any_kept links alive leaf =
      list_any-agree_at (λ link. holds after link.node leaf) (λ link. holds f link.node leaf) links blank_link
      (λ i within. holds_other (link_at links i).node leaf (not_new (link_at links i).node (alive i within)))

  kept : (n leaf : ℕ) → Holds f n leaf → Holds after n leaf
  kept n leaf held = holds_other n leaf (not_new n (alive_from_holds f n leaf held)) ∙ held

  cycle_kept : (links : List Link) → IsCycle f links → IsCycle after links
  cycle_kept links is = grind (arith, kept, is.long, is.odd, is.differ, is.from, is.to)

  alive_other : (n : ℕ) → n ≢ b → IsAlive after n → IsAlive f n
  alive_other n differs alive = subst (λ o. IsSome o) (at_other n differs) alive

  cycle_other : (n : ℕ) → n ≢ b → cycle_of after n ≡ cycle_of f n
  cycle_other n differs = ap (λ o. option_map_or (λ x. x.cycle) o []) (at_other n differs)

  cycle_new : cycle_of after b ≡ cycle
  cycle_new = ap (λ o. option_map_or (λ x. x.cycle) o []) at_new

  leaves_new : leaves_of after b ≡ filter (any_holds f cycle) (range_with_len 0 (leaf_count f))
  leaves_new = ap (λ o. option_map_or (λ x. x.leaves) o []) at_new

  leaves_other : (n : ℕ) → n ≢ b → leaves_of after n ≡ leaves_of f n
  leaves_other n differs = ap (λ o. option_map_or (λ x. x.leaves) o []) (at_other n differs)

  old_cycle_alive : (n i : ℕ) → i < length (cycle_of f n) → IsAlive f (link_at (cycle_of f n) i).node
  old_cycle_alive n i within = alive_from_holds f (link_at (cycle_of f n) i).node (link_at (cycle_of f n) i).from ((fam.cycles n (omega arith)).from i within)

  blossom_other : (n : ℕ) → n ≢ b → IsBlossom after n → IsBlossom f n
  blossom_other n differs blossom = subst (λ xs. 0 < length xs) (cycle_other n differs) blossom

  leaf_not_new : (leaf : ℕ) → leaf < leaf_count f → get_or f.leaf_nodes leaf 0 ≢ b
  leaf_not_new leaf low = not_new (get_or f.leaf_nodes leaf 0) (subst (λ o. IsSome o) (sym (fam.leaf_set leaf low)) refl)

  was_held : (n leaf : ℕ) → IsAlive f n → Holds after n leaf → Holds f n leaf
  was_held n leaf alive h = sym (holds_other n leaf (not_new n alive)) ∙ h

  -- it is a family
  pub IsFamily-shrink : IsFamily after
  IsFamily-shrink =
      record {
        leaf_set = λ leaf low.
            let e = at_other (get_or f.leaf_nodes leaf 0) (leaf_not_new leaf low) in
            e ∙ fam.leaf_set leaf low ∙ ap (λ d. Some (record { leaves = leaf ∷ []; dual = d; cycle = [] }))
            (sym (ap (λ o. option_map_or (λ x. x.dual) o 0) e));
        in_order = λ n. elim (cases_eq n b) [
          | inl same ↦ subst (λ m. leaves_of after m ≡ filter (holds after m) (range_with_len 0 (leaf_count f))) (sym same)
              (leaves_new ∙ filter_agree (any_holds f cycle) (holds after b) (λ l. sym (holds_new l)) (range_with_len 0 (leaf_count f)))
          | inr differs ↦ leaves_other n differs ∙ fam.in_order n ∙ filter_agree (holds f n) (holds after n) (λ l. sym (holds_other n l differs))
              (range_with_len 0 (leaf_count f))
        ];
        nested = λ a c leaf in_a in_c. elim (cases_eq a b) [
          | inl a_new ↦ elim (cases_eq c b) [
            | inl c_new ↦ inl (λ l h. subst (λ n. Holds after n l) (c_new ∙ sym a_new) h)
            | inr c_old ↦ inl (subst (λ n. Covers after n c) (sym a_new) (covers_met c leaf c_old (subst (λ n. Holds after n leaf) a_new in_a) in_c))
          ]
          | inr a_old ↦ elim (cases_eq c b) [
            | inl c_new ↦ inr (subst (λ n. Covers after n a) (sym c_new) (covers_met a leaf a_old (subst (λ n. Holds after n leaf) c_new in_c) in_a))
            | inr c_old ↦ elim (fam.nested a c leaf (sym (holds_other a leaf a_old) ∙ in_a) (sym (holds_other c leaf c_old) ∙ in_c)) [
              | inl over ↦ inl (λ l h. holds_other a l a_old ∙ over l (sym (holds_other c l c_old) ∙ h))
              | inr under ↦ inr (λ l h. holds_other c l c_old ∙ under l (sym (holds_other a l a_old) ∙ h))
            ]
          ]
        ];
        apart = λ a c alive over under. elim (cases_eq a b) [
          | inl a_new ↦ elim (cases_eq c b) [
            | inl c_new ↦ a_new ∙ sym c_new
            | inr c_old ↦ absurd (covers_no c c_old (subst (λ n. Covers after c n) a_new under))
          ]
          | inr a_old ↦ elim (cases_eq c b) [
            | inl c_new ↦ absurd (covers_no a a_old (subst (λ n. Covers after a n) c_new over))
            | inr c_old ↦ fam.apart a c (alive_other a a_old alive) (λ l h. sym (holds_other a l a_old) ∙ over l (holds_other c l c_old ∙ h))
                (λ l h. sym (holds_other c l c_old) ∙ under l (holds_other a l a_old ∙ h))
          ]
        ];
        odd = λ n alive. elim (cases_eq n b) [
          | inl same ↦ subst (λ m. length (leaves_of after m) % 2 ≡ 1) (sym same)
              (ap (λ xs. length xs % 2) leaves_new ∙ ap (λ x. x % 2) (length-filter (any_holds f cycle) (range_with_len 0 (leaf_count f))) ∙
              union-odd f fam cycle apart_children child_alive can.closed.odd)
          | inr differs ↦ ap (λ xs. length xs % 2) (leaves_other n differs) ∙ fam.odd n (alive_other n differs alive)
        ];
        leaf_named = λ n alive plain. elim (cases_eq n b) [
          | inl same ↦
              let long = can.closed.long in
              absurd (plain (subst (λ m. IsBlossom after m) (sym same) (subst (λ xs. 0 < length xs) (sym cycle_new) (omega arith))))
          | inr differs ↦ fam.leaf_named n (alive_other n differs alive)
              (λ blossom. plain (subst (λ xs. 0 < length xs) (sym (cycle_other n differs)) blossom))
        ];
        cycles = λ n blossom. elim (cases_eq n b) [
          | inl same ↦ subst (λ m. IsCycle after (cycle_of after m)) (sym same)
              (subst (λ xs. IsCycle after xs) (sym cycle_new) (cycle_kept cycle can.closed))
          | inr differs ↦ subst (λ xs. IsCycle after xs) (sym (cycle_other n differs))
              (cycle_kept (cycle_of f n) (fam.cycles n (blossom_other n differs blossom)))
        ];
        union = λ n leaf blossom. elim (cases_eq n b) [
          | inl same ↦ subst (λ m. holds after m leaf ≡ any_holds after (cycle_of after m) leaf) (sym same)
              (holds_new leaf ∙ sym (ap (λ xs. any_holds after xs leaf) cycle_new ∙ any_kept cycle child_alive leaf))
          | inr differs ↦ holds_other n leaf differs ∙ fam.union n leaf (blossom_other n differs blossom) ∙
              sym (ap (λ xs. any_holds after xs leaf) (cycle_other n differs) ∙ any_kept (cycle_of f n) (old_cycle_alive n) leaf)
        ];
        disjoint = λ n i j leaf a c p q. elim (cases_eq n b) [
          | inl same ↦
              let e : cycle_of after n ≡ cycle = ap (cycle_of after) same ∙ cycle_new in
              let a' = subst (λ xs. i < length xs) e a in
              let c' = subst (λ xs. j < length xs) e c in
              apart_children i j leaf a' c'
              (was_held (link_at cycle i).node leaf (child_alive i a') (subst (λ xs. Holds after (link_at xs i).node leaf) e p))
              (was_held (link_at cycle j).node leaf (child_alive j c') (subst (λ xs. Holds after (link_at xs j).node leaf) e q))
          | inr differs ↦
              let e = cycle_other n differs in
              let a' = subst (λ xs. i < length xs) e a in
              let c' = subst (λ xs. j < length xs) e c in
              fam.disjoint n i j leaf a' c'
              (was_held (link_at (cycle_of f n) i).node leaf (old_cycle_alive n i a') (subst (λ xs. Holds after (link_at xs i).node leaf) e p))
              (was_held (link_at (cycle_of f n) j).node leaf (old_cycle_alive n j c') (subst (λ xs. Holds after (link_at xs j).node leaf) e q))
        ];
        between = λ n i o within over under. elim (cases_eq n b) [
          | inl same ↦
              let e : cycle_of after n ≡ cycle = ap (cycle_of after) same ∙ cycle_new in
              let within' : i < length cycle = subst (λ xs. i < length xs) e within in
              let under' : Covers after o (link_at cycle i).node = subst (λ xs. Covers after o (link_at xs i).node) e under in
              elim (cases_eq o b) [
                | inl new ↦ inl (new ∙ sym same)
                | inr old ↦ inr ((can.tops i within').outermost o (λ l h. sym (holds_other o l old) ∙ under' l (kept (link_at cycle i).node l h)) ∙
                    ap (λ xs. (link_at xs i).node) (sym e))
              ]
          | inr differs ↦
              let e = cycle_other n differs in
              let within' : i < length (cycle_of f n) = subst (λ xs. i < length xs) e within in
              let under' : Covers after o (link_at (cycle_of f n) i).node = subst (λ xs. Covers after o (link_at xs i).node) e under in
              elim (cases_eq o b) [
                | inl new ↦ absurd (covers_no n differs (subst (λ m. Covers after n m) new over))
                | inr old ↦ elim (fam.between n i o within' (λ l h. sym (holds_other n l differs) ∙ over l (holds_other o l old ∙ h))
                    (λ l h. sym (holds_other o l old) ∙ under' l (kept (link_at (cycle_of f n) i).node l h))) [
                      | inl x ↦ inl x
                      | inr y ↦ inr (y ∙ ap (λ xs. (link_at xs i).node) (sym e))
                    ]
              ]
        ];
        bounded = λ leaf. omega (arith, fam.bounded leaf, total-shrink leaf);
      }

-- tops after a shrink
module _ (f : Family) (b : ℕ) (cycle : List Link) (fam : IsFamily f) (can : CanShrink f cycle) (dead : node_at f b ≡ None) (room : b < length f.nodes) where
  abbrev g : Family
  g = with_slot f b (Some (blossom_of f cycle))

  -- a leaf of the new blossom is a leaf of a node of the cycle
  pub in_new : (l : ℕ) → Holds g b l → (i : ℕ) × (i < length cycle) × Holds f (link_at cycle i).node l
  in_new l held = place_of_any (λ link. holds f link.node l) cycle blank_link (sym (holds_new f b cycle fam can dead room l) ∙ held)

  -- and the other way round
  pub new_holds : (i l : ℕ) → i < length cycle → Holds f (link_at cycle i).node l → Holds g b l
  new_holds i l within held = holds_new f b cycle fam can dead room l ∙ list_any_at (λ (link : Link). holds f link.node l) cycle i blank_link within held

  -- a top that isn't in the cycle stays one
  pub IsTop-shrink_other : (t : ℕ) → IsTop f t → ((i : ℕ) → i < length cycle → (link_at cycle i).node ≢ t) → IsTop g t
  IsTop-shrink_other t top apart =
      let differs : t ≢ b = (λ same. not_dead f t top.alive (ap (node_at f) same ∙ dead)) in
      record {
        alive = subst (λ o. IsSome o) (sym (get_or-set_other f.nodes b t (Some (blossom_of f cycle)) None differs)) top.alive;
        outermost = λ other covers.
            elim (cases_eq other b) [
              | inl same ↦
                  let leaf = some_leaf f fam t top.alive in
                  let at = in_new leaf.0 (subst (λ n. Holds g n leaf.0) same
                  (covers leaf.0 (holds_other f b cycle fam can dead room t leaf.0 differs ∙ leaf.1))) in
                  absurd (apart at.0 at.1 (top-apart f fam (link_at cycle at.0).node t leaf.0 (can.tops at.0 at.1) top at.2 leaf.1))
              | inr away ↦ top.outermost other
                  (λ l h. sym (holds_other f b cycle fam can dead room other l away) ∙ covers l (holds_other f b cycle fam can dead room t l differs ∙ h))
            ];
      }

  -- another top after the shrink was one before, and isn't in the cycle
  pub IsTop-shrink_old : (t : ℕ) → IsTop g t → t ≢ b → IsTop f t × ((i : ℕ) → i < length cycle → (link_at cycle i).node ≢ t)
  IsTop-shrink_old t top away =
      let alive = subst (λ o. IsSome o) (get_or-set_other f.nodes b t (Some (blossom_of f cycle)) None away) top.alive in (
        record {
          alive = alive;
          outermost = λ other covers.
              let leaf = some_leaf f fam t alive in
              let differs : other ≢ b = (λ same. not_dead f other (alive_from_holds f other leaf.0 (covers leaf.0 leaf.1))
              (ap (λ n. node_at f n) same ∙ dead)) in
              top.outermost other (λ l h. holds_other f b cycle fam can dead room other l differs ∙
              covers l (sym (holds_other f b cycle fam can dead room t l away) ∙ h));
        },
        λ i within same. away (sym (top.outermost b
            (λ l h. new_holds i l within (subst (λ n. Holds f n l) (sym same) (sym (holds_other f b cycle fam can dead room t l away) ∙ h))))),
      )
