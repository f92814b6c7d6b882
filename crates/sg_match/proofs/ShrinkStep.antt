-- The engine's invariant after a blossom is made of two outer tops and the tops between them.
use Rattle.std.proofs.Common.{◌≡◌, ◌≢◌, ◌⊎◌, ℕ, ◌+◌, ◌*◌, ◌<◌, ◌≤◌, ◌%◌, true, false, List, length, get_or, set, Option, Some, None, Contains}
use Rattle.std.proofs.Common.{refl, sym, ap, ◌∙◌, subst, inl, inr, arith}
use Rattle.std.proofs.lemmas.Option.{none-some, same_Some}
use Rattle.std.proofs.lemmas.Bool.{cases_Bool, cases_eq}
use Rattle.std.proofs.lemmas.List.Folds.{list_any_at}
use Rattle.std.proofs.lemmas.List.{get_or-set_other, get_or-set_same, get_or_default}
use Rattle.std.proofs.Math.ListN.{length-set}
use Rattle.sg_arena.proofs.FamilyLemmas.{leaf_bound, length-with_slot, name_bound, some_leaf, top-apart}
use Rattle.sg_base.proofs.ListLaws.{place_of_any}
use Rattle.sg_arena.proofs.ShrunkFamily.{IsTop-shrink_old, IsTop-shrink_other}
use Rattle.sg_arena.specs.Changes.{CanShrink, blossom_of, with_slot}
use Rattle.sg_arena.specs.Family.{Family, Holds, IsFamily, IsTop, holds, link_at, node_at}
use Rattle.sg_arena.specs.declared.Link.{Link}
use Rattle.sg_match.proofs.BoundStep.{IsBounded-made}
use Rattle.sg_match.proofs.EngineLemmas.{even, symmetric, tree_of}
use Rattle.sg_match.proofs.NodeLemmas.{node_in}
use Rattle.sg_match.proofs.RegrowStep.{IsRegrown}
use Rattle.sg_match.proofs.ShrinkTreeStep.{closed, inner_taken, open_base, shrunk_tree}
use Rattle.sg_match.proofs.ShrinkSetsStep.{CanShrink-tree_cycle, IsFeasible-shrunk, IsPaired-shrunk, path_head, top-not_dead}
use Rattle.sg_match.proofs.StepsStep.{blossoms-shrunk, rest-one_fewer}
use Rattle.sg_match.proofs.TreeLemmas.{pair_tight, inner_at, inner_top, length-inners, length-outers, outer_cases, outer_pair}
use Rattle.sg_match.specs.Engine.{IsEngine}
use Rattle.sg_match.specs.Exposed.{IsExposed, root_count}
use Rattle.sg_slack.specs.Metric.{cost}
use Rattle.sg_match.specs.Pairs.{pair_of}
use Rattle.sg_match.specs.Path.{AreTight, nodes_of}
use Rattle.sg_match.specs.TreeCycle.{HasTight, IsTreeCycle}
use Rattle.sg_match.specs.ShrunkTree.{shrunk_edges}
use Rattle.sg_match.specs.State.{State}
use Rattle.sg_match.specs.Steps.{blossoms_of, rest_of, steps_left, tree_left}
use Rattle.sg_match.specs.Tree.{IsTree, any_top, tree_edge_at, outers}
use Rattle.sg_match.specs.declared.Edge.{Edge}
use Rattle.sg_match.specs.declared.TreeEdge.{TreeEdge}

module _ (s : State) (root : ℕ) (engine : IsEngine s) (rooted : s.root ≡ Some root) where
  abbrev f : Family
  f = s.family

  abbrev price : ℕ → ℕ → ℕ
  price = cost s.table

  fam : IsFamily f
  fam = engine.feasible.family

  tree : IsTree f price s.pairs root s.edges
  tree = tree_of s engine root rooted

  -- all tree edges are tight
  pub all_tight : HasTight f price s.edges
  all_tight = record { up = tree.up_tight; pair = pair_tight f price s.pairs root s.edges fam engine.paired tree; symmetric = symmetric s engine }

  -- of the outer tops the root alone is unpaired
  exposed_outer : (j n : ℕ) → j < length (outers root s.edges) → get_or (outers root s.edges) j 0 ≡ n → pair_of s.pairs n ≡ None → n ≡ root
  exposed_outer j n low at none = elim (outer_cases root s.edges j low) [
    | inl first ↦ sym at ∙ first.1
    | inr tree_edge ↦ absurd (none-some _
        (sym none ∙ ap (λ m. pair_of s.pairs m) (sym at ∙ tree_edge.3) ∙
        outer_pair f price s.pairs root s.edges fam engine.paired tree tree_edge.0 tree_edge.1))
  ]

  module _ (cycle : List Link) (place base : ℕ) (tree_cycle : IsTreeCycle f root s.edges cycle place base base) where
    -- the cycle may be made a blossom
    pub can : CanShrink f cycle
    can = CanShrink-tree_cycle f root s.edges cycle place base tree_cycle

    some : 0 < length cycle
    some = omega (arith, can.closed.long)

    base_first : (link_at cycle 0).node ≡ base
    base_first = path_head f cycle base base some tree_cycle.path

    base_in : Contains (nodes_of cycle) base
    base_in = subst (λ n. Contains (nodes_of cycle) n) base_first (node_in cycle 0 some)

    -- the base has a name that the pairs have an entry for
    pub base_low : base < length s.pairs
    base_low = omega (arith, name_bound f base (subst (λ n. IsTop f n) base_first (can.tops 0 some)).alive, engine.room)

    -- an unpaired top of the cycle is the root
    exposed_node : (n : ℕ) → Contains (nodes_of cycle) n → pair_of s.pairs n ≡ None → n ≡ root
    exposed_node n is none = elim (tree_cycle.spot n is) [
      | inl head ↦ exposed_outer tree_cycle.head_at.0 n (omega (arith, tree_cycle.head_at.1, tree_cycle.within, length-outers root s.edges))
          (tree_cycle.head_at.2 ∙ sym head) none
      | inr spot ↦ elim spot.is [
        | inl inn ↦ absurd (none-some _ (sym none ∙ ap (λ m. pair_of s.pairs m) inn ∙ tree.pair spot.at spot.low))
        | inr out ↦ absurd (none-some _
            (sym none ∙ ap (λ m. pair_of s.pairs m) out ∙ outer_pair f price s.pairs root s.edges fam engine.paired tree spot.at spot.low))
      ]
    ]

    -- a tree edge whose inner top is in the cycle
    edge_in : (m : ℕ) × (place ≤ m) × (m < length s.edges) × Contains (nodes_of cycle) (tree_edge_at s.edges m).inner
    edge_in = elim (tree_cycle.spot (link_at cycle 1).node (node_in cycle 1 two)) [
      | inl head ↦ absurd (zero_one (can.closed.differ 0 1 some two (base_first ∙ sym head)))
      | inr spot ↦ (spot.at, spot.late, spot.low, spot.inner)
    ]
      where
        two : 1 < length cycle
        two = omega (arith, can.closed.long)

        zero_one : ◌≡◌ {A = ℕ} 0 1 → ⊥
        zero_one e = omega (arith, e)

    module _ (b : ℕ) (dead : node_at f b ≡ None) (room : b < length f.nodes) where
      abbrev g : Family
      g = with_slot f b (Some (blossom_of f cycle))

      module _ (tight : AreTight f price cycle) (top_root : ℕ) (root_base : root ≡ base → top_root ≡ b) (root_other : root ≢ base → top_root ≡ root) where
        abbrev new : List TreeEdge
        new = shrunk_edges g b s.edges

        abbrev now : List (Option Edge)
        now = set s.pairs b (pair_of s.pairs base)

        names : b < length s.pairs
        names = omega (arith, room, engine.room)

        now_other : (n : ℕ) → n ≢ b → pair_of now n ≡ pair_of s.pairs n
        now_other n away = get_or-set_other s.pairs b n (pair_of s.pairs base) None away

        now_new : pair_of now b ≡ pair_of s.pairs base
        now_new = get_or-set_same s.pairs b (pair_of s.pairs base) None names

        -- an unpaired top but for the root is not in the cycle
        out_of_cycle : (i k : ℕ) → i < length s.exposed → k < length cycle → (link_at cycle k).node ≢ get_or s.exposed i 0
        out_of_cycle i k low low_k same =
            let is_root : get_or s.exposed i 0 ≡ root = exposed_node (get_or s.exposed i 0)
            (subst (λ n. Contains (nodes_of cycle) n) same (node_in cycle k low_k)) (engine.exposed.unpaired i low) in
            engine.exposed.rootless i low (rooted ∙ ap (λ n. Some n) (sym is_root))

        IsExposed-shrunk : IsExposed g now (Some top_root) s.exposed
        IsExposed-shrunk =
            record {
              tops = λ i low. IsTop-shrink_other f b cycle fam can dead room (get_or s.exposed i 0) (engine.exposed.tops i low)
                  (λ k low_k. out_of_cycle i k low low_k);
              unpaired = λ i low. now_other (get_or s.exposed i 0) (top-not_dead f b dead (get_or s.exposed i 0) (engine.exposed.tops i low)) ∙
                  engine.exposed.unpaired i low;
              differ = engine.exposed.differ;
              rootless = λ i low same. elim (cases_eq root base) [
                | inl e ↦ top-not_dead f b dead (get_or s.exposed i 0) (engine.exposed.tops i low) (sym (same_Some _ _ same) ∙ root_base e)
                | inr e ↦ engine.exposed.rootless i low (rooted ∙ ap (λ n. Some n) (sym (root_other e)) ∙ same)
              ];
              every = λ t top none. elim (cases_eq t b) [
                | inl same ↦ inl (ap (λ n. Some n)
                    (root_base (sym (exposed_node base base_in (sym now_new ∙ ap (λ n. pair_of now n) (sym same) ∙ none))) ∙ sym same))
                | inr away ↦ from_old t (IsTop-shrink_old f b cycle fam can dead room t top away) (sym (now_other t away) ∙ none)
              ];
              even = even_again;
            }
          where
            from_old : (t : ℕ) → IsTop f t × ((i : ℕ) → i < length cycle → (link_at cycle i).node ≢ t) → pair_of s.pairs t ≡ None →
                (◌≡◌ {A = Option ℕ} (Some top_root) (Some t)) ⊎ ((i : ℕ) × (i < length s.exposed) × (get_or s.exposed i 0 ≡ t))
            from_old t old none = elim (engine.exposed.every t old.0 none) [
              | inl is ↦
                  let same : root ≡ t = same_Some _ _ (sym rooted ∙ is) in
                  inl (ap (λ n. Some n) (root_other (λ e. old.1 0 some (base_first ∙ sym e ∙ same)) ∙ same))
              | inr at ↦ inr at
            ]

            even_again : (length s.exposed + 1) % 2 ≡ 0
            even_again = subst (λ o. (length s.exposed + root_count o) % 2 ≡ 0) rooted engine.exposed.even

        abbrev after : State
        after = record { family = g; table = s.table; pairs = now; exposed = s.exposed; root = Some top_root; edges = new }

        -- the tree edges that are left make a tree
        tree_left_over : IsRegrown f g price now root top_root s.edges (λ t. (t ≡ b) × (tree_cycle.head_at.0 ≤ length s.edges)) (λ t. ⊥) new (length s.edges)
        tree_left_over = shrunk_tree f price b cycle engine.feasible dead room tight (even s engine) s.pairs engine.paired root s.edges tree place base
            tree_cycle names top_root root_base root_other

        -- an outer leaf stays one
        kept : (l : ℕ) → any_top f (outers root s.edges) l ≡ true → any_top g (outers top_root new) l ≡ true
        kept l is =
            let at = place_of_any (λ t. holds f t l) (outers root s.edges) 0 is in
            let here = tree_left_over.hit at.0 l (omega (arith, at.1, length-outers root s.edges)) at.2 in
            list_any_at (λ t. holds g t l) (outers top_root new) here.0 0 here.1 here.2

        -- a leaf of an inner top of the cycle is an outer leaf now
        rest_falls : rest_of g top_root new + 1 ≤ rest_of f root s.edges
        rest_falls =
            rest-one_fewer f g root top_root s.edges new leaf.0 refl (leaf_bound f fam (tree_edge_at s.edges edge_in.0).inner leaf.0 leaf.1)
            kept before gained
          where
            inner_is_top : IsTop f (tree_edge_at s.edges edge_in.0).inner
            inner_is_top = inner_top f root s.edges tree.shape edge_in.0 edge_in.2

            leaf : (l : ℕ) × Holds f (tree_edge_at s.edges edge_in.0).inner l
            leaf = some_leaf f fam (tree_edge_at s.edges edge_in.0).inner inner_is_top.alive

            gained : any_top g (outers top_root new) leaf.0 ≡ true
            gained =
                let here = inner_taken f price b cycle engine.feasible dead room tight (even s engine) s.pairs engine.paired root s.edges tree place base
                tree_cycle names top_root root_base root_other edge_in.0 leaf.0 edge_in.3 leaf.1 in
                list_any_at (λ t. holds g t leaf.0) (outers top_root new) here.0 0 here.1 here.2

            before : any_top f (outers root s.edges) leaf.0 ≡ false
            before = elim (cases_Bool (any_top f (outers root s.edges) leaf.0)) [
              | inl is ↦
                  let at = place_of_any (λ t. holds f t leaf.0) (outers root s.edges) 0 is in
                  absurd (tree.shape.tops.apart at.0 edge_in.0 at.1 (omega (arith, edge_in.2, length-inners s.edges))
                  (top-apart f fam (get_or (outers root s.edges) at.0 0) (tree_edge_at s.edges edge_in.0).inner leaf.0
                  (tree.shape.tops.outer_tops at.0 at.1) inner_is_top at.2 leaf.1 ∙ sym (inner_at s.edges edge_in.0 edge_in.2)))
              | inr away ↦ away
            ]

        fewer_left : steps_left after + 2 ≤ steps_left s
        fewer_left =
            let was : steps_left s ≡ tree_left f s.exposed (Some root) s.edges + 2 * blossoms_of f =
            ap (λ o. tree_left f s.exposed o s.edges + 2 * blossoms_of f) rooted in
            omega (arith, was, rest_falls, blossoms-shrunk f b cycle dead room some)

        IsEngine-shrunk : IsEngine after
        IsEngine-shrunk = record {
          costs = engine.costs;
          leaves = engine.leaves;
          room = length-set s.pairs b (pair_of s.pairs base) ∙ engine.room ∙ sym (length-with_slot f b (Some (blossom_of f cycle)));
          feasible = IsFeasible-shrunk f price b cycle engine.feasible can dead room tight (even s engine);
          paired = IsPaired-shrunk f price b cycle engine.feasible can dead room tight (even s engine) s.pairs engine.paired base 0 some base_first names
              (closed f price b cycle engine.feasible dead room tight (even s engine) s.pairs engine.paired root s.edges tree place base tree_cycle)
              (open_base f price b cycle engine.feasible dead room tight (even s engine) s.pairs engine.paired root s.edges tree place base tree_cycle);
          exposed = IsExposed-shrunk;
          tree = tree_left_over.tree;
          left = omega (arith, fewer_left, engine.left);
          bounded = IsBounded-made after (omega (arith, fewer_left, engine.bounded.due));
        }

        abbrev Sound : Family → Option Edge → List TreeEdge → Type 0
        Sound h p edges = IsEngine (record s { family = h; pairs = set s.pairs b p; root = Some top_root; edges = edges }) ×
            (steps_left (record s { family = h; pairs = set s.pairs b p; root = Some top_root; edges = edges }) + 2 ≤ steps_left s)

        -- the same, where the family, the pair and the tree edges are only known to be these
        pub shrunk : (h : Family) → h ≡ g → (p : Option Edge) → p ≡ get_or s.pairs base p → (edges : List TreeEdge) → edges ≡ shrunk_edges h b s.edges →
            Sound h p edges
        shrunk h made p read edges left = subst (λ x. Sound x p edges) (sym made)
            (subst (λ q. Sound g q edges) (sym (read ∙ get_or_default s.pairs base p None base_low))
            (subst (λ ls. Sound g (pair_of s.pairs base) ls) (sym (left ∙ ap (λ x. shrunk_edges x b s.edges) made)) (IsEngine-shrunk, fewer_left)))
