-- The tree after the tree edges of a new blossom are gone.
use Rattle.std.proofs.Common.{◌≡◌, ◌≢◌, ◌⊎◌, ℕ, zero, suc, ◌<◌, ◌≤◌, ◌%◌, cond, List, [], ◌∷◌, ◌++◌, length, get_or, set, take, Option, Some, None, Contains}
use Rattle.std.proofs.Common.{refl, sym, ap, ◌∙◌, subst, inl, inr, arith, get_or-set_other, get_or-set_same, take_all}
use Rattle.std.proofs.lemmas.Option.{none-some, same_Some}
use Rattle.std.proofs.lemmas.Bool.{cases_Bool, cases_eq, false≢true}
use Rattle.std.proofs.Math.Seq.{take-suc}
use Rattle.sg_arena.proofs.FamilyLemmas.{some_leaf, top-apart}
use Rattle.sg_arena.proofs.ShrunkFamily.{IsFamily-shrink, IsTop-shrink, IsTop-shrink_other, duals_between-shrink, holds_other, in_new, new_holds}
use Rattle.sg_arena.specs.Changes.{CanShrink, blossom_of, with_slot}
use Rattle.sg_arena.specs.Family.{Family, Holds, IsFamily, IsTop, holds, leaf_count, link_at, node_at}
use Rattle.sg_arena.specs.declared.Link.{Link}
use Rattle.sg_match.proofs.NodeLemmas.{node_in, place_in}
use Rattle.sg_match.proofs.RegrowStep.{IsRegrown, IsRegrown-init, IsRegrown-keep, IsRegrown-skip, outer_out}
use Rattle.sg_match.proofs.ShrinkSetsStep.{CanShrink-tree_cycle, path_head, top-not_dead}
use Rattle.sg_match.proofs.ShrinkTreeLemmas.{shrunk-gone, shrunk-kept}
use Rattle.sg_match.proofs.TreeLemmas.{inner_at, inner_top, length-inners, length-outers, outer_at, outer_pair, outer_top}
use Rattle.sg_match.specs.Feasible.{IsFeasible}
use Rattle.sg_slack.specs.Tight.{IsTight}
use Rattle.sg_match.specs.Pairs.{IsPaired, flipped, pair_of}
use Rattle.sg_match.specs.Path.{AreTight, nodes_of}
use Rattle.sg_match.specs.TreeCycle.{IsTreeCycle}
use Rattle.sg_match.specs.ShrunkTree.{renamed_edge, shrunk_edges, with_outer}
use Rattle.sg_match.specs.Tree.{IsOut, IsOuterLeaf, IsTree, blank_tree_edge, inners, tree_edge_at, outers}
use Rattle.sg_match.specs.declared.Edge.{Edge}
use Rattle.sg_match.specs.declared.TreeEdge.{TreeEdge}

module _ (f : Family) (cost : ℕ → ℕ → ℕ) (b : ℕ) (cycle : List Link) (feasible : IsFeasible f cost) (dead : node_at f b ≡ None) (room : b < length f.nodes)
    (tight : AreTight f cost cycle) (even : (u v : ℕ) → u < leaf_count f → v < leaf_count f → cost u v % 2 ≡ 0) (pairs : List (Option Edge))
    (paired : IsPaired f (IsTight f cost) pairs) (root : ℕ) (edges : List TreeEdge) (tree : IsTree f cost pairs root edges) (place base : ℕ)
    (tree_cycle : IsTreeCycle f root edges cycle place base base) where
  fam : IsFamily f
  fam = feasible.family

  can : CanShrink f cycle
  can = CanShrink-tree_cycle f root edges cycle place base tree_cycle

  low_inner : (i : ℕ) → i < length edges → i < length (inners edges)
  low_inner i low = omega (arith, low, length-inners edges)

  -- in the cycle each top but the base is paired with another of it
  pub closed : (i : ℕ) (p : Edge) → i < length cycle → (link_at cycle i).node ≢ base → pair_of pairs (link_at cycle i).node ≡ Some p →
      (j : ℕ) × (j < length cycle) × Holds f (link_at cycle j).node p.to
  closed i p low away is = elim (tree_cycle.spot (link_at cycle i).node (node_in cycle i low)) [
    | inl clash ↦ absurd (away clash)
    | inr s ↦ elim s.is [
      | inl inn ↦
          let e : (tree_edge_at edges s.at).pair ≡ p = same_Some _ _ (sym (tree.pair s.at s.low) ∙ ap (λ n. pair_of pairs n) (sym inn) ∙ is) in
          let hit = place_in cycle (tree_edge_at edges s.at).outer s.outer in (
            hit.0,
            hit.1,
            subst (λ x. Holds f (link_at cycle hit.0).node x.to) e
                (subst (λ n. Holds f n (tree_edge_at edges s.at).pair.to) (sym hit.2) ((tree.shape.edge s.at s.low).pair_to)),
          )
      | inr out ↦
          let e : flipped (tree_edge_at edges s.at).pair ≡ p =
          same_Some _ _ (sym (outer_pair f cost pairs root edges fam paired tree s.at s.low) ∙ ap (λ n. pair_of pairs n) (sym out) ∙ is) in
          let hit = place_in cycle (tree_edge_at edges s.at).inner s.inner in (
            hit.0,
            hit.1,
            subst (λ x. Holds f (link_at cycle hit.0).node x.to) e
                (subst (λ n. Holds f n (tree_edge_at edges s.at).pair.from) (sym hit.2) ((tree.shape.edge s.at s.low).pair_from)),
          )
    ]
  ]

  -- a tree edge whose inner top is in the cycle is not before the place, and its outer top is in the cycle too
  inner_in : (m : ℕ) → m < length edges → Contains (nodes_of cycle) (tree_edge_at edges m).inner →
      (place ≤ m) × Contains (nodes_of cycle) (tree_edge_at edges m).outer
  inner_in m low is = elim (tree_cycle.spot (tree_edge_at edges m).inner is) [
    | inl e ↦ absurd (tree.shape.tops.apart tree_cycle.head_at.0 m (omega (arith, tree_cycle.head_at.1, tree_cycle.within, length-outers root edges))
        (low_inner m low) (tree_cycle.head_at.2 ∙ sym e ∙ sym (inner_at edges m low)))
    | inr s ↦ elim s.is [
      | inl inn ↦
          let same : s.at ≡ m = tree.shape.tops.inner_differ s.at m (low_inner s.at s.low) (low_inner m low)
          (inner_at edges s.at s.low ∙ sym inn ∙ sym (inner_at edges m low)) in
          (omega (arith, same, s.late), subst (λ k. Contains (nodes_of cycle) (tree_edge_at edges k).outer) same s.outer)
      | inr out ↦ absurd (tree.shape.tops.apart (suc s.at) m (omega (arith, s.low, length-outers root edges)) (low_inner m low)
          (outer_at root edges s.at s.low ∙ sym out ∙ sym (inner_at edges m low)))
    ]
  ]

  -- the base's own mate is outside
  pub open_base : (j : ℕ) (p : Edge) → j < length cycle → pair_of pairs base ≡ Some p → Holds f (link_at cycle j).node p.to → ⊥
  open_base j p low is held = go tree_cycle.head_at.0 tree_cycle.head_at.1 tree_cycle.head_at.2
    where
      go : (h : ℕ) → h ≤ place → get_or (outers root edges) h 0 ≡ base → ⊥
      go zero below at = none-some _ (sym tree.exposed_root ∙ ap (λ n. pair_of pairs n) at ∙ is)
      go (suc m) below at =
          let low_m : m < length edges = omega (arith, below, tree_cycle.within) in
          let e : flipped (tree_edge_at edges m).pair ≡ p =
          same_Some _ _ (sym (outer_pair f cost pairs root edges fam paired tree m low_m) ∙
          ap (λ n. pair_of pairs n) (sym (outer_at root edges m low_m) ∙ at) ∙ is) in
          let same = top-apart f fam (link_at cycle j).node (tree_edge_at edges m).inner (tree_edge_at edges m).pair.from (can.tops j low)
          (inner_top f root edges tree.shape m low_m) (subst (λ x. Holds f (link_at cycle j).node x.to) (sym e) held)
          ((tree.shape.edge m low_m).pair_from) in
          absurd (omega (arith, below, (inner_in m low_m (subst (λ n. Contains (nodes_of cycle) n) same (node_in cycle j low))).0))

  -- an outer top of the cycle whose inner top is not in it is the base
  outer_is_base : (i : ℕ) → i < length edges → (Contains (nodes_of cycle) (tree_edge_at edges i).inner → ⊥) →
      Contains (nodes_of cycle) (tree_edge_at edges i).outer → (tree_edge_at edges i).outer ≡ base
  outer_is_base i low away is = elim (tree_cycle.spot (tree_edge_at edges i).outer is) [
    | inl head ↦ head
    | inr s ↦ elim s.is [
      | inl inn ↦ absurd (tree.shape.tops.apart (suc i) s.at within (low_inner s.at s.low) (outer_at root edges i low ∙ inn ∙ sym (inner_at edges s.at s.low)))
      | inr out ↦
          let same : suc s.at ≡ suc i = tree.shape.tops.outer_differ (suc s.at) (suc i) (omega (arith, s.low, length-outers root edges)) within
          (outer_at root edges s.at s.low ∙ sym out ∙ sym (outer_at root edges i low)) in
          absurd (away (subst (λ k. Contains (nodes_of cycle) (tree_edge_at edges k).inner) (omega (arith, same)) s.inner))
    ]
  ]
    where
      within : suc i < length (outers root edges)
      within = omega (arith, low, length-outers root edges)

  base_first : (link_at cycle 0).node ≡ base
  base_first = path_head f cycle base base (omega (arith, can.closed.long)) tree_cycle.path

  base_top : IsTop f base
  base_top = subst (λ n. IsTop f n) base_first (can.tops 0 (omega (arith, can.closed.long)))

  module _ (names : b < length pairs) (top_root : ℕ) (root_base : root ≡ base → top_root ≡ b) (root_other : root ≢ base → top_root ≡ root) where
    abbrev g : Family
    g = with_slot f b (Some (blossom_of f cycle))

    abbrev now : List (Option Edge)
    now = set pairs b (pair_of pairs base)

    abbrev at_base : ℕ
    at_base = tree_cycle.head_at.0

    -- the blossom is a new outer top once its base has been passed
    abbrev NewOut : ℕ → ℕ → Type 0
    NewOut k t = (t ≡ b) × (at_base ≤ k)

    abbrev NoIn : ℕ → Type 0
    NoIn t = ⊥

    abbrev Stage : ℕ → Type 0
    Stage k = IsRegrown f g cost now root top_root edges (NewOut k) NoIn (shrunk_edges g b (take k edges)) k

    root_top : IsTop f root
    root_top = tree.shape.tops.outer_tops 0 (omega (arith, length-outers root edges))

    base_low : at_base < length (outers root edges)
    base_low = omega (arith, tree_cycle.head_at.1, tree_cycle.within, length-outers root edges)

    kept_pair : (t : ℕ) → IsTop f t → pair_of now t ≡ pair_of pairs t
    kept_pair t top = get_or-set_other pairs b t (pair_of pairs base) None (top-not_dead f b dead t top)

    -- a top that shares a leaf with the new blossom is in the cycle
    in_cycle : (t l : ℕ) → IsTop f t → Holds f t l → Holds g b l → Contains (nodes_of cycle) t
    in_cycle t l top held is =
        let at = in_new f b cycle fam can dead room l is in
        subst (λ n. Contains (nodes_of cycle) n) (top-apart f fam (link_at cycle at.0).node t l (can.tops at.0 at.1) top at.2 held)
        (node_in cycle at.0 at.1)

    in_blossom : (n l : ℕ) → Contains (nodes_of cycle) n → Holds f n l → Holds g b l
    in_blossom n l is held =
        let at = place_in cycle n is in
        new_holds f b cycle fam can dead room at.0 l at.1 (subst (λ m. Holds f m l) (sym at.2) held)

    -- any other top stays one, with its leaves
    still_top : (t : ℕ) → IsTop f t → (Contains (nodes_of cycle) t → ⊥) → IsTop g t
    still_top t top away = IsTop-shrink_other f b cycle fam can dead room t top
        (λ i low e. away (subst (λ n. Contains (nodes_of cycle) n) e (node_in cycle i low)))

    still_holds : (t l : ℕ) → IsTop f t → Holds f t l → Holds g t l
    still_holds t l top held = holds_other f b cycle fam can dead room t l (top-not_dead f b dead t top) ∙ held

    start : Stage 0
    start = elim (cases_eq root base) [
      | inl same ↦ begun
          (subst (λ n. IsTop g n) (sym (root_base same)) (IsTop-shrink f b cycle fam can dead room))
          (ap (λ n. pair_of now n) (root_base same) ∙ get_or-set_same pairs b (pair_of pairs base) None names ∙ ap (λ n. pair_of pairs n) (sym same) ∙
          tree.exposed_root)
          (inl (root_base same, omega (arith, tree.shape.tops.outer_differ at_base 0 base_low (omega arith) (tree_cycle.head_at.2 ∙ sym same))))
          (λ l held. subst (λ n. Holds g n l) (sym (root_base same))
          (in_blossom root l (subst (λ n. Contains (nodes_of cycle) n) (base_first ∙ sym same) (node_in cycle 0 (omega (arith, can.closed.long)))) held))
      | inr differs ↦ begun
          (subst (λ n. IsTop g n) (sym (root_other differs)) (still_top root root_top (root_out differs)))
          (ap (λ n. pair_of now n) (root_other differs) ∙ kept_pair root root_top ∙ tree.exposed_root)
          (inr (0, omega arith, sym (root_other differs)))
          (λ l held. subst (λ n. Holds g n l) (sym (root_other differs)) (still_holds root l root_top held))
    ]
      where
        begun : IsTop g top_root → pair_of now top_root ≡ None → NewOut 0 top_root ⊎ ((j : ℕ) × (j ≤ 0) × (get_or (outers root edges) j 0 ≡ top_root)) →
            ((l : ℕ) → Holds f root l → Holds g top_root l) → Stage 0
        begun = IsRegrown-init f g cost now root top_root edges (NewOut 0) NoIn

        root_out : root ≢ base → Contains (nodes_of cycle) root → ⊥
        root_out differs is = elim (tree_cycle.spot root is) [
          | inl head ↦ differs head
          | inr s ↦ elim s.is [
            | inl inn ↦ tree.shape.tops.apart 0 s.at (omega arith) (low_inner s.at s.low) (inn ∙ sym (inner_at edges s.at s.low))
            | inr out ↦ absurd (omega (
              arith,
              tree.shape.tops.outer_differ (suc s.at) 0 (omega (arith, s.low, length-outers root edges)) (omega arith)
                  (outer_at root edges s.at s.low ∙ sym out),
            ))
          ]
        ]

    module _ (k : ℕ) (is : Stage k) where
      abbrev done : List TreeEdge
      done = shrunk_edges g b (take k edges)

      -- the leaves of the blossom are outer leaves
      blossom_leaf : at_base ≤ k → (l : ℕ) → Holds g b l → IsOuterLeaf g top_root done l
      blossom_leaf passed l held =
          let first = some_leaf f fam base base_top.alive in
          let at = is.hit at_base first.0 passed (subst (λ n. Holds f n first.0) (sym tree_cycle.head_at.2) first.1) in
          let base_in : Contains (nodes_of cycle) base =
          subst (λ n. Contains (nodes_of cycle) n) base_first (node_in cycle 0 (omega (arith, can.closed.long))) in
          let same : get_or (outers top_root done) at.0 0 ≡ b = top-apart g (IsFamily-shrink f b cycle fam can dead room) (get_or (outers top_root done) at.0 0)
          b first.0 (is.tree.shape.tops.outer_tops at.0 at.1) (IsTop-shrink f b cycle fam can dead room) at.2 (in_blossom base first.0 base_in first.1) in
          (at.0, at.1, subst (λ n. Holds g n l) (sym same) held)

      module _ (low : k < length edges) where
        abbrev e : TreeEdge
        e = tree_edge_at edges k

        top_in : IsTop f e.inner
        top_in = inner_top f root edges tree.shape k low

        top_out : IsTop f e.outer
        top_out = outer_top f root edges tree.shape k low

        tight_same : (u v : ℕ) → IsTight f cost u v → IsTight g cost u v
        tight_same u v t = duals_between-shrink f b cycle fam can dead room u v ∙ t

        later : (t : ℕ) → NewOut k t → NewOut (suc k) t
        later t new = (new.0, omega (arith, new.1))

        as_next : (xs : List TreeEdge) → shrunk_edges g b (take k edges ++ e ∷ []) ≡ xs →
            IsRegrown f g cost now root top_root edges (NewOut (suc k)) NoIn xs (suc k) → Stage (suc k)
        as_next xs made grown = subst (λ ls. IsRegrown f g cost now root top_root edges (NewOut (suc k)) NoIn ls (suc k))
            (sym (ap (λ ls. shrunk_edges g b ls) (take-suc edges k blank_tree_edge low) ∙ made)) grown

        keep : (Contains (nodes_of cycle) e.inner → ⊥) → (o : ℕ) → renamed_edge g b e ≡ with_outer e o → NewOut (suc k) o ⊎ (o ≡ e.outer) → IsTop g o →
            o ≢ e.inner → IsOut top_root done o → ((l : ℕ) → Holds f e.outer l → Holds g o l) →
            IsRegrown f g cost now root top_root edges (NewOut (suc k)) NoIn (done ++ renamed_edge g b e ∷ []) (suc k)
        keep away o made named top apart out leaves =
            subst (λ x. IsRegrown f g cost now root top_root edges (NewOut (suc k)) NoIn (done ++ x ∷ []) (suc k)) (sym made)
            (IsRegrown-keep f g cost pairs now root top_root edges tree tight_same (NewOut k) NoIn done k is low (NewOut (suc k)) o later named
            (still_top e.inner top_in away) top apart out (λ new. top-not_dead f b dead e.inner top_in new.0) (λ none. none)
            (kept_pair e.inner top_in ∙ tree.pair k low) (λ l held. still_holds e.inner l top_in held) leaves)

        step : Stage (suc k)
        step = elim (cases_Bool (holds g b e.up.from)) [
          | inl gone ↦
              let inside : Contains (nodes_of cycle) e.inner = in_cycle e.inner e.up.from top_in (tree.shape.up_from k low) gone in
              let both = inner_in k low inside in
              as_next done (shrunk-gone g b (take k edges) e gone)
              (IsRegrown-skip f g cost pairs now root top_root edges tree tight_same (NewOut k) NoIn done k is low (NewOut (suc k)) later
              (λ l held. blossom_leaf (omega (arith, tree_cycle.head_at.1, both.0)) l (in_blossom e.outer l both.1 held)))
          | inr stays ↦
              let away : Contains (nodes_of cycle) e.inner → ⊥ =
              (λ inside. false≢true (sym stays ∙ in_blossom e.inner e.up.from inside (tree.shape.up_from k low))) in
              as_next (done ++ renamed_edge g b e ∷ []) (shrunk-kept g b (take k edges) e stays) (elim (cases_Bool (holds g b e.pair.to)) [
                | inl ends ↦
                    let inside = in_cycle e.outer e.pair.to top_out ((tree.shape.edge k low).pair_to) ends in
                    let here : at_base ≡ suc k = tree.shape.tops.outer_differ at_base (suc k) base_low (omega (arith, low, length-outers root edges))
                    (tree_cycle.head_at.2 ∙ sym (outer_is_base k low away inside) ∙ sym (outer_at root edges k low)) in
                    keep away b (ap (λ t. with_outer e (cond t b e.outer)) ends) (inl (refl, omega (arith, here)))
                    (IsTop-shrink f b cycle fam can dead room) (λ same. top-not_dead f b dead e.inner top_in (sym same))
                    (record {
                      outer = λ i low_i same. elim (is.outs i low_i) [
                        | inl new ↦ absurd (omega (arith, new.1, here))
                        | inr at ↦ top-not_dead f b dead (get_or (outers root edges) at.0 0)
                            (tree.shape.tops.outer_tops at.0 (omega (arith, at.1, low, length-outers root edges))) (at.2 ∙ same)
                      ];
                      inner = λ i low_i same. elim (is.ins i low_i) [
                        | inl none ↦ none
                        | inr at ↦ top-not_dead f b dead (get_or (inners edges) at.0 0)
                            (tree.shape.tops.inner_tops at.0 (omega (arith, at.1, low, length-inners edges))) (at.2 ∙ same)
                      ];
                    })
                    (λ l held. in_blossom e.outer l inside held)
                | inr ends_out ↦
                    let outside : Contains (nodes_of cycle) e.outer → ⊥ =
                    (λ inside. false≢true (sym ends_out ∙ in_blossom e.outer e.pair.to inside ((tree.shape.edge k low).pair_to))) in
                    keep away e.outer (ap (λ t. with_outer e (cond t b e.outer)) ends_out) (inr refl) (still_top e.outer top_out outside)
                    (λ same. tree.shape.tops.apart (suc k) k (omega (arith, low, length-outers root edges)) (omega (arith, low, length-inners edges))
                    (outer_at root edges k low ∙ same ∙ sym (inner_at edges k low)))
                    (outer_out f g cost pairs now root top_root edges tree tight_same (NewOut k) NoIn done k is low
                    (λ new. top-not_dead f b dead e.outer top_out new.0) (λ none. none))
                    (λ l held. still_holds e.outer l top_out held)
              ])
        ]

    stages : (k : ℕ) → k ≤ length edges → Stage k
    stages zero low = start
    stages (suc k) low = step k (stages k (omega (arith, low))) (omega (arith, low))

    -- what is left is a tree, with the blossom as an outer top
    pub shrunk_tree : IsRegrown f g cost now root top_root edges (NewOut (length edges)) NoIn (shrunk_edges g b edges) (length edges)
    shrunk_tree = subst (λ ls. IsRegrown f g cost now root top_root edges (NewOut (length edges)) NoIn (shrunk_edges g b ls) (length edges))
        (take_all (length edges) edges (omega arith)) (stages (length edges) (omega arith))

    -- so the leaves of inner tops of its cycle are outer leaves
    pub inner_taken : (m l : ℕ) → Contains (nodes_of cycle) (tree_edge_at edges m).inner → Holds f (tree_edge_at edges m).inner l →
        IsOuterLeaf g top_root (shrunk_edges g b edges) l
    inner_taken m l is held = subst (λ ls. IsOuterLeaf g top_root (shrunk_edges g b ls) l) (take_all (length edges) edges (omega arith))
        (blossom_leaf (length edges) (stages (length edges) (omega arith)) (omega (arith, tree_cycle.head_at.1, tree_cycle.within)) l
        (in_blossom (tree_edge_at edges m).inner l is held))
