-- The parts of the engine's invariant after an inner blossom of dual 0 is taken apart.
use Rattle.std.proofs.Common.{◌≡◌, ◌≢◌, ◌⊎◌, ℕ, zero, suc, ◌+◌, ◌*◌, ◌-◌, ◌<◌, ◌≤◌, ◌%◌, List, [], ◌∷◌, ◌++◌, length, get_or, take, drop, Contains}
use Rattle.std.proofs.Common.{Option, Some, None, refl, sym, ap, ◌∙◌, subst, inl, inr, arith, length-append, length-drop, append_assoc}
use Rattle.std.proofs.lemmas.Option.{none-some}
use Rattle.std.proofs.lemmas.Bool.{cases_lt, ne_eqb}
use Rattle.std.proofs.lemmas.List.{append-nil, drop_all, get_or-append_right, get_or-drop, get_or_append_left, take_all}
use Rattle.std.proofs.lemmas.List.Folds.{list_any_at}
use Rattle.std.proofs.Math.Seq.{drop-cons, take-suc}
use Rattle.sg_arena.proofs.ExpandedFamily.{IsTop-expand_child, IsTop-expand_old, IsTop-expand_other, duals_between-expand, holds_rest}
use Rattle.sg_arena.proofs.FamilyLemmas.{after_within, alive_from_holds, name_bound, top-no_child}
use Rattle.sg_base.proofs.ListLaws.{place_of_any}
use Rattle.sg_arena.specs.Changes.{CanShrink, with_slot}
use Rattle.sg_arena.specs.Family.{Family, Holds, IsBlossom, IsFamily, IsTop, after_index, blank_link, cycle_of, dual_of, holds, link_at}
use Rattle.sg_arena.specs.declared.Link.{Link}
use Rattle.sg_match.proofs.ExpandSetsStep.{IsFeasible-expanded, IsPaired-expanded}
use Rattle.sg_match.proofs.RingPairLemmas.{ring_pair-odd}
use Rattle.sg_match.proofs.GrowStep.{IsTree-grown, outer_leaf_last}
use Rattle.sg_slack.proofs.DistinctLemmas.{short}
use Rattle.sg_match.proofs.NameLemmas.{Differ-append, place_of_name}
use Rattle.sg_match.proofs.NodeLemmas.{length-nodes, node_at_place, place_in}
use Rattle.sg_match.proofs.RegrowStep.{IsRegrown, IsRegrown-add, IsRegrown-init, IsRegrown-keep, outer_out}
use Rattle.sg_match.proofs.RingLemmas.{IsRing}
use Rattle.sg_match.proofs.RotateLemmas.{Differ-cycle, cases_after}
use Rattle.sg_match.proofs.StepsStep.{blossoms-expanded, rest-fewer}
use Rattle.sg_match.proofs.TreeLemmas.{inner_at, inner_top, length-inners, length-outers, outer_at, outer_top}
use Rattle.sg_match.specs.Feasible.{IsFeasible}
use Rattle.sg_slack.specs.Tight.{IsTight}
use Rattle.sg_match.specs.ExpandedTree.{expanded_edges, ring_edges, ring_start}
use Rattle.sg_match.specs.Rings.{IsOdd, IsRingPaired}
use Rattle.sg_match.specs.Exposed.{IsExposed}
use Rattle.sg_match.specs.Pairs.{IsPaired, edge_of_link, pair_of}
use Rattle.sg_match.specs.Path.{nodes_of}
use Rattle.sg_match.specs.Steps.{blossoms_of, rest_of, tree_left}
use Rattle.sg_match.specs.Tree.{IsOut, IsOuterLeaf, IsTree, blank_tree_edge, inners, tree_edge_at, outers}
use Rattle.sg_match.specs.declared.Edge.{Edge}
use Rattle.sg_match.specs.declared.TreeEdge.{TreeEdge}

module _ (f : Family) (cost : ℕ → ℕ → ℕ) (b : ℕ) (ring : List Link) (fam : IsFamily f) (top : IsTop f b) (is : IsRing f cost b ring) where
  -- no top is a node of the ring
  node_out : (t : ℕ) → IsTop f t → (i : ℕ) → i < length ring → (link_at ring i).node ≢ t
  node_out t is_top i low same = let k = is.kid i low in top-no_child f fam t b k.0 is_top k.1 (k.2 ∙ same)

  -- the nodes of the ring have names below the room
  pub node_bound : (i : ℕ) → i < length ring → (link_at ring i).node < length f.nodes
  node_bound i low = name_bound f (link_at ring i).node (alive_from_holds f (link_at ring i).node (link_at ring i).from (is.cycle.from i low))

  -- the inner tops and the nodes of the ring are different names
  pub ring_room : (pairs : List (Option Edge)) (root : ℕ) (edges : List TreeEdge) → IsTree f cost pairs root edges → length edges + length ring ≤ length f.nodes
  ring_room pairs root edges tree =
      let names = inners edges ++ nodes_of ring in
      let count : length names ≡ length edges + length ring = length-append (inners edges) (nodes_of ring) ∙
      omega (arith, length-inners edges, length-nodes ring) in
      omega (
        arith,
        count,
        short names (length f.nodes) (Differ-append (inners edges) (nodes_of ring) tree.shape.tops.inner_differ (Differ-cycle f ring is.cycle) apart) below,
      )
    where
      apart : (n : ℕ) → Contains (inners edges) n → Contains (nodes_of ring) n → ⊥
      apart n in_tree in_ring =
          let i = place_of_name (inners edges) n in_tree in
          let k = place_in ring n in_ring in
          node_out n (subst (λ t. IsTop f t) i.2 (tree.shape.tops.inner_tops i.0 i.1)) k.0 k.1 k.2

      below : (i : ℕ) → i < length (inners edges ++ nodes_of ring) → get_or (inners edges ++ nodes_of ring) i 0 < length f.nodes
      below i low = elim (cases_lt i (length (inners edges))) [
        | inl front ↦ subst (λ n. n < length f.nodes) (sym (get_or_append_left (inners edges) (nodes_of ring) 0 i front))
            (name_bound f (get_or (inners edges) i 0) (tree.shape.tops.inner_tops i front).alive)
        | inr past ↦
            let less : i - length (inners edges) < length ring = omega (arith, low, past, length-append (inners edges) (nodes_of ring), length-nodes ring) in
            subst (λ n. n < length f.nodes)
            (sym (get_or-append_right (inners edges) (nodes_of ring) (length (inners edges)) i 0 refl past ∙
            node_at_place ring (i - length (inners edges)) less)) (node_bound (i - length (inners edges)) less)
      ]

module _ (f : Family) (cost : ℕ → ℕ → ℕ) (pairs now : List (Option Edge)) (root : ℕ) (edges : List TreeEdge) (b at : ℕ) (ring : List Link)
    (feasible : IsFeasible f cost) (tree : IsTree f cost pairs root edges) (low : at < length edges) (here : (tree_edge_at edges at).inner ≡ b)
    (blossom : IsBlossom f b) (inner_zero : dual_of f b ≡ 0) (is : IsRing f cost b ring)
    (ring_pairs : IsRingPaired pairs now ring (tree_edge_at edges at).pair) where
  abbrev g : Family
  g = with_slot f b None

  abbrev fam : IsFamily f
  fam = feasible.family

  inner_is : get_or (inners edges) at 0 ≡ b
  inner_is = inner_at edges at low ∙ here

  top : IsTop f b
  top = subst (λ n. IsTop f n) inner_is (tree.shape.tops.inner_tops at (omega (arith, low, length-inners edges)))

  room : b < length f.nodes
  room = name_bound f b top.alive

  kids : (i : ℕ) → i < length (cycle_of f b) → IsTop g (link_at (cycle_of f b) i).node
  kids i low_i = IsTop-expand_child f b fam top blossom room i low_i

  out : (t : ℕ) → IsTop f t → (i : ℕ) → i < length ring → (link_at ring i).node ≢ t
  out t is_top i low_i = node_out f cost b ring fam top is t is_top i low_i

  rest : (n l : ℕ) → n ≢ b → Holds f n l → Holds g n l
  rest n l away h = holds_rest f b fam top blossom room n l away ∙ h

  tight_same : (u v : ℕ) → IsTight f cost u v → IsTight g cost u v
  tight_same u v t = duals_between-expand f b inner_zero room u v ∙ t

  same_pair : (t : ℕ) → IsTop f t → pair_of now t ≡ pair_of pairs t
  same_pair t is_top = ring_pairs.others t (λ i low_i. out t is_top i low_i)

  outer_away : (i : ℕ) → i < length (outers root edges) → get_or (outers root edges) i 0 ≢ b
  outer_away i low_i same = tree.shape.tops.apart i at low_i (omega (arith, low, length-inners edges)) (same ∙ sym inner_is)

  -- the ring is a cycle of tops now
  can : CanShrink g ring
  can = record {
    closed = record {
      long = is.cycle.long;
      odd = is.cycle.odd;
      differ = is.cycle.differ;
      from = λ i low_i. rest (link_at ring i).node (link_at ring i).from (out b top i low_i) (is.cycle.from i low_i);
      to = λ i low_i. let next = after_index (length ring) i in rest (link_at ring next).node (link_at ring i).to
          (out b top next (after_within (length ring) i low_i)) (is.cycle.to i low_i);
    };
    tops = λ i low_i. let k = is.kid i low_i in subst (λ n. IsTop g n) k.2 (kids k.0 k.1);
  }

  -- each node of the ring is paired
  ring_paired : (i : ℕ) → i < length ring → pair_of now (link_at ring i).node ≢ None
  ring_paired i low_i none = none-some _ (sym (sym (ring_pairs.each i low_i) ∙ none))

  -- the unpaired tops are those that were
  pub IsExposed-expanded : (exposed : List ℕ) → IsExposed f pairs (Some root) exposed → IsExposed g now (Some root) exposed
  IsExposed-expanded exposed old =
      record {
        tops = λ i low_i. IsTop-expand_other f b fam top blossom room (get_or exposed i 0) (old.tops i low_i)
            (λ same. none-some _ (sym (sym (tree.pair at low) ∙ ap (λ n. pair_of pairs n) (here ∙ sym same) ∙ old.unpaired i low_i)));
        unpaired = λ i low_i. same_pair (get_or exposed i 0) (old.tops i low_i) ∙ old.unpaired i low_i;
        differ = old.differ;
        rootless = old.rootless;
        every = λ t is_top none. elim (IsTop-expand_old f b fam top blossom room t is_top) [
          | inl was ↦ old.every t was (sym (same_pair t was) ∙ none)
          | inr kid ↦ let s = is.seat kid.0 kid.1 in absurd (ring_paired s.0 s.1 (ap (λ n. pair_of now n) (s.2 ∙ kid.2) ∙ none))
        ];
        even = old.even;
      }

  -- the pairs are those of the new tops
  pub IsPaired-expand : IsPaired f (IsTight f cost) pairs → Holds f (link_at ring 0).node (tree_edge_at edges at).pair.from → IsPaired g (IsTight g cost) now
  IsPaired-expand paired base =
      IsPaired-expanded f b fam top blossom room (IsTight g cost) pairs now ring (tree_edge_at edges at).pair
      (record { own = paired.own; other = paired.other; tight = λ t p is_top e. tight_same p.from p.to (paired.tight t p is_top e) })
      (ap (λ n. pair_of pairs n) (sym here) ∙ tree.pair at low) can ring_pairs is.kid is.seat
      (rest (link_at ring 0).node (tree_edge_at edges at).pair.from (out b top 0 (omega (arith, is.cycle.long))) base)
      (λ i low_i. (
        tight_same (link_at ring i).from (link_at ring i).to (is.tight i low_i),
        tight_same (link_at ring i).to (link_at ring i).from (is.back i low_i),
      ))

  -- taken apart, the family stays feasible
  pub IsFeasible-expand : IsFeasible g cost
  IsFeasible-expand = IsFeasible-expanded f cost b feasible top blossom inner_zero room

  module _ (entry : ℕ) (base : Holds f (link_at ring 0).node (tree_edge_at edges at).pair.from) (entry_low : entry < length ring)
      (at_entry : Holds f (link_at ring entry).node (tree_edge_at edges at).up.from) (facing : (entry ≡ 0) ⊎ IsOdd entry) where
    abbrev first : ℕ
    first = (link_at ring 0).node

    abbrev tree_edge : TreeEdge
    tree_edge = tree_edge_at edges at

    -- the names of the ring from a place on, up to another
    abbrev Used : ℕ → ℕ → ℕ → Type 0
    Used from to t = (p : ℕ) × (from ≤ p) × (p < to) × (p < length ring) × ((link_at ring p).node ≡ t)

    abbrev Regrown : (ℕ → Type 0) → List TreeEdge → ℕ → Type 0
    Regrown New done k = IsRegrown f g cost now root root edges New New done k

    zero_low : 0 < length ring
    zero_low = omega (arith, is.cycle.long)

    place_low : at < length (inners edges)
    place_low = omega (arith, low, length-inners edges)

    -- no old top is a new one
    unused : (from to t : ℕ) → IsTop f t → Used from to t → ⊥
    unused from to t is_top used = out t is_top used.0 used.3 used.4

    still_top : (t : ℕ) → IsTop f t → t ≢ b → IsTop g t
    still_top t is_top away = IsTop-expand_other f b fam top blossom room t is_top away

    outer_is : (k : ℕ) → k < length edges → (tree_edge_at edges k).outer ≢ b
    outer_is k less same = outer_away (suc k) (omega (arith, less, length-outers root edges)) (outer_at root edges k less ∙ same)

    tops_apart : (k : ℕ) → k < length edges → (tree_edge_at edges k).outer ≢ (tree_edge_at edges k).inner
    tops_apart k less same = tree.shape.tops.apart (suc k) k (omega (arith, less, length-outers root edges)) (omega (arith, less, length-inners edges))
        (outer_at root edges k less ∙ same ∙ sym (inner_at edges k less))

    -- the tree edges that stay grow again
    kept_edges : (from to : ℕ) (done : List TreeEdge) (n k m : ℕ) → m ≡ n + k → m ≤ length edges → ((i : ℕ) → k ≤ i → i < m → i ≢ at) →
        Regrown (Used from to) done k → Regrown (Used from to) (done ++ take n (drop k edges)) m
    kept_edges from to done zero k m same less away was = subst (λ ls. Regrown (Used from to) ls m) (sym (append-nil done))
        (subst (λ i. Regrown (Used from to) done i) (omega (arith, same)) was)
    kept_edges from to done (suc n) k m same less away was = subst (λ i. Regrown (Used from to) (done ++ take (suc n) (drop k edges)) i)
        (omega (arith, same)) (next (n + k) refl (omega (arith, same))
        (kept_edges from to done n k (n + k) refl (omega (arith, same, less)) (λ i late early. away i late (omega (arith, early, same))) was))
      where
        next : (j : ℕ) → j ≡ n + k → j < m → Regrown (Used from to) (done ++ take n (drop k edges)) j →
            Regrown (Used from to) (done ++ take (suc n) (drop k edges)) (suc j)
        next j here before grown =
            let low_j : j < length edges = omega (arith, before, less) in
            let e = tree_edge_at edges j in
            let top_in = inner_top f root edges tree.shape j low_j in
            let top_out = outer_top f root edges tree.shape j low_j in
            let in_away : e.inner ≢ b = λ clash. away j (omega (arith, here)) before
            (tree.shape.tops.inner_differ j at (omega (arith, low_j, length-inners edges)) place_low (inner_at edges j low_j ∙ clash ∙ sym inner_is)) in
            let read : get_or (drop k edges) n blank_tree_edge ≡ e = get_or-drop k edges n blank_tree_edge ∙
            ap (λ i. tree_edge_at edges i) (omega (arith, here)) in
            let more : done ++ take (suc n) (drop k edges) ≡ (done ++ take n (drop k edges)) ++ e ∷ [] =
            ap (λ ls. done ++ ls) (take-suc (drop k edges) n blank_tree_edge (omega (arith, here, low_j, length-drop k edges))
            ∙ ap (λ l. take n (drop k edges) ++ l ∷ []) read) ∙ sym (append_assoc done (take n (drop k edges)) (e ∷ [])) in
            subst (λ ls. Regrown (Used from to) ls (suc j)) (sym more)
            (IsRegrown-keep f g cost pairs now root root edges tree tight_same (Used from to) (Used from to) (done ++ take n (drop k edges)) j grown low_j
            (Used from to) e.outer (λ t new. new) (inr refl) (still_top e.inner top_in in_away) (still_top e.outer top_out (outer_is j low_j))
            (tops_apart j low_j)
            (outer_out f g cost pairs now root root edges tree tight_same (Used from to) (Used from to) (done ++ take n (drop k edges)) j grown low_j
            (unused from to e.outer top_out) (unused from to e.outer top_out))
            (unused from to e.inner top_in) (unused from to e.inner top_in) (same_pair e.inner top_in ∙ tree.pair j low_j)
            (λ l held. rest e.inner l in_away held) (λ l held. rest e.outer l (outer_is j low_j) held))

    -- a node of the ring that has not been used is out of the tree
    unused_out : (from to : ℕ) (done : List TreeEdge) (p : ℕ) → Regrown (Used from to) done at → p < length ring → (p < from) ⊎ (to ≤ p) →
        IsOut root done (link_at ring p).node
    unused_out from to done p was low_p away = record {
      outer = λ i low_i same. elim (was.outs i low_i) [
        | inl used ↦ clash used same
        | inr old ↦ out (get_or (outers root edges) old.0 0) (tree.shape.tops.outer_tops old.0 (omega (arith, old.1, low, length-outers root edges))) p low_p
            (sym (old.2 ∙ same))
      ];
      inner = λ i low_i same. elim (was.ins i low_i) [
        | inl used ↦ clash used same
        | inr old ↦ out (get_or (inners edges) old.0 0) (tree.shape.tops.inner_tops old.0 (omega (arith, old.1, place_low))) p low_p (sym (old.2 ∙ same))
      ];
    }
      where
        clash : {t : ℕ} → Used from to t → t ≡ (link_at ring p).node → ⊥
        clash used same =
            let e : used.0 ≡ p = is.cycle.differ used.0 p used.3 low_p (used.4 ∙ same) in
            elim away [ inl before ↦ absurd (omega (arith, before, used.1, e)) | inr behind ↦ absurd (omega (arith, behind, used.2, e)) ]

    -- the nodes of the ring behind place q go into the tree, two by two, and its first node at the end
    ring_grown : (from n q : ℕ) (up : Edge) (done : List TreeEdge) → 1 ≤ from → from ≤ suc q → q % 2 ≡ 0 → suc q + n ≡ length ring →
        Regrown (Used from (suc q)) done at → Holds g (link_at ring (after_index (length ring) q)).node up.from → IsOuterLeaf g root done up.to →
        IsTight g cost up.from up.to → Regrown (Used 0 (length ring)) (done ++ ring_edges tree_edge first up (drop (suc q) ring)) (suc at)
    ring_grown from zero q up done some late even end was starts up_to tight =
        let l : TreeEdge = record { inner = first; outer = tree_edge.outer; up = up; pair = tree_edge.pair } in
        let top_out = outer_top f root edges tree.shape at low in
        let closed : after_index (length ring) q ≡ 0 = elim (cases_after (length ring) q) [
          | inl at_end ↦ at_end.1
          | inr inside ↦ absurd (inside.0 (omega (arith, end)))
        ] in
        let more : (t : ℕ) → Used from (suc q) t → Used 0 (length ring) t = λ t used. (used.0, omega arith, used.3, used.3, used.4) in
        subst (λ ls. Regrown (Used 0 (length ring)) (done ++ ring_edges tree_edge first up ls) (suc at))
        (sym (drop_all (suc q) ring (omega (arith, end))))
        (IsRegrown-add f g cost pairs now root root edges tree tight_same (Used from (suc q)) (Used from (suc q)) done at was (Used 0 (length ring))
        (Used 0 (length ring)) l (suc at) (omega arith) more more
        (IsTree-grown root done l g cost now was.tree (unused_out from (suc q) done 0 was zero_low (inl some))
        (outer_out f g cost pairs now root root edges tree tight_same (Used from (suc q)) (Used from (suc q)) done at was low
        (unused from (suc q) tree_edge.outer top_out) (unused from (suc q) tree_edge.outer top_out))
        (can.tops 0 zero_low) (still_top tree_edge.outer top_out (outer_is at low))
        (λ same. out tree_edge.outer top_out 0 zero_low (sym same)) (ring_pairs.each 0 zero_low) (rest first tree_edge.pair.from (out b top 0 zero_low) base)
        (rest tree_edge.outer tree_edge.pair.to (outer_is at low) ((tree.shape.edge at low).pair_to))
        (subst (λ k. Holds g (link_at ring k).node up.from) closed starts) up_to tight)
        (inr (suc at, omega arith, outer_at root edges at low)) (inl (0, omega arith, zero_low, zero_low, refl))
        (λ j l before behind held. rest tree_edge.outer l (outer_is at low) (next_outer j l before behind held)))
      where
        next_outer : (j l : ℕ) → at < j → j ≤ suc at → Holds f (get_or (outers root edges) j 0) l → Holds f tree_edge.outer l
        next_outer j l before behind held = subst (λ n. Holds f n l)
            (ap (λ i. get_or (outers root edges) i 0) (only j before behind) ∙ outer_at root edges at low) held
          where
            only : (j : ℕ) → at < j → j ≤ suc at → j ≡ suc at
            only j before behind = omega (arith, before, behind)
    ring_grown from (suc zero) q up done some late even end was starts up_to tight = absurd (omega (arith, even, end, is.cycle.odd))
    ring_grown from (suc (suc n)) q up done some late even end was starts up_to tight =
        let d = suc q in
        let one = link_at ring d in
        let two = link_at ring (suc d) in
        let low_one : d < length ring = omega (arith, end) in
        let low_two : suc d < length ring = omega (arith, end) in
        let l : TreeEdge = record { inner = one.node; outer = two.node; up = up; pair = edge_of_link one } in
        let again : Edge = record { from = two.to; to = two.from } in
        let follows : Holds g two.node one.to = subst (λ k. Holds g (link_at ring k).node one.to) (inside d low_two) (can.closed.to d low_one) in
        let more : (t : ℕ) → Used from d t → Used from (suc (suc d)) t = λ t used. (used.0, used.1, omega (arith, used.2), used.3, used.4) in
        let grown : Regrown (Used from (suc (suc d))) (done ++ l ∷ []) at =
        IsRegrown-add f g cost pairs now root root edges tree tight_same (Used from d) (Used from d) done at was (Used from (suc (suc d)))
        (Used from (suc (suc d))) l at (omega arith) more more
        (IsTree-grown root done l g cost now was.tree (unused_out from d done d was low_one (inr (omega arith)))
        (unused_out from d done (suc d) was low_two (inr (omega arith))) (can.tops d low_one) (can.tops (suc d) low_two)
        (λ same. absurd (omega (arith, is.cycle.differ (suc d) d low_two low_one same)))
        (ring_pairs.each d low_one ∙ ap (λ x. Some x) (ring_pair-odd ring tree_edge.pair d (omega (arith, even))))
        (can.closed.from d low_one) follows (subst (λ k. Holds g (link_at ring k).node up.from) (inside q low_one) starts) up_to tight)
        (inl (suc d, omega (arith, late), omega arith, low_two, refl)) (inl (d, omega (arith, late), omega arith, low_one, refl))
        (λ j l before behind held. absurd (omega (arith, before, behind))) in
        subst (λ ls. Regrown (Used 0 (length ring)) (done ++ ring_edges tree_edge first up ls) (suc at))
        (sym (drop-cons ring d blank_link low_one ∙ ap (λ ls. one ∷ ls) (drop-cons ring (suc d) blank_link low_two)))
        (subst (λ ls. Regrown (Used 0 (length ring)) ls (suc at))
        (append_assoc done (l ∷ []) (ring_edges tree_edge first again (drop (suc (suc d)) ring)))
        (ring_grown from n (suc d) again (done ++ l ∷ []) some (omega (arith, late)) (omega (arith, even)) (omega (arith, end)) grown
        (can.closed.to (suc d) low_two) (outer_leaf_last root done l g two.from (can.closed.from (suc d) low_two))
        (tight_same two.to two.from (is.back (suc d) low_two))))
      where
        inside : (k : ℕ) → suc k < length ring → after_index (length ring) k ≡ suc k
        inside k less = elim (cases_after (length ring) k) [
          | inl at_end ↦ absurd (omega (arith, at_end.0, less))
          | inr step ↦ omega (arith, step.1)
        ]

    -- where the ring goes into the tree: behind an even place of it
    record Start : Type 0 where
      q : ℕ
      starts : ring_start entry (length ring) ≡ suc q
      even : q % 2 ≡ 0
      within : suc q ≤ length ring
      after : after_index (length ring) q ≡ entry

    start : Start
    start = elim facing [
      | inl none ↦ record {
        q = length ring - 1;
        starts = ap (λ k. ring_start k (length ring)) none ∙ omega (arith, zero_low);
        even = omega (arith, is.cycle.odd);
        within = omega (arith, zero_low);
        after = elim (cases_after (length ring) (length ring - 1)) [
          | inl end ↦ end.1 ∙ sym none
          | inr inside ↦ absurd (inside.0 (omega (arith, zero_low)))
        ];
      }
      | inr odd ↦
          let some : entry ≢ 0 = λ none. absurd (omega (arith, odd, none)) in
          record {
            q = entry - 1;
            starts = rw (ne_eqb entry 0 some) (omega (arith, odd));
            even = omega (arith, odd);
            within = omega (arith, odd, entry_low);
            after = elim (cases_after (length ring) (entry - 1)) [
              | inl end ↦ absurd (omega (arith, end.0, odd, entry_low))
              | inr inside ↦ omega (arith, inside.1, odd)
            ];
          }
    ]

    -- the children of the blossom are in the tree in its place
    pub expanded_tree : Regrown (Used 0 (length ring)) (expanded_edges edges at ring entry) (length edges)
    expanded_tree =
        let from = suc start.q in
        let root_top = tree.shape.tops.outer_tops 0 (omega (arith, length-outers root edges)) in
        let root_away = outer_away 0 (omega (arith, length-outers root edges)) in
        let begun : Regrown (Used from from) [] 0 = IsRegrown-init f g cost now root root edges (Used from from) (Used from from)
        (still_top root root_top root_away) (same_pair root root_top ∙ tree.exposed_root) (inr (0, omega arith, refl)) (λ l held. rest root l root_away held) in
        let front : Regrown (Used from from) (take at edges) at = kept_edges from from [] at 0 at (omega arith) (omega (arith, low))
        (λ i late early. omega (arith, early)) begun in
        let up = (tree.shape.edge at low).up_to in
        let middle = take at edges ++ ring_edges tree_edge first tree_edge.up (drop from ring) in
        let ringed : Regrown (Used 0 (length ring)) middle (suc at) = ring_grown from (length ring - from) start.q tree_edge.up (take at edges)
        (omega arith) (omega arith) start.even (omega (arith, start.within)) front
        (subst (λ k. Holds g (link_at ring k).node tree_edge.up.from) (sym start.after)
        (rest (link_at ring entry).node tree_edge.up.from (out b top entry entry_low) at_entry))
        (front.hit up.0 tree_edge.up.to up.1 up.2) (tight_same tree_edge.up.from tree_edge.up.to (tree.up_tight at low)) in
        let n = length edges - suc at in
        let whole : Regrown (Used 0 (length ring)) (middle ++ take n (drop (suc at) edges)) (length edges) =
        kept_edges 0 (length ring) middle n (suc at) (length edges) (omega (arith, low)) (omega arith) (λ i late early. omega (arith, late)) ringed in
        let rest_all : take n (drop (suc at) edges) ≡ drop (suc at) edges = take_all n (drop (suc at) edges) (omega (arith, length-drop (suc at) edges)) in
        let named : middle ++ take n (drop (suc at) edges) ≡ expanded_edges edges at ring entry = ap (λ ls. middle ++ ls) rest_all
        ∙ append_assoc (take at edges) (ring_edges tree_edge first tree_edge.up (drop from ring)) (drop (suc at) edges)
        ∙ ap (λ k. take at edges ++ (ring_edges tree_edge first tree_edge.up (drop k ring) ++ drop (suc at) edges)) (sym start.starts) in
        subst (λ ls. Regrown (Used 0 (length ring)) ls (length edges)) named whole

    -- one blossom less, and no outer leaf less
    pub steps-expand : (exposed : List ℕ) →
        tree_left g exposed (Some root) (expanded_edges edges at ring entry) + 2 * blossoms_of g + 2 ≤ tree_left f exposed (Some root) edges + 2 * blossoms_of f
    steps-expand exposed =
        let grown = expanded_edges edges at ring entry in
        let fewer : rest_of g root grown ≤ rest_of f root edges = rest-fewer f g root root edges grown refl (λ l some.
        let i = place_of_any (λ t. holds f t l) (outers root edges) 0 some in
        let j = expanded_tree.hit i.0 l (omega (arith, i.1, length-outers root edges)) i.2 in
        list_any_at (λ t. holds g t l) (outers root grown) j.0 0 j.1 j.2) in
        omega (arith, fewer, blossoms-expanded f b blossom room)
