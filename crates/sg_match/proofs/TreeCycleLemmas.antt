-- A path that grows over one more tree edge at either end.
use Rattle.std.proofs.Common.{◌≡◌, ◌≢◌, ℕ, zero, suc, ◌+◌, ◌-◌, ◌<◌, ◌≤◌, ◌%◌, ◌⊎◌, List, [], ◌∷◌, ◌++◌, length, get_or, Contains, refl, sym, ap, ◌∙◌, subst, inl, inr, arith, length-append}
use Rattle.std.proofs.lemmas.Bool.{cases_eq, cases_lt}
use Rattle.std.proofs.lemmas.List.{get_or_append_left, map-append}
use Rattle.std.proofs.lemmas.List.Elements.{Contains-append_left, Contains-append_right, Contains-append_cases}
use Rattle.std.proofs.Math.Seq.{get_or-append_right}
use Rattle.sg_arena.proofs.FamilyLemmas.{leaf_bound, top-apart}
use Rattle.sg_arena.specs.Family.{Family, Holds, IsFamily, IsTop, blank_link}
use Rattle.sg_arena.specs.declared.Link.{Link}
use Rattle.sg_match.proofs.NameLemmas.{Contains-two, Differ-append, Differ-two}
use Rattle.sg_slack.proofs.TightLemmas.{tight-back}
use Rattle.sg_match.proofs.TreeLemmas.{inner_at, length-inners, length-outers, outer_at}
use Rattle.sg_slack.specs.Tight.{IsTight}
use Rattle.sg_match.specs.Links.{pair_link, down_link, step_link, up_link}
use Rattle.sg_match.specs.Path.{AreTight, IsPath, nodes_of}
use Rattle.sg_base.specs.Sets.{Differ}
use Rattle.sg_match.specs.TreeCycle.{HasTight, IsSpot, IsTreeCycle}
use Rattle.sg_match.specs.Tree.{IsShape, inners, tree_edge_at, outers}
use Rattle.sg_match.specs.declared.TreeEdge.{TreeEdge}

IsPath-append : (f : Family) (xs ys : List Link) (head mid tail : ℕ) → IsPath f xs head mid → IsPath f ys mid tail → IsPath f (xs ++ ys) head tail
IsPath-append f [] ys head mid tail p q = subst (λ n. IsPath f ys n tail) (sym p) q
IsPath-append f (x ∷ xs) ys head mid tail p q = (p.0, p.1, p.2, (p.3.0, p.3.1, IsPath-append f xs ys p.3.0 mid tail p.3.2 q))

module _ (f : Family) (cost : ℕ → ℕ → ℕ) where
  AreTight-append : (xs ys : List Link) → AreTight f cost xs → AreTight f cost ys → AreTight f cost (xs ++ ys)
  AreTight-append xs ys tx ty i low =
      elim (cases_lt i (length xs)) [
        | inl a ↦ subst (λ (l : Link). IsTight f cost l.from l.to) (sym (get_or_append_left xs ys blank_link i a)) (tx i a)
        | inr b ↦ subst (λ (l : Link). IsTight f cost l.from l.to) (sym (get_or-append_right xs ys i blank_link b))
            (ty (i - length xs) (omega (arith, low, b, length-append xs ys)))
      ]

  -- a single tight link
  pub AreTight-one : (a : Link) → IsTight f cost a.from a.to → AreTight f cost (a ∷ [])
  AreTight-one a ta zero low = ta
  AreTight-one a ta (suc i) low = absurd (omega (arith, low))

  AreTight-two : (a b : Link) → IsTight f cost a.from a.to → IsTight f cost b.from b.to → AreTight f cost (a ∷ b ∷ [])
  AreTight-two a b ta tb zero low = ta
  AreTight-two a b ta tb (suc zero) low = tb
  AreTight-two a b ta tb (suc (suc i)) low = absurd (omega (arith, low))

  module _ (root : ℕ) (edges : List TreeEdge) (fam : IsFamily f) (shape : IsShape f root edges) (tight : HasTight f cost edges) (i : ℕ)
      (within : i < length edges) where
    pair_back : IsTight f cost (tree_edge_at edges i).pair.to (tree_edge_at edges i).pair.from
    pair_back = grind (arith, tight-back, leaf_bound, tight.symmetric, shape.edge, tight.pair)

    edge_back : IsTight f cost (tree_edge_at edges i).up.to (tree_edge_at edges i).up.from
    edge_back = grind (arith, tight-back, leaf_bound, shape.edge, tight.symmetric, shape.up_from, tight.up)

    -- two tight links more at the tail
    pub AreTight-tail : (cycle : List Link) → AreTight f cost cycle
        → AreTight f cost (cycle ++ down_link (tree_edge_at edges i) ∷ up_link (tree_edge_at edges i) ∷ [])
    AreTight-tail cycle t = AreTight-append cycle (down_link (tree_edge_at edges i) ∷ up_link (tree_edge_at edges i) ∷ []) t
        (AreTight-two (down_link (tree_edge_at edges i)) (up_link (tree_edge_at edges i)) pair_back (tight.up i within))

    -- two tight links more at the head
    pub AreTight-head : (cycle : List Link) (head : ℕ) → AreTight f cost cycle →
        AreTight f cost (step_link head (tree_edge_at edges i) ∷ pair_link (tree_edge_at edges i) ∷ cycle)
    AreTight-head cycle head t = AreTight-append (step_link head (tree_edge_at edges i) ∷ pair_link (tree_edge_at edges i) ∷ []) cycle
        (AreTight-two (step_link head (tree_edge_at edges i)) (pair_link (tree_edge_at edges i)) edge_back (tight.pair i within)) t

module _ (f : Family) (root : ℕ) (edges : List TreeEdge) (fam : IsFamily f) (shape : IsShape f root edges) where
  -- one edge between two outer tops
  pub IsTreeCycle-init : (u v head tail : ℕ) → IsTop f head → IsTop f tail → Holds f head v → Holds f tail u → head ≢ tail →
      ((j : ℕ) × (j < length (outers root edges)) × Holds f (get_or (outers root edges) j 0) u) →
      ((j : ℕ) × (j < length (outers root edges)) × Holds f (get_or (outers root edges) j 0) v) →
      IsTreeCycle f root edges (record { node = head; from = v; to = u } ∷ []) (length edges) head tail
  IsTreeCycle-init u v head tail top_head top_tail in_head in_tail apart at_u at_v =
      record {
        within = omega arith;
        path = (refl, top_head, in_head, (tail, in_tail, refl));
        odd = refl;
        differ = λ i j low_i low_j same. one i j low_i low_j;
        spot = λ n in_n. inl (single n in_n);
        head_at = (
          at_v.0,
          omega (arith, at_v.1, length-outers root edges),
          top-apart f fam (get_or (outers root edges) at_v.0 0) head v (shape.tops.outer_tops at_v.0 at_v.1) top_head at_v.2 in_head,
        );
        tail_at = (
          at_u.0,
          omega (arith, at_u.1, length-outers root edges),
          top-apart f fam (get_or (outers root edges) at_u.0 0) tail u (shape.tops.outer_tops at_u.0 at_u.1) top_tail at_u.2 in_tail,
        );
        some = λ same. absurd (apart same);
      }
    where
      one : (i j : ℕ) → i < 1 → j < 1 → i ≡ j
      one i j a b = omega (arith, a, b)

      single : (n : ℕ) → Contains (head ∷ []) n → n ≡ head
      single n h1 = grind arith

  -- while the ends differ, a tree edge is left
  tree_cycle-positive : (cycle : List Link) (i head tail : ℕ) → head ≢ tail → IsTreeCycle f root edges cycle i head tail → i ≡ (i - 1) + 1
  tree_cycle-positive cycle i head tail apart is = grind (arith, cases_lt 0 i, apart, is.head_at, is.tail_at)

  -- the cycle is behind one tree edge more
  pub tree_cycle-back : (cycle : List Link) (i head tail : ℕ) → head ≢ tail → i ≤ length edges → IsTreeCycle f root edges cycle i head tail →
      (i ≡ (i - 1) + 1) × (i - 1 < length edges) × IsTreeCycle f root edges cycle (i - 1 + 1) head tail
  tree_cycle-back cycle i head tail apart within is = grind (arith, tree_cycle-positive, apart)

  module _ (cycle : List Link) (i head tail : ℕ) (within : i < length edges) (apart : head ≢ tail)
      (is : IsTreeCycle f root edges cycle (i + 1) head tail) where
    abbrev tree_edge : TreeEdge
    tree_edge = tree_edge_at edges i

    abbrev nodes : List ℕ
    nodes = nodes_of cycle

    low_in : i < length (inners edges)
    low_in = omega (arith, within, length-inners edges)

    low_out : suc i < length (outers root edges)
    low_out = omega (arith, within, length-outers root edges)

    up_place : (j : ℕ) → j ≤ i + 1 → j < length (outers root edges)
    up_place j low = omega (arith, low, within, length-outers root edges)

    -- a top at or before this tree edge is in the path only as its head
    only_head : (j n : ℕ) → j ≤ i + 1 → get_or (outers root edges) j 0 ≡ n → Contains nodes n → n ≡ head
    only_head j n low at in_n = elim (is.spot n in_n) [
      | inl here ↦ here
      | inr s ↦ elim s.is [
        | inl inn ↦ absurd (shape.tops.apart j s.at (up_place j low) (omega (arith, s.low, length-inners edges)) (at ∙ inn ∙ sym (inner_at edges s.at s.low)))
        | inr out ↦ absurd (omega (
          arith,
          low,
          s.late,
          shape.tops.outer_differ j (suc s.at) (up_place j low) (omega (arith, s.low, length-outers root edges))
              (at ∙ out ∙ sym (outer_at root edges s.at s.low)),
        ))
      ]
    ]

    no_inner : (n : ℕ) → get_or (inners edges) i 0 ≡ n → Contains nodes n → ⊥
    no_inner n at in_n = elim (is.spot n in_n) [
      | inl here ↦ shape.tops.apart is.head_at.0 i (up_place is.head_at.0 is.head_at.1) low_in (is.head_at.2 ∙ sym here ∙ sym at)
      | inr s ↦ elim s.is [
        | inl inn ↦ absurd (omega (
          arith,
          s.late,
          shape.tops.inner_differ i s.at low_in (omega (arith, s.low, length-inners edges)) (at ∙ inn ∙ sym (inner_at edges s.at s.low)),
        ))
        | inr out ↦ shape.tops.apart (suc s.at) i (omega (arith, s.low, length-outers root edges)) low_in (outer_at root edges s.at s.low ∙ sym out ∙ sym at)
      ]
    ]

    -- a top of the path stays one of a longer path
    spot_more : (more : List ℕ) (n : ℕ) → ((m : ℕ) → Contains nodes m → Contains more m) → IsSpot edges nodes (i + 1) n → IsSpot edges more i n
    spot_more more n old s = grind (arith, s.at, s.late, s.low, old, s.inner, s.outer, s.is)

    -- the tree edge is on neither side
    pub IsTreeCycle-skip : tree_edge.outer ≢ tail → tree_edge.outer ≢ head → IsTreeCycle f root edges cycle i head tail
    IsTreeCycle-skip away_tail away_head =
        grind (arith, spot_more, below, is.path, is.odd, is.differ, is.spot, away_head, is.head_at, away_tail, is.tail_at, is.some)
      where
        below : (n : ℕ) → tree_edge.outer ≢ n → ((j : ℕ) × (j ≤ i + 1) × (get_or (outers root edges) j 0 ≡ n)) → (j : ℕ) × (j ≤ i) ×
            (get_or (outers root edges) j 0 ≡ n)
        below n away at = elim (cases_eq at.0 (suc i)) [
          | inl last ↦ absurd (away (sym (outer_at root edges i within) ∙ ap (λ j. get_or (outers root edges) j 0) (sym last) ∙ at.2))
          | inr before ↦ (at.0, omega (arith, at.1, before), at.2)
        ]

    -- the tree edge ends the path at its tail
    module _ (same : tree_edge.outer ≡ tail) (next : ℕ) (top_next : IsTop f next) (in_next : Holds f next tree_edge.up.to) where
      abbrev more : List Link
      more = down_link tree_edge ∷ up_link tree_edge ∷ []

      nodes_are : nodes_of (cycle ++ more) ≡ nodes ++ (tree_edge.outer ∷ tree_edge.inner ∷ [])
      nodes_are = map-append (λ (l : Link). l.node) cycle more

      next_at : (j : ℕ) × (j ≤ i) × (get_or (outers root edges) j 0 ≡ next)
      next_at = let up = (shape.edge i within).up_to in (
        up.0,
        up.1,
        top-apart f fam (get_or (outers root edges) up.0 0) next tree_edge.up.to
            (shape.tops.outer_tops up.0 (up_place up.0 (omega (arith, up.1)))) top_next up.2 in_next,
      )

      in_out : tree_edge.outer ≢ tree_edge.inner
      in_out e = shape.tops.apart (suc i) i low_out low_in (outer_at root edges i within ∙ e ∙ sym (inner_at edges i within))

      -- the path goes on over one tree edge at its tail
      pub IsTreeCycle-tail : IsTreeCycle f root edges (cycle ++ more) i head next
      IsTreeCycle-tail =
          record {
            within = omega (arith, within);
            path = IsPath-append f cycle more head tail next is.path (
              same,
              subst (λ n. IsTop f n) (outer_at root edges i within ∙ same) (shape.tops.outer_tops (suc i) low_out),
              subst (λ n. Holds f n tree_edge.pair.to) same ((shape.edge i within).pair_to),
              (
                tree_edge.inner,
                (shape.edge i within).pair_from,
                (refl, subst (λ n. IsTop f n) (inner_at edges i within) (shape.tops.inner_tops i low_in), shape.up_from i within, (next, in_next, refl)),
              ),
            );
            odd = omega (arith, length-append cycle more, is.odd);
            differ = subst (λ xs. Differ xs) (sym nodes_are)
                (Differ-append nodes (tree_edge.outer ∷ tree_edge.inner ∷ []) is.differ (Differ-two tree_edge.outer tree_edge.inner in_out)
                (λ n old new. elim (Contains-two tree_edge.outer tree_edge.inner n new) [
                  | inl out ↦ apart (sym (only_head (suc i) n (omega arith) (outer_at root edges i within ∙ sym out) old) ∙ out ∙ same)
                  | inr inn ↦ no_inner n (inner_at edges i within ∙ sym inn) old
                ]));
            spot = λ n in_n. elim (Contains-append_cases nodes (tree_edge.outer ∷ tree_edge.inner ∷ []) n (subst (λ xs. Contains xs n) nodes_are in_n)) [
              | inl old ↦ elim (is.spot n old) [ inl here ↦ inl here | inr s ↦ inr (spot_more (nodes_of (cycle ++ more)) n in_old s) ]
              | inr new ↦ inr (record {
                at = i;
                late = omega arith;
                low = within;
                inner = in_new tree_edge.inner (1, omega arith, refl);
                outer = in_new tree_edge.outer (0, omega arith, refl);
                is = elim (Contains-two tree_edge.outer tree_edge.inner n new) [ inl out ↦ inr out | inr inn ↦ inl inn ];
              })
            ];
            head_at = elim (cases_eq is.head_at.0 (suc i)) [
              | inl last ↦ absurd (apart (sym is.head_at.2 ∙ ap (λ j. get_or (outers root edges) j 0) last ∙ outer_at root edges i within ∙ same))
              | inr before ↦ (is.head_at.0, omega (arith, is.head_at.1, before), is.head_at.2)
            ];
            tail_at = next_at;
            some = λ _. omega (arith, length-append cycle more);
          }
        where
          in_new : (n : ℕ) → Contains (tree_edge.outer ∷ tree_edge.inner ∷ []) n → Contains (nodes_of (cycle ++ more)) n
          in_new n h = subst (λ xs. Contains xs n) (sym nodes_are) (Contains-append_right nodes (tree_edge.outer ∷ tree_edge.inner ∷ []) n h)

          in_old : (n : ℕ) → Contains nodes n → Contains (nodes_of (cycle ++ more)) n
          in_old n h = subst (λ xs. Contains xs n) (sym nodes_are) (Contains-append_left nodes (tree_edge.outer ∷ tree_edge.inner ∷ []) n h)

    -- the tree edge begins the path at its head
    module _ (same : tree_edge.outer ≡ head) (next : ℕ) (top_next : IsTop f next) (in_next : Holds f next tree_edge.up.to) where
      abbrev longer : List Link
      longer = step_link next tree_edge ∷ pair_link tree_edge ∷ cycle

      up_at : (j : ℕ) × (j ≤ i) × (get_or (outers root edges) j 0 ≡ next)
      up_at = let up = (shape.edge i within).up_to in (
        up.0,
        up.1,
        top-apart f fam (get_or (outers root edges) up.0 0) next tree_edge.up.to
            (shape.tops.outer_tops up.0 (up_place up.0 (omega (arith, up.1)))) top_next up.2 in_next,
      )

      next_differs : (j : ℕ) → suc i ≤ j → j < length (outers root edges) → get_or (outers root edges) j 0 ≢ next
      next_differs j from low e = grind (arith, up_place, shape.tops.outer_differ)

      next_inner : (j : ℕ) → j < length edges → next ≢ (tree_edge_at edges j).inner
      next_inner j low e = shape.tops.apart up_at.0 j (up_place up_at.0 (omega (arith, up_at.1))) (omega (arith, low, length-inners edges))
          (up_at.2 ∙ e ∙ sym (inner_at edges j low))

      head_in : (path : List Link) → length path % 2 ≡ 1 → IsPath f path head tail → Contains (nodes_of path) head
      head_in [] odd p = absurd (omega (arith, odd))
      head_in (l ∷ rest) odd p = (0, omega arith, p.0)

      -- the path goes on over one tree edge at its head
      pub IsTreeCycle-head : IsTreeCycle f root edges longer i next tail
      IsTreeCycle-head =
          record {
            within = omega (arith, within);
            path = (
              refl,
              top_next,
              in_next,
              (
                tree_edge.inner,
                shape.up_from i within,
                (
                  refl,
                  subst (λ n. IsTop f n) (inner_at edges i within) (shape.tops.inner_tops i low_in),
                  (shape.edge i within).pair_from,
                  (head, subst (λ n. Holds f n tree_edge.pair.to) same ((shape.edge i within).pair_to), is.path),
                ),
              ),
            );
            odd = omega (arith, is.odd);
            differ = Differ-append (next ∷ tree_edge.inner ∷ []) nodes (Differ-two next tree_edge.inner (next_inner i within)) is.differ
                (λ n new old. elim (Contains-two next tree_edge.inner n new) [
                  | inl up ↦ next_differs (suc i) (omega arith) low_out
                      (outer_at root edges i within ∙ same ∙ sym (only_head up_at.0 n (omega (arith, up_at.1)) (up_at.2 ∙ sym up) old) ∙ up)
                  | inr inn ↦ no_inner n (inner_at edges i within ∙ sym inn) old
                ]);
            spot = λ n in_n. elim (Contains-append_cases (next ∷ tree_edge.inner ∷ []) nodes n in_n) [
              | inl new ↦ elim (Contains-two next tree_edge.inner n new) [ inl up ↦ inl up | inr inn ↦ inr (here n (inl inn)) ]
              | inr old ↦ elim (is.spot n old) [
                | inl head ↦ inr (here n (inr (head ∙ sym same)))
                | inr s ↦ inr (spot_more (nodes_of longer) n (Contains-append_right (next ∷ tree_edge.inner ∷ []) nodes) s)
              ]
            ];
            head_at = up_at;
            tail_at = elim (cases_eq is.tail_at.0 (suc i)) [
              | inl last ↦ absurd (apart (sym same ∙ sym (outer_at root edges i within) ∙ ap (λ j. get_or (outers root edges) j 0) (sym last) ∙ is.tail_at.2))
              | inr before ↦ (is.tail_at.0, omega (arith, is.tail_at.1, before), is.tail_at.2)
            ];
            some = λ _. omega arith;
          }
        where
          here : (n : ℕ) → (n ≡ tree_edge.inner) ⊎ (n ≡ tree_edge.outer) → IsSpot edges (nodes_of longer) i n
          here n is_one = record {
            at = i;
            late = omega arith;
            low = within;
            inner = (1, omega arith, refl);
            outer = Contains-append_right (next ∷ tree_edge.inner ∷ []) nodes tree_edge.outer
                (subst (λ n. Contains nodes n) (sym same) (head_in cycle is.odd is.path));
            is = is_one;
          }
