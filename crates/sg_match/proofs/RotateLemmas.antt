-- A ring read from another place on.
use Rattle.std.proofs.Common.{List, [], ap, arith, cond, eq-eqb, inl, inr, length, length-append, ltb, refl, subst, sym, take, ℕ, ◌%◌, ◌+◌, ◌++◌, ◌-◌}
use Rattle.std.proofs.Common.{◌<◌, ◌∙◌, ◌∷◌, ◌≡◌, ◌≢◌, ◌≤◌, ◌⊎◌}
use Rattle.std.proofs.lemmas.Bool.{cases_eq, cases_lt, le-ltb, lt-ltb, ne_eqb}
use Rattle.std.proofs.lemmas.List.{get_or-append_right, get_or-drop, get_or-take, get_or_append_left, length-drop, length-take-le, take_all, take_more}
use Rattle.sg_arena.proofs.FamilyLemmas.{after_within, alive_from_holds, name_bound}
use Rattle.sg_arena.specs.Family.{Family, Holds, IsChildAt, IsCycle, IsFamily, after_index, blank_link, cycle_of, link_at}
use Rattle.sg_arena.specs.declared.Link.{Link}
use Rattle.sg_slack.proofs.DistinctLemmas.{short}
use Rattle.sg_match.proofs.NodeLemmas.{length-nodes, node_at_place}
use Rattle.sg_base.specs.Sets.{Differ}
use Rattle.sg_match.specs.Path.{nodes_of}
use Rattle.sg_match.specs.Rings.{rotated}

-- the place that stands j places behind place i of n, where both are below n
abbrev pub wrapped : ℕ → ℕ → ℕ → ℕ
wrapped n i j = cond {A = ℕ} (ltb (i + j) n) (i + j) (i + j - n)

-- a place counted round a ring is the sum, or that less the length
pub cases_wrapped : (n i j : ℕ) → ((i + j < n) × (wrapped n i j ≡ i + j)) ⊎ ((n ≤ i + j) × (wrapped n i j ≡ i + j - n))
cases_wrapped n i j = grind (arith, cases_lt (i + j) n, lt-ltb, le-ltb)

-- it is a place of the ring
pub wrapped-within : (n i j : ℕ) → i < n → j < n → wrapped n i j < n
wrapped-within n i j low_i low_j = grind (arith, cases_wrapped n i j)

-- different steps lead to different places
pub wrapped-differ : (n i j k : ℕ) → i < n → j < n → k < n → wrapped n i j ≡ wrapped n i k → j ≡ k
wrapped-differ n i j k low_i low_j low_k same = grind (arith, cases_wrapped n i j, cases_wrapped n i k)

-- the place that follows
pub cases_after : (n i : ℕ) → ((i + 1 ≡ n) × (after_index n i ≡ 0)) ⊎ ((i + 1 ≢ n) × (after_index n i ≡ i + 1))
cases_after n i = grind (arith, cases_eq (i + 1) n, eq-eqb, ne_eqb)

wrapped-after : (n i j : ℕ) → i < n → j < n → after_index n (wrapped n i j) ≡ wrapped n i (after_index n j)
wrapped-after n i j low_i low_j = grind (arith, cases_wrapped n i j, cases_after n (wrapped n i j), cases_after n j, cases_wrapped n i (after_index n j))

-- a ring read from another place is as long
pub length-rotated : (i : ℕ) (c : List Link) → i ≤ length c → length (rotated i c) ≡ length c
length-rotated i c low = grind (arith, length-append, length-drop, length-take-le)

-- what stands at a place of the rotated ring
pub link_at-rotated : (i : ℕ) (c : List Link) (j : ℕ) → i < length c → j < length c → link_at (rotated i c) j ≡ link_at c (wrapped (length c) i j)
link_at-rotated i c j low_i low_j = grind (arith, cases_wrapped (length c) i j, get_or_append_left, length-drop, get_or-drop, get_or-append_right, get_or-take)

-- the rotated ring begins at its place
pub first_rotated : (c : List Link) (start : ℕ) → start < length c → link_at (rotated start c) 0 ≡ link_at c start
first_rotated c start low = grind (arith, cases_wrapped (length c) start 0, link_at-rotated, low)

-- where in the rotated ring a place of the ring went
pub unwrapped : (n i k : ℕ) → i < n → k < n → (j : ℕ) × (j < n) × (wrapped n i j ≡ k)
unwrapped n i k low_i low_k = grind (arith, cases_lt k i, cases_wrapped n i (k + n - i), cases_wrapped n i (k - i))

-- each place of the ring has its place in the rotated one
pub from_ring : (i : ℕ) (c : List Link) (k : ℕ) → i < length c → k < length c → (j : ℕ) × (j < length (rotated i c)) × (link_at (rotated i c) j ≡ link_at c k)
from_ring i c k low_i low_k =
    let at = unwrapped (length c) i k low_i low_k in
    (at.0, omega (arith, at.1, length-rotated i c (omega (arith, low_i))), link_at-rotated i c at.0 low_i at.1 ∙ ap (λ m. link_at c m) at.2)

-- each of its places is one of the ring
pub to_ring : (i : ℕ) (c : List Link) (j : ℕ) → i < length c → j < length (rotated i c) → (k : ℕ) × (k < length c) × (link_at c k ≡ link_at (rotated i c) j)
to_ring i c j low_i low_j =
    let low : j < length c = omega (arith, low_j, length-rotated i c (omega (arith, low_i))) in
    (wrapped (length c) i j, wrapped-within (length c) i j low_i low, sym (link_at-rotated i c j low_i low))

-- a rotated cycle is a cycle
pub IsCycle-rotated : (f : Family) (c : List Link) (i : ℕ) → i < length c → IsCycle f c → IsCycle f (rotated i c)
IsCycle-rotated f c i low is =
    let n = length c in
    let count : length (rotated i c) ≡ n = length-rotated i c (omega (arith, low)) in
    record {
      long = omega (arith, is.long, count);
      odd = ap (λ m. m % 2) count ∙ is.odd;
      differ = λ j k in_j in_k same.
          let low_j : j < n = omega (arith, in_j, count) in
          let low_k : k < n = omega (arith, in_k, count) in
          wrapped-differ n i j k low low_j low_k (is.differ (wrapped n i j) (wrapped n i k) (wrapped-within n i j low low_j) (wrapped-within n i k low low_k)
          (sym (ap (λ (l : Link). l.node) (link_at-rotated i c j low low_j)) ∙ same ∙ ap (λ (l : Link). l.node) (link_at-rotated i c k low low_k)));
      from = λ j in_j.
          let low_j : j < n = omega (arith, in_j, count) in
          subst (λ (l : Link). Holds f l.node l.from) (sym (link_at-rotated i c j low low_j)) (is.from (wrapped n i j) (wrapped-within n i j low low_j));
      to = λ j in_j.
          let low_j : j < n = omega (arith, in_j, count) in
          let next : after_index n j < n = after_within n j low_j in
          let held = is.to (wrapped n i j) (wrapped-within n i j low low_j) in
          let here : link_at c (after_index n (wrapped n i j)) ≡ link_at (rotated i c) (after_index (length (rotated i c)) j) =
          ap (λ m. link_at c m) (wrapped-after n i j low low_j) ∙ sym (link_at-rotated i c (after_index n j) low next) ∙
          ap (λ m. link_at (rotated i c) (after_index m j)) (sym count) in
          subst (λ (l : Link). Holds f l.node (link_at (rotated i c) j).to) here
          (subst (λ (l : Link). Holds f (link_at c (after_index n (wrapped n i j))).node l.to) (sym (link_at-rotated i c j low low_j)) held);
    }

-- the nodes of a cycle differ
pub Differ-cycle : (f : Family) (c : List Link) → IsCycle f c → Differ (nodes_of c)
Differ-cycle f c is i j low_i low_j same = grind (arith, length-nodes, node_at_place, is.differ)

-- a cycle has no more links than there are names
pub cycle_room : (f : Family) (c : List Link) → IsCycle f c → length c ≤ length f.nodes
cycle_room f c is =
    let most : length (nodes_of c) ≤ length f.nodes =
    short (nodes_of c) (length f.nodes) (Differ-cycle f c is) (λ i low_i.
    let low : i < length c = omega (arith, low_i, length-nodes c) in
    subst (λ n. n < length f.nodes) (sym (node_at_place c i low))
    (name_bound f (link_at c i).node (alive_from_holds f (link_at c i).node (link_at c i).from (is.from i low)))) in
    omega (arith, most, length-nodes c)

-- the ring holds the links of the blossom's cycle from place i up to that of the node that is next
pub record IsTurning (f : Family) (blossom i : ℕ) (ring : List Link) (next : ℕ) : Type 0 where
  pub place : ℕ
  pub here : IsChildAt f blossom place next
  pub some : 1 ≤ length ring
  pub most : length ring ≤ length (cycle_of f blossom)
  pub items : ring ≡ take (length ring) (rotated i (cycle_of f blossom))
  pub turned : ((i + length ring < length (cycle_of f blossom)) × (place ≡ i + length ring)) ⊎
      ((length (cycle_of f blossom) ≤ i + length ring) × (place + length (cycle_of f blossom) ≡ i + length ring))

module _ (f : Family) (fam : IsFamily f) (blossom i child : ℕ) (at : IsChildAt f blossom i child) where
  turn_again : (ring : List Link) (next after : ℕ) (link : Link) → length ring < length (cycle_of f blossom) → (place : ℕ) →
      IsChildAt f blossom place next → ring ≡ take (length ring) (rotated i (cycle_of f blossom)) →
      ((i + length ring < length (cycle_of f blossom)) × (place ≡ i + length ring)) ⊎
      ((length (cycle_of f blossom) ≤ i + length ring) × (place + length (cycle_of f blossom) ≡ i + length ring)) →
      link ≡ link_at (cycle_of f blossom) place → IsChildAt f blossom (after_index (length (cycle_of f blossom)) place) after →
      IsTurning f blossom i (ring ++ link ∷ []) after
  turn_again ring next after link less place here items turned is follows =
      let count : length (ring ++ link ∷ []) ≡ length ring + 1 = length-append ring (link ∷ []) in
      let same_place : wrapped (length (cycle_of f blossom)) i (length ring) ≡ place = elim (cases_wrapped (length (cycle_of f blossom)) i (length ring)) [
        | inl a ↦ elim turned [
          | inl b ↦ omega (arith, a.0, a.1, b.0, b.1)
          | inr b ↦ omega (arith, a.0, a.1, b.0, b.1)
        ]
        | inr a ↦ elim turned [
          | inl b ↦ omega (arith, a.0, a.1, b.0, b.1)
          | inr b ↦ omega (arith, a.0, a.1, b.0, b.1)
        ]
      ] in
      let read : link_at (rotated i (cycle_of f blossom)) (length ring) ≡ link = link_at-rotated i (cycle_of f blossom) (length ring) at.within less ∙
      ap (λ k. link_at (cycle_of f blossom) k) same_place ∙ sym is in
      record {
        place = after_index (length (cycle_of f blossom)) place;
        here = follows;
        some = omega (arith, count);
        most = omega (arith, count, less);
        items =
            ap (λ (xs : List Link). xs ++ link ∷ []) items
            ∙ ap (λ (l : Link). take (length ring) (rotated i (cycle_of f blossom)) ++ l ∷ []) (sym read)
            ∙ sym (take_more (rotated i (cycle_of f blossom)) (length ring) blank_link
            (omega (arith, less, length-rotated i (cycle_of f blossom) (omega (arith, at.within)))))
            ∙ ap (λ m. take m (rotated i (cycle_of f blossom))) (sym count);
        turned = elim (cases_after (length (cycle_of f blossom)) place) [
          | inl a ↦ elim turned [
            | inl b ↦ inr (omega (arith, a.0, a.1, b.0, b.1, count), omega (arith, a.0, a.1, b.0, b.1, count))
            | inr b ↦ inr (omega (arith, a.0, a.1, b.0, b.1, count, less, at.within), omega (arith, a.0, a.1, b.0, b.1, count, less, at.within))
          ]
          | inr a ↦ elim turned [
            | inl b ↦ inl (omega (arith, a.0, a.1, b.0, b.1, count, here.within), omega (arith, a.0, a.1, b.0, b.1, count))
            | inr b ↦ inr (omega (arith, a.0, a.1, b.0, b.1, count), omega (arith, a.0, a.1, b.0, b.1, count))
          ]
        ];
      }

  -- the first link
  pub IsTurning-init : (next : ℕ) (link : Link) → link ≡ link_at (cycle_of f blossom) i →
      IsChildAt f blossom (after_index (length (cycle_of f blossom)) i) next → IsTurning f blossom i (link ∷ []) next
  IsTurning-init next link is follows =
      turn_again [] child next link (omega (arith, at.within)) i at refl (inl (omega (arith, at.within), omega arith)) is follows

  module _ (ring : List Link) (next : ℕ) (turning : IsTurning f blossom i ring next) where
    -- the way round isn't done before the child comes again
    pub turning-less : next ≢ child → length ring < length (cycle_of f blossom)
    turning-less differs =
        grind (arith, cases_lt (length ring) (length (cycle_of f blossom)), turning.place, turning.turned, turning.most, differs, turning.here.here, at.here)

    -- one child more on the way round
    pub IsTurning-more : next ≢ child → (after : ℕ) (link : Link) → link ≡ link_at (cycle_of f blossom) turning.place →
        IsChildAt f blossom (after_index (length (cycle_of f blossom)) turning.place) after → IsTurning f blossom i (ring ++ link ∷ []) after
    IsTurning-more differs after link is follows =
        turn_again ring next after link (turning-less differs) turning.place turning.here turning.items turning.turned is follows

    -- where the child comes again, the whole cycle is listed
    pub IsTurning-done : next ≡ child → ring ≡ rotated i (cycle_of f blossom)
    IsTurning-done same =
        let back : turning.place ≡ i = (fam.cycles blossom (omega (arith, at.within))).differ turning.place i turning.here.within at.within
        (turning.here.here ∙ same ∙ sym at.here) in
        let whole : length (cycle_of f blossom) ≤ length ring = elim turning.turned [
          | inl b ↦ absurd (omega (arith, b.0, b.1, back, turning.some))
          | inr b ↦ omega (arith, b.0, b.1, back)
        ] in
        turning.items ∙ take_all (length ring) (rotated i (cycle_of f blossom))
        (omega (arith, whole, length-rotated i (cycle_of f blossom) (omega (arith, at.within))))
