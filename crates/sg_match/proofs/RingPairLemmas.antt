-- Pairing the nodes of a ring two by two.
use Rattle.std.proofs.Common.{List, Option, Some, ap, arith, eq-eqb, inl, inr, length, refl, set, subst, sym, ℕ, ◌%◌, ◌+◌, ◌-◌, ◌<◌, ◌∙◌, ◌≡◌, ◌≢◌, ◌≤◌, ◌⊎◌}
use Rattle.std.proofs.Math.ListN.{length-set}
use Rattle.std.proofs.lemmas.Bool.{cases_eq, ne_eqb}
use Rattle.std.proofs.lemmas.List.{get_or-set_other, get_or-set_same}
use Rattle.sg_arena.specs.Family.{Family, Holds, IsCycle, link_at}
use Rattle.sg_arena.specs.declared.Link.{Link}
use Rattle.sg_match.proofs.NodeLemmas.{length-nodes, node_at_place}
use Rattle.sg_match.proofs.PairLemmas.{twice_first, twice_other, twice_second}
use Rattle.sg_match.proofs.RotateLemmas.{cases_after}
use Rattle.sg_match.specs.Pairs.{edge_of_link, flipped, pair_of}
use Rattle.sg_base.specs.Sets.{Differ}
use Rattle.sg_match.specs.Path.{nodes_of}
use Rattle.sg_match.specs.Rings.{IsRingPaired, ring_pair}
use Rattle.sg_match.specs.declared.Edge.{Edge}

module _ (ring : List Link) (pair : Edge) (i : ℕ) where
  -- the pair at an odd place is the link there
  pub ring_pair-odd : i % 2 ≡ 1 → ring_pair ring pair i ≡ edge_of_link (link_at ring i)
  ring_pair-odd odd = let some : i ≢ 0 = λ none. absurd (omega (arith, odd, none)) in rw (ne_eqb i 0 some, eq-eqb (i % 2) 1 odd) refl

  -- at any other but the first it is the link before, the other way round
  pub ring_pair-even : i ≢ 0 → i % 2 ≢ 1 → ring_pair ring pair i ≡ flipped (edge_of_link (link_at ring (i - 1)))
  ring_pair-even some even = rw (ne_eqb i 0 some, ne_eqb (i % 2) 1 even) refl

-- this many nodes have their pairs
pub record IsRingPairedTo (old new : List (Option Edge)) (ring : List Link) (pair : Edge) (count : ℕ) : Type 0 where
  pub same : length new ≡ length old
  pub each : (i : ℕ) → i < count → i < length ring → pair_of new (link_at ring i).node ≡ Some (ring_pair ring pair i)
  pub others : (n : ℕ) → ((i : ℕ) → i < length ring → (link_at ring i).node ≢ n) → pair_of new n ≡ pair_of old n

module _ (old : List (Option Edge)) (ring : List Link) (pair : Edge) (some : 0 < length ring)
    (names : (i : ℕ) → i < length ring → (link_at ring i).node < length old) (differ : Differ (nodes_of ring)) where
  apart : (i j : ℕ) → i < length ring → j < length ring → i ≢ j → (link_at ring i).node ≢ (link_at ring j).node
  apart i j low_i low_j away same =
      away (differ i j (omega (arith, low_i, length-nodes ring)) (omega (arith, low_j, length-nodes ring))
      (node_at_place ring i low_i ∙ same ∙ sym (node_at_place ring j low_j)))

  -- at the start the first node has the blossom's pair
  pub IsRingPairedTo-init : IsRingPairedTo old (set old (link_at ring 0).node (Some pair)) ring pair 1
  IsRingPairedTo-init = grind (arith, length-set, get_or-set_same, get_or-set_other)

  -- two nodes more are paired along their link
  pub IsRingPairedTo-more : (now : List (Option Edge)) (k : ℕ) → k % 2 ≡ 1 → k + 1 < length ring → IsRingPairedTo old now ring pair k →
      IsRingPairedTo old (set (set now (link_at ring k).node (Some (edge_of_link (link_at ring k)))) (link_at ring (k + 1)).node
      (Some (flipped (edge_of_link (link_at ring k))))) ring pair (k + 2)
  IsRingPairedTo-more now k odd low was = record {
    same = length-set (set now s (Some edge)) t (Some (flipped edge)) ∙ length-set now s (Some edge) ∙ was.same;
    each = λ i below within. elim (cases_eq i k) [
      | inl here ↦ ap (λ j. pair_of new (link_at ring j).node) here
          ∙ twice_first now s t (Some edge) (Some (flipped edge)) (omega (arith, names k in_s, was.same)) (apart k (k + 1) in_s low (λ e. omega arith))
          ∙ ap (λ e. Some e) (sym (ring_pair-odd ring pair k odd)) ∙ ap (λ j. Some (ring_pair ring pair j)) (sym here)
      | inr away_s ↦ elim (cases_eq i (k + 1)) [
        | inl next ↦
            let back : k ≡ k + 1 - 1 = omega arith in
            ap (λ j. pair_of new (link_at ring j).node) next
            ∙ twice_second now s t (Some edge) (Some (flipped edge)) (omega (arith, names (k + 1) low, was.same))
            ∙ ap (λ j. Some (flipped (edge_of_link (link_at ring j)))) back
            ∙ ap (λ e. Some e) (sym (ring_pair-even ring pair (k + 1) (λ e. omega arith) (λ e. omega (arith, odd, e))))
            ∙ ap (λ j. Some (ring_pair ring pair j)) (sym next)
        | inr away_t ↦ twice_other now s t (link_at ring i).node (Some edge) (Some (flipped edge)) (apart i k within in_s away_s)
            (apart i (k + 1) within low away_t)
            ∙ was.each i (omega (arith, below, away_s, away_t)) within
      ]
    ];
    others = λ n away. twice_other now s t n (Some edge) (Some (flipped edge)) (λ e. away k in_s (sym e)) (λ e. away (k + 1) low (sym e)) ∙ was.others n away;
  }
    where
      s : ℕ
      s = (link_at ring k).node

      t : ℕ
      t = (link_at ring (k + 1)).node

      edge : Edge
      edge = edge_of_link (link_at ring k)

      new : List (Option Edge)
      new = set (set now s (Some edge)) t (Some (flipped edge))

      in_s : k < length ring
      in_s = omega (arith, low)

  -- at the end the ring is paired
  pub IsRingPaired-done : (now : List (Option Edge)) (k : ℕ) → length ring ≤ k → IsRingPairedTo old now ring pair k → IsRingPaired old now ring pair
  IsRingPaired-done now k whole was = record { each = λ i low. was.each i (omega (arith, low, whole)) low; others = was.others }

-- the node at a place of a ring is paired with another of it, along a link
pub record IsMatePlace (f : Family) (ring : List Link) (pair : Edge) (i : ℕ) : Type 0 where
  pub other : ℕ
  pub low : other < length ring
  pub differs : i ≢ other
  pub back : ring_pair ring pair other ≡ flipped (ring_pair ring pair i)
  pub to : Holds f (link_at ring other).node (ring_pair ring pair i).to
  pub along : ℕ
  pub low_along : along < length ring
  pub link : (ring_pair ring pair i ≡ edge_of_link (link_at ring along)) ⊎ (ring_pair ring pair i ≡ flipped (edge_of_link (link_at ring along)))

module _ (f : Family) (ring : List Link) (round : IsCycle f ring) (pair : Edge) where
  follows : (i j : ℕ) → i + 1 ≡ j → j < length ring → Holds f (link_at ring j).node (link_at ring i).to
  follows i j next low = grind (arith, cases_after (length ring) i, round.to)

  -- each node but the first
  pub ring_side : (i : ℕ) → i < length ring → i ≢ 0 → IsMatePlace f ring pair i
  ring_side i low some = elim (cases_eq (i % 2) 1) [
    | inl odd ↦
        let next : i + 1 < length ring = omega (arith, low, odd, round.odd) in
        let is = ring_pair-odd ring pair i odd in
        let back : i + 1 - 1 ≡ i = omega arith in
        record {
          other = i + 1;
          low = next;
          differs = λ e. omega (arith, e);
          back = ring_pair-even ring pair (i + 1) (λ e. omega arith) (λ e. omega (arith, odd, e)) ∙ ap (λ k. flipped (edge_of_link (link_at ring k))) back
              ∙ ap (λ e. flipped e) (sym is);
          to = subst (λ (e : Edge). Holds f (link_at ring (i + 1)).node e.to) (sym is) (follows i (i + 1) refl next);
          along = i;
          low_along = low;
          link = inl is;
        }
    | inr even ↦
        let is = ring_pair-even ring pair i some even in
        let before : i - 1 < length ring = omega (arith, low) in
        record {
          other = i - 1;
          low = before;
          differs = λ e. omega (arith, e, some);
          back = ring_pair-odd ring pair (i - 1) (omega (arith, some, even)) ∙ ap (λ e. flipped e) (sym is);
          to = subst (λ (e : Edge). Holds f (link_at ring (i - 1)).node e.to) (sym is) (round.from (i - 1) before);
          along = i - 1;
          low_along = before;
          link = inr is;
        }
  ]

  -- a node's pair leads from a leaf of it
  pub ring_from : Holds f (link_at ring 0).node pair.from → (i : ℕ) → i < length ring → Holds f (link_at ring i).node (ring_pair ring pair i).from
  ring_from base i low = grind (arith, cases_eq i 0, cases_eq (i % 2) 1, ring_pair-odd, ring_pair-even, follows, round.from)
