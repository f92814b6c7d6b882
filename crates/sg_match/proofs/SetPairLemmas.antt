-- Each set has one pair, that of its blossom or one with a sibling.
use Rattle.std.proofs.Common.{◌≡◌, ◌≢◌, ◌⊎◌, ℕ, zero, suc, ◌<◌, List, length, Option, Some, refl, sym, ap, ◌∙◌, subst, inl, inr, arith}
use Rattle.std.proofs.lemmas.Option.{same_Some}
use Rattle.std.proofs.lemmas.Bool.{cases_eq}
use Rattle.sg_arena.proofs.FamilyLemmas.{top-no_child}
use Rattle.sg_base.proofs.ListLaws.{cases_option, place_of_any, some≢none}
use Rattle.sg_arena.specs.Family.{Family, Holds, IsAlive, IsCycle, IsFamily, IsTop, blank_link, cycle_of, holds, link_at}
use Rattle.sg_arena.specs.declared.Link.{Link}
use Rattle.sg_match.proofs.AboveLemmas.{from_above, one_parent}
use Rattle.sg_match.proofs.RingPairLemmas.{IsMatePlace, ring_from, ring_side}
use Rattle.sg_match.proofs.RotateLemmas.{IsCycle-rotated, first_rotated, from_ring, to_ring}
use Rattle.sg_match.specs.MatePairs.{IsInside, IsSetPairAt, IsSetPair}
use Rattle.sg_match.specs.Pairs.{AllPaired, IsPaired, edge_of_link, flipped, pair_of}
use Rattle.sg_match.specs.Rings.{ring_pair, rotated}
use Rattle.sg_match.specs.declared.Edge.{Edge}

-- a child's pair that is one with another child, along a link
pub record HasMate (f : Family) (pairs : List (Option Edge)) (b i : ℕ) (p : Edge) : Type 0 where
  pub other : ℕ
  pub low : other < length (cycle_of f b)
  pub differs : i ≢ other
  pub back : IsSetPair f pairs (link_at (cycle_of f b) other).node (flipped p)
  pub to : Holds f (link_at (cycle_of f b) other).node p.to
  pub along : ℕ
  pub low_along : along < length (cycle_of f b)
  pub link : (p ≡ edge_of_link (link_at (cycle_of f b) along)) ⊎ (p ≡ flipped (edge_of_link (link_at (cycle_of f b) along)))

module _ (f : Family) (fam : IsFamily f) where
  abbrev ring_of : ℕ → ℕ → List Link
  ring_of b start = rotated start (cycle_of f b)

  round : (b start : ℕ) → start < length (cycle_of f b) → IsCycle f (ring_of b start)
  round b start low = IsCycle-rotated f (cycle_of f b) start low (fam.cycles b (omega (arith, low)))

  first_holds : (b start u : ℕ) → start < length (cycle_of f b) → Holds f (link_at (cycle_of f b) start).node u → Holds f (link_at (ring_of b start) 0).node u
  first_holds b start u low held = subst (λ (l : Link). Holds f l.node u) (sym (first_rotated (cycle_of f b) start low)) held

  -- a child's pair leads from a leaf of it
  pub inside_from : (b : ℕ) (q : Edge) (n : ℕ) (p : Edge) → IsInside f b q n p → Holds f n p.from
  inside_from b q n p is = grind (arith, ring_from, round, first_holds, is.is, is.start, is.place, is.here, is.low, q.from, is.base, is.within)

  -- it is the child of some place
  inside_place : (b : ℕ) (q : Edge) (n : ℕ) (p : Edge) → IsInside f b q n p → (i : ℕ) × (i < length (cycle_of f b)) × ((link_at (cycle_of f b) i).node ≡ n)
  inside_place b q n p is = let at = to_ring is.start (cycle_of f b) is.place is.low is.within in
      (at.0, at.1, ap (λ (l : Link). l.node) at.2 ∙ is.here)

  -- a blossom's pair gives each child one pair
  inside_one : (b : ℕ) (q : Edge) (n : ℕ) (p r : Edge) → IsInside f b q n p → IsInside f b q n r → p ≡ r
  inside_one b q n p r is also =
      let same : also.start ≡ is.start = fam.disjoint b also.start is.start q.from also.low is.low also.base is.base in
      let ring = ring_of b is.start in
      let within : also.place < length ring = subst (λ k. also.place < length (ring_of b k)) same also.within in
      let here : (link_at ring also.place).node ≡ n = subst (λ k. (link_at (ring_of b k) also.place).node ≡ n) same also.here in
      let place : is.place ≡ also.place = (round b is.start is.low).differ is.place also.place is.within within (is.here ∙ sym here) in
      is.is ∙ ap (λ k. ring_pair ring q k) place ∙ ap (λ k. ring_pair (ring_of b k) q also.place) (sym same) ∙ sym also.is

  module _ (pairs : List (Option Edge)) where
    -- each set has one pair
    one_at : (d e n : ℕ) (p r : Edge) → IsSetPairAt f pairs d n p → IsSetPairAt f pairs e n r → p ≡ r
    one_at zero zero n p r is also = same_Some _ _ (sym is.1 ∙ also.1)
    one_at zero (suc e) n p r is also = let at = inside_place also.0 also.1 n r also.3 in absurd (top-no_child f fam n also.0 at.0 is.0 at.1 at.2)
    one_at (suc d) zero n p r is also = let at = inside_place is.0 is.1 n p is.3 in absurd (top-no_child f fam n is.0 at.0 also.0 at.1 at.2)
    one_at (suc d) (suc e) n p r is also =
        let a = inside_place is.0 is.1 n p is.3 in
        let c = inside_place also.0 also.1 n r also.3 in
        let same : also.0 ≡ is.0 = one_parent f fam also.0 is.0 c.0 a.0 c.1 a.1 (c.2 ∙ sym a.2) in
        let there : IsSetPairAt f pairs e is.0 also.1 = subst (λ b. IsSetPairAt f pairs e b also.1) same also.2 in
        let inside : IsInside f is.0 also.1 n r = subst (λ b. IsInside f b also.1 n r) same also.3 in
        let pair : is.1 ≡ also.1 = one_at d e is.0 is.1 also.1 is.2 there in
        inside_one is.0 is.1 n p r is.3 (subst (λ q. IsInside f is.0 q n r) (sym pair) inside)

    pub one_pair : (n : ℕ) (p r : Edge) → IsSetPair f pairs n p → IsSetPair f pairs n r → p ≡ r
    one_pair n p r is also = one_at is.0 also.0 n p r is.1 also.1

    -- a top's pair is its own
    pub pair_at_top : (t : ℕ) (p : Edge) → IsTop f t → IsSetPair f pairs t p → pair_of pairs t ≡ Some p
    pair_at_top t p top is = go is.0 is.1
      where
        go : (d : ℕ) → IsSetPairAt f pairs d t p → pair_of pairs t ≡ Some p
        go zero at = at.1
        go (suc d) at = let k = inside_place at.0 at.1 t p at.3 in absurd (top-no_child f fam t at.0 k.0 top k.1 k.2)

    -- a blossom's pair gives its children theirs
    below : (b : ℕ) (q : Edge) (start place : ℕ) → IsSetPair f pairs b q → start < length (cycle_of f b) → Holds f (link_at (cycle_of f b) start).node q.from →
        place < length (ring_of b start) → IsSetPair f pairs (link_at (ring_of b start) place).node (ring_pair (ring_of b start) q place)
    below b q start place has low base within =
        (suc has.0, (b, q, has.1, record { start = start; low = low; base = base; place = place; within = within; here = refl; is = refl }))

    -- one child has the blossom's pair
    pub base_pair : (b : ℕ) (q : Edge) → 0 < length (cycle_of f b) → IsSetPair f pairs b q → Holds f b q.from →
        (i : ℕ) × (i < length (cycle_of f b)) × IsSetPair f pairs (link_at (cycle_of f b) i).node q × Holds f (link_at (cycle_of f b) i).node q.from
    base_pair b q some has held =
        let at = place_of_any (λ link. holds f link.node q.from) (cycle_of f b) blank_link (sym (fam.union b q.from some) ∙ held) in
        let long : 0 < length (ring_of b at.0) = omega (arith, (round b at.0 at.1).long) in (
          at.0,
          at.1,
          subst (λ (l : Link). IsSetPair f pairs l.node q) (first_rotated (cycle_of f b) at.0 at.1) (below b q at.0 0 has at.1 at.2 long),
          at.2,
        )

    module _ (good : ℕ → ℕ → Type 0) (paired : IsPaired f good pairs) where
      -- a set's pair leads from a leaf of it
      pub pair_from : (n : ℕ) (p : Edge) → IsSetPair f pairs n p → Holds f n p.from
      pair_from n p is = go is.0 is.1
        where
          go : (d : ℕ) → IsSetPairAt f pairs d n p → Holds f n p.from
          go zero at = paired.own n p at.0 at.1
          go (suc d) at = inside_from at.0 at.1 n p at.3

      -- where all tops are paired each set has a pair
      pub some_pair : AllPaired f pairs → (n : ℕ) → IsAlive f n → (p : Edge) × IsSetPair f pairs n p
      some_pair all = from_above f fam (λ n. (p : Edge) × IsSetPair f pairs n p)
          (λ t top. elim (cases_option (pair_of pairs t)) [
            | inl none ↦ absurd (some≢none (pair_of pairs t) (all t top) none)
            | inr some ↦ (some.0, (zero, (top, some.1)))
          ])
          (λ b i low was.
          let held = pair_from b was.0 was.1 in
          let at = place_of_any (λ link. holds f link.node was.0.from) (cycle_of f b) blank_link (sym (fam.union b was.0.from (omega (arith, low))) ∙ held) in
          let kid = from_ring at.0 (cycle_of f b) i at.1 low in (
            ring_pair (ring_of b at.0) was.0 kid.0,
            subst (λ (l : Link). IsSetPair f pairs l.node (ring_pair (ring_of b at.0) was.0 kid.0)) kid.2 (below b was.0 at.0 kid.0 was.1 at.1 at.2 kid.1),
          ))

      -- a child's pair is the blossom's, or one with a sibling
      pub sides : (b i : ℕ) (p : Edge) → i < length (cycle_of f b) → IsSetPair f pairs (link_at (cycle_of f b) i).node p →
          IsSetPair f pairs b p ⊎ HasMate f pairs b i p
      sides b i p low is = go is.0 is.1
        where
          inside : (d : ℕ) (q : Edge) → IsSetPairAt f pairs d b q → IsInside f b q (link_at (cycle_of f b) i).node p →
              IsSetPair f pairs b p ⊎ HasMate f pairs b i p
          inside d q has at = elim (cases_eq at.place 0) [
            | inl none ↦ inl (subst (λ x. IsSetPair f pairs b x) (sym (at.is ∙ ap (λ k. ring_pair (ring_of b at.start) q k) none)) (d, has))
            | inr some ↦
                let ring = ring_of b at.start in
                let m : IsMatePlace f ring q at.place = ring_side f ring (round b at.start at.low) q at.place at.within (omega (arith, some)) in
                let other = to_ring at.start (cycle_of f b) m.other at.low m.low in
                let along = to_ring at.start (cycle_of f b) m.along at.low m.low_along in
                inr (record {
                  other = other.0;
                  low = other.1;
                  differs = λ same. m.differs ((round b at.start at.low).differ at.place m.other at.within m.low
                      (at.here ∙ ap (λ k. (link_at (cycle_of f b) k).node) same ∙ ap (λ (l : Link). l.node) other.2));
                  back = subst (λ (l : Link). IsSetPair f pairs l.node (flipped p)) (sym other.2)
                      (subst (λ x. IsSetPair f pairs (link_at ring m.other).node x) (m.back ∙ ap (λ x. flipped x) (sym at.is))
                      (below b q at.start m.other (d, has) at.low at.base m.low));
                  to = subst (λ (l : Link). Holds f l.node p.to) (sym other.2)
                      (subst (λ (x : Edge). Holds f (link_at ring m.other).node x.to) (sym at.is) m.to);
                  along = along.0;
                  low_along = along.1;
                  link = elim m.link [
                    | inl same ↦ inl (at.is ∙ same ∙ ap (λ (l : Link). edge_of_link l) (sym along.2))
                    | inr same ↦ inr (at.is ∙ same ∙ ap (λ (l : Link). flipped (edge_of_link l)) (sym along.2))
                  ];
                })
          ]

          go : (d : ℕ) → IsSetPairAt f pairs d (link_at (cycle_of f b) i).node p → IsSetPair f pairs b p ⊎ HasMate f pairs b i p
          go zero at = absurd (top-no_child f fam (link_at (cycle_of f b) i).node b i at.0 low refl)
          go (suc d) at =
              let k = inside_place at.0 at.1 (link_at (cycle_of f b) i).node p at.3 in
              let same : at.0 ≡ b = one_parent f fam at.0 b k.0 i k.1 low k.2 in
              inside d at.1 (subst (λ m. IsSetPairAt f pairs d m at.1) same at.2) (subst (λ m. IsInside f m at.1 (link_at (cycle_of f b) i).node p) same at.3)
