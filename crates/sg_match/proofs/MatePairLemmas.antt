-- Pairs of all sets make a matching that leaves each set once.
use Rattle.std.proofs.Common.{List, Option, ap, arith, get_or, inl, inr, length, subst, suc, sym, zero, ℕ, ◌<◌, ◌∙◌, ◌≡◌, ◌≢◌, ◌≤◌}
use Rattle.std.proofs.lemmas.Bool.{cases_lt}
use Rattle.sg_arena.proofs.FamilyLemmas.{alive_from_holds, child-covered, child-smaller, leaf-held, leaf_bound, size-positive, top-apart, top-covers}
use Rattle.sg_base.proofs.ListLaws.{place_of_any}
use Rattle.sg_arena.specs.Family.{Covers, Family, Holds, IsAlive, IsFamily, IsTop, blank_link, cycle_of, holds, leaf_count, leaf_node, leaves_of, link_at}
use Rattle.sg_match.proofs.AboveLemmas.{child_alive, from_above, leaf-covered, leaf-only, plain-covered, plain_is}
use Rattle.sg_match.proofs.SetPairLemmas.{base_pair, one_pair, pair_at_top, pair_from, sides, some_pair}
use Rattle.sg_slack.proofs.TightLemmas.{tight-back}
use Rattle.sg_match.specs.Feasible.{IsFeasible}
use Rattle.sg_slack.specs.Tight.{IsTight}
use Rattle.sg_slack.specs.Matching.{IsLeftOnce, IsMatching, IsPairing}
use Rattle.sg_match.specs.Pairs.{AllPaired, IsPaired, flipped}
use Rattle.sg_match.specs.MatePairs.{IsMate, IsSetPair}
use Rattle.sg_match.specs.declared.Edge.{Edge}

module _ (f : Family) (fam : IsFamily f) (good : ℕ → ℕ → Type 0) (pairs : List (Option Edge)) (paired : IsPaired f good pairs) (all : AllPaired f pairs) where
  abbrev Has : ℕ → Edge → Type 0
  Has n p = IsSetPair f pairs n p

  own : (n : ℕ) → IsAlive f n → (p : Edge) × IsSetPair f pairs n p
  own = some_pair f fam pairs good paired all

  own_from : (n : ℕ) (p : Edge) → Has n p → Holds f n p.from
  own_from = pair_from f fam pairs good paired

  one : (n : ℕ) (p q : Edge) → Has n p → Has n q → p ≡ q
  one = one_pair f fam pairs

  partner : (t : ℕ) (p : Edge) → IsTop f t → Has t p → (s : ℕ) × IsTop f s × (s ≢ t) × Holds f s p.to × Has s (flipped p)
  partner t p top is =
      let m = paired.other t p top (pair_at_top f fam pairs t p top is) in
      (m.0, m.1, m.2, m.3, (zero, (m.1, m.4)))

  -- a set's pair leads out of it
  leads_out : (n : ℕ) → IsAlive f n → (p : Edge) → Has n p → (p.to < leaf_count f) × (Holds f n p.to → ⊥)
  leads_out = from_above f fam (λ n. (p : Edge) → Has n p → (p.to < leaf_count f) × (Holds f n p.to → ⊥))
      (λ t top p is.
      let m = partner t p top is in
      (leaf_bound f fam m.0 p.to m.3, λ h. m.2 (top-apart f fam m.0 t p.to m.1 top m.3 h)))
      (λ b i low was p is. elim (sides f fam pairs good paired b i p low is) [
        | inl same ↦ let up = was p same in (up.0, λ h. up.1 (child-covered f fam b i low p.to h))
        | inr j ↦ (leaf_bound f fam (link_at (cycle_of f b) j.other).node p.to j.to, λ h. j.differs (fam.disjoint b i j.other p.to low j.low h j.to))
      ])

  -- the sets inside a set that hold the leaf from which its pair leads have this pair too
  passes_down : (fuel e s : ℕ) (q : Edge) → length (leaves_of f e) ≤ fuel → IsAlive f e → Has e q → Covers f e s → Holds f s q.from → Has s q
  passes_down zero e s q small alive is covers held = absurd (omega (arith, size-positive f fam e alive, small))
  passes_down (suc fuel) e s q small alive is covers held = elim (cases_lt 0 (length (cycle_of f e))) [
    | inl some ↦
        let base = base_pair f fam pairs e q some is (own_from e q is) in
        let c = (link_at (cycle_of f e) base.0).node in
        elim (fam.nested c s q.from base.3 held) [
          | inl over ↦ passes_down fuel c s q (omega (arith, child-smaller f fam e base.0 base.1, small)) (child_alive f fam e base.0 base.1) base.2 over held
          | inr under ↦ elim (fam.between e base.0 s base.1 covers under) [
            | inl same ↦ subst (λ n. Has n q) (sym same) is
            | inr same ↦ subst (λ n. Has n q) (sym same) base.2
          ]
        ]
    | inr plain ↦ subst (λ n. Has n q) (sym (plain-covered f fam e s q.from plain covers held (leaf_bound f fam s q.from held))) is
  ]

  -- a set that holds the other end of a pair, but not the first, has the pair the other way round
  way_back : (n : ℕ) → IsAlive f n → (p : Edge) → Has n p → (s : ℕ) → Holds f s p.to → (Holds f s p.from → ⊥) → Has s (flipped p)
  way_back = from_above f fam (λ n. (p : Edge) → Has n p → (s : ℕ) → Holds f s p.to → (Holds f s p.from → ⊥) → Has s (flipped p))
      (λ t top p is s held out.
      let m = partner t p top is in
      passes_down (length (leaves_of f m.0)) m.0 s (flipped p) (omega arith) m.1.alive m.4 (top-covers f fam m.0 s p.to m.1 m.3 held) held)
      (λ b i low was p is s held out. elim (sides f fam pairs good paired b i p low is) [
        | inl same ↦ was p same s held out
        | inr j ↦
            let c = (link_at (cycle_of f b) j.other).node in
            let from : Holds f b p.from = child-covered f fam b i low p.from (own_from (link_at (cycle_of f b) i).node p is) in
            elim (fam.nested c s p.to j.to held) [
              | inl over ↦ passes_down (length (leaves_of f c)) c s (flipped p) (omega arith) (child_alive f fam b j.other j.low) j.back over held
              | inr under ↦ elim (fam.nested b s p.to (child-covered f fam b j.other j.low p.to j.to) held) [
                | inl over_b ↦ elim (fam.between b j.other s j.low over_b under) [
                  | inl same ↦ absurd (out (subst (λ n. Holds f n p.from) (sym same) from))
                  | inr same ↦ subst (λ n. Has n (flipped p)) (sym same) j.back
                ]
                | inr under_b ↦ absurd (out (under_b p.from from))
              ]
            ]
      ])

  module _ (mates : List ℕ) (count : length mates ≡ leaf_count f) (written : (l : ℕ) → l < leaf_count f → IsMate f pairs l (get_or mates l 0)) where
    -- a set's pair is a pair of mates
    mate_of : (n : ℕ) (p : Edge) → IsAlive f n → Has n p → get_or mates p.from 0 ≡ p.to
    mate_of n p alive is =
        let from = own_from n p is in
        let low = leaf_bound f fam n p.from from in
        let s = leaf_node f p.from in
        let here = written p.from low in
        let down : Has s p = passes_down (length (leaves_of f n)) n s p (omega arith) alive is (leaf-covered f fam n p.from low from)
        (leaf-held f fam p.from low) in
        here.2 ∙ ap (λ (x : Edge). x.to) (one s here.0 p here.1 down)

    -- a leaf of a set whose mate is outside is the one from which the set's pair leads
    leaves_at : (fuel n u : ℕ) (p : Edge) → length (leaves_of f n) ≤ fuel → Has n p → Holds f n u → (Holds f n (get_or mates u 0) → ⊥) → u ≡ p.from
    leaves_at zero n u p small is held out = absurd (omega (arith, size-positive f fam n (alive_from_holds f n u held), small))
    leaves_at (suc fuel) n u p small is held out = elim (cases_lt 0 (length (cycle_of f n))) [
      | inl some ↦
          let at = place_of_any (λ link. holds f link.node u) (cycle_of f n) blank_link (sym (fam.union n u some) ∙ held) in
          let c = (link_at (cycle_of f n) at.0).node in
          let alive = child_alive f fam n at.0 at.1 in
          let mine = own c alive in
          let u_is : u ≡ mine.0.from = leaves_at fuel c u mine.0 (omega (arith, child-smaller f fam n at.0 at.1, small)) mine.1 at.2
          (λ h. out (child-covered f fam n at.0 at.1 (get_or mates u 0) h)) in
          elim (sides f fam pairs good paired n at.0 mine.0 at.1 mine.1) [
            | inl same ↦ u_is ∙ ap (λ (x : Edge). x.from) (one n mine.0 p same is)
            | inr j ↦
                let m : get_or mates u 0 ≡ mine.0.to = ap (λ k. get_or mates k 0) u_is ∙ mate_of c mine.0 alive mine.1 in
                absurd (out (subst (λ k. Holds f n k) (sym m) (child-covered f fam n j.other j.low mine.0.to j.to)))
          ]
      | inr plain ↦
          let low = leaf_bound f fam n u held in
          leaf-only f fam u p.from low (subst (λ m. Holds f m p.from) (sym (plain_is f fam n u plain held)) (own_from n p is))
    ]

    -- exactly one pair of mates leaves a set
    left_once : (n : ℕ) → IsAlive f n → IsLeftOnce f mates n
    left_once n alive =
        let mine = own n alive in
        let from = own_from n mine.0 mine.1 in
        let out = leads_out n alive mine.0 mine.1 in
        record {
          one = (
            mine.0.from,
            record {
              low = leaf_bound f fam n mine.0.from from;
              inside = from;
              outside = λ h. out.1 (subst (λ k. Holds f n k) (mate_of n mine.0 alive mine.1) h);
            },
          );
          only = λ u v at_u at_v.
              leaves_at (length (leaves_of f n)) n u mine.0 (omega arith) mine.1 at_u.inside at_u.outside
              ∙ sym (leaves_at (length (leaves_of f n)) n v mine.0 (omega arith) mine.1 at_v.inside at_v.outside);
        }

    -- the pair of a leaf's node
    at_leaf : (u : ℕ) → u < leaf_count f → (p : Edge) × Has (leaf_node f u) p × (p.from ≡ u) × (get_or mates u 0 ≡ p.to) × IsAlive f (leaf_node f u)
    at_leaf u low =
        let alive = alive_from_holds f (leaf_node f u) u (leaf-held f fam u low) in
        let here = written u low in
        (here.0, here.1, sym (leaf-only f fam u here.0.from low (own_from (leaf_node f u) here.0 here.1)), here.2, alive)

    is_pairing : IsPairing (leaf_count f) mates
    is_pairing = record {
      count = count;
      low = λ u low.
          let at = at_leaf u low in
          omega (arith, at.3, (leads_out (leaf_node f u) at.4 at.0 at.1).0);
      other = λ u low same.
          let at = at_leaf u low in
          (leads_out (leaf_node f u) at.4 at.0 at.1).1 (subst (λ k. Holds f (leaf_node f u) k) (sym same ∙ at.3) (leaf-held f fam u low));
      back = λ u low.
          let at = at_leaf u low in
          let out = leads_out (leaf_node f u) at.4 at.0 at.1 in
          let s = leaf_node f at.0.to in
          let held : Holds f s at.0.to = leaf-held f fam at.0.to out.0 in
          let away : Holds f s at.0.from →
          ⊥ = (λ h. out.1 (subst (λ k. Holds f (leaf_node f u) k) (sym at.2 ∙ sym (leaf-only f fam at.0.to at.0.from out.0 h)) (leaf-held f fam u low)))
          in
          let back : Has s (flipped at.0) = way_back (leaf_node f u) at.4 at.0 at.1 s held away in
          ap (λ k. get_or mates k 0) at.3 ∙ mate_of s (flipped at.0) (alive_from_holds f s at.0.to held) back ∙ at.2;
    }

module _ (f : Family) (cost : ℕ → ℕ → ℕ) (symmetric : (u v : ℕ) → u < leaf_count f → v < leaf_count f → cost u v ≡ cost v u) (feasible : IsFeasible f cost)
    (pairs : List (Option Edge)) (paired : IsPaired f (IsTight f cost) pairs) (all : AllPaired f pairs) where
  -- each pair is tight
  pub all_tight : (n : ℕ) → IsAlive f n → (p : Edge) → IsSetPair f pairs n p → IsTight f cost p.from p.to
  all_tight = from_above f feasible.family (λ n. (p : Edge) → IsSetPair f pairs n p → IsTight f cost p.from p.to)
      (λ t top p is. paired.tight t p top (pair_at_top f feasible.family pairs t p top is))
      (λ b i low was p is. elim (sides f feasible.family pairs (IsTight f cost) paired b i p low is) [
        | inl same ↦ was p same
        | inr j ↦
            let l = link_at (cycle_of f b) j.along in
            let tight : IsTight f cost l.from l.to = feasible.links b j.along j.low_along in
            elim j.link [
              | inl same ↦ subst (λ (x : Edge). IsTight f cost x.from x.to) (sym same) tight
              | inr same ↦
                  let cycle = feasible.family.cycles b (omega (arith, low)) in
                  let low_from = leaf_bound f feasible.family l.node l.from (cycle.from j.along j.low_along) in
                  let low_to = leaf_bound f feasible.family _ l.to (cycle.to j.along j.low_along) in
                  subst (λ (x : Edge). IsTight f cost x.from x.to) (sym same) (tight-back f cost l.from l.to (symmetric l.from l.to low_from low_to) tight)
            ]
      ])

  -- pairs of all sets make a matching that leaves each set once
  pub is_matching : (mates : List ℕ) → length mates ≡ leaf_count f → ((l : ℕ) → l < leaf_count f → IsMate f pairs l (get_or mates l 0)) →
      IsMatching f cost mates
  is_matching mates count written =
      let fam = feasible.family in
      record {
        pairing = is_pairing f fam (IsTight f cost) pairs paired all mates count written;
        tight = λ u low.
            let at = at_leaf f fam (IsTight f cost) pairs paired all mates count written u low in
            subst (λ k. IsTight f cost u k) (sym at.3) (subst (λ k. IsTight f cost k at.0.to) at.2 (all_tight (leaf_node f u) at.4 at.0 at.1));
        left = left_once f fam (IsTight f cost) pairs paired all mates count written;
      }
