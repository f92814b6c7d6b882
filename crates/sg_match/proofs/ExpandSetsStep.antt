-- What the expansion of an inner blossom of dual 0 makes of the engine's invariant.
use Rattle.std.proofs.Common.{◌≡◌, ◌≢◌, ◌⊎◌, ℕ, ◌<◌, List, [], length, Option, Some, None, sym, ap, ◌∙◌, subst, inl, inr, arith}
use Rattle.std.proofs.lemmas.Option.{same_Some}
use Rattle.std.specs.Option.{option_map_or}
use Rattle.std.proofs.lemmas.Bool.{cases_eq}
use Rattle.std.proofs.lemmas.List.{get_or-set_same, get_or-set_other}
use Rattle.sg_arena.proofs.ExpandedFamily.{IsFamily-expand, IsTop-expand_child, IsTop-expand_old, IsTop-expand_other, duals_between-expand, expand-apart, holds_rest, total-expand}
use Rattle.sg_arena.proofs.FamilyLemmas.{child-covered, top-no_child}
use Rattle.sg_arena.specs.Changes.{CanShrink, with_slot}
use Rattle.sg_arena.specs.Family.{Family, Holds, IsBlossom, IsFamily, IsTop, Node, cycle_of, dual_of, holds, link_at, node_at, total_of}
use Rattle.sg_arena.specs.declared.Link.{Link}
use Rattle.sg_match.proofs.RingPairLemmas.{ring_from, ring_side}
use Rattle.sg_match.specs.Feasible.{IsFeasible}
use Rattle.sg_slack.specs.Tight.{IsTight}
use Rattle.sg_match.specs.Pairs.{IsPaired, flipped, pair_of}
use Rattle.sg_match.specs.Rings.{IsRingPaired}
use Rattle.sg_match.specs.declared.Edge.{Edge}

module _ (f : Family) (b : ℕ) (fam : IsFamily f) (top : IsTop f b) (blossom : IsBlossom f b) (room : b < length f.nodes) where
  abbrev g : Family
  g = with_slot f b None

  not_b : (t : ℕ) → IsTop g t → t ≢ b
  not_b t is = expand-apart f b fam top blossom room t is.alive

  old_top : (t : ℕ) → IsTop f t → t ≢ b → IsTop g t
  old_top = IsTop-expand_other f b fam top blossom room

  rest : (n l : ℕ) → n ≢ b → holds g n l ≡ holds f n l
  rest = holds_rest f b fam top blossom room

  held_old : (n l : ℕ) → IsTop g n → Holds g n l → Holds f n l
  held_old n l is h = sym (rest n l (not_b n is)) ∙ h

  kid_in : (i l : ℕ) → i < length (cycle_of f b) → Holds g (link_at (cycle_of f b) i).node l → Holds f b l
  kid_in i l low h = child-covered f fam b i low l (held_old _ l (IsTop-expand_child f b fam top blossom room i low) h)

  -- over any ring of the children
  module _ (good : ℕ → ℕ → Type 0) (pairs now : List (Option Edge)) (ring : List Link) (pair : Edge) (paired : IsPaired f good pairs)
      (is_pair : pair_of pairs b ≡ Some pair) (can : CanShrink g ring) (ring_pairs : IsRingPaired pairs now ring pair)
      (from_kid : (i : ℕ) → i < length ring → (j : ℕ) × (j < length (cycle_of f b)) × ((link_at (cycle_of f b) j).node ≡ (link_at ring i).node))
      (to_ring : (j : ℕ) → j < length (cycle_of f b) → (i : ℕ) × (i < length ring) × ((link_at ring i).node ≡ (link_at (cycle_of f b) j).node))
      (base : Holds g (link_at ring 0).node pair.from)
      (fine : (i : ℕ) → i < length ring → good (link_at ring i).from (link_at ring i).to × good (link_at ring i).to (link_at ring i).from) where
    -- an old top but the blossom isn't in the ring
    old_out : (t : ℕ) → IsTop f t → (i : ℕ) → i < length ring → (link_at ring i).node ≢ t
    old_out t is i low same = let kid = from_kid i low in top-no_child f fam t b kid.0 is kid.1 (kid.2 ∙ same)

    first_low : 0 < length ring
    first_low = omega (arith, can.closed.long)

    -- the mate outside
    m : (s : ℕ) × IsTop f s × (s ≢ b) × Holds f s pair.to × (pair_of pairs s ≡ Some (flipped pair))
    m = paired.other b pair top is_pair

    Pairing : ℕ → Edge → Type 0
    Pairing t p = Holds g t p.from × good p.from p.to × ((s : ℕ) × IsTop g s × (s ≢ t) × Holds g s p.to × (pair_of now s ≡ Some (flipped p)))

    in_ring : (i : ℕ) → i < length ring → (p : Edge) → pair_of now (link_at ring i).node ≡ Some p → Pairing (link_at ring i).node p
    unfolding Pairing
    in_ring i low p is = elim (cases_eq i 0) [
      | inl none ↦
          let e : pair ≡ p = same_Some _ _ (sym (ring_pairs.each 0 first_low) ∙ ap (λ k. pair_of now (link_at ring k).node) (sym none) ∙ is) in
          subst (λ k. Pairing (link_at ring k).node p) (sym none)
          (subst (λ x. Pairing (link_at ring 0).node x) e (
            base,
            paired.tight b pair top is_pair,
            (m.0, old_top m.0 m.1 m.2, (λ e. old_out m.0 m.1 0 first_low (sym e)), rest m.0 pair.to m.2 ∙ m.3, ring_pairs.others m.0 (old_out m.0 m.1) ∙ m.4),
          ))
      | inr some ↦
          let j = ring_side g ring can.closed pair i low some in
          let fit = fine j.along j.low_along in
          subst (λ x. Pairing (link_at ring i).node x) (same_Some _ _ (sym (ring_pairs.each i low) ∙ is)) (
            ring_from g ring can.closed pair base i low,
            elim j.link [
              | inl same ↦ subst (λ (x : Edge). good x.from x.to) (sym same) fit.0
              | inr same ↦ subst (λ (x : Edge). good x.from x.to) (sym same) fit.1
            ],
            (
              (link_at ring j.other).node,
              can.tops j.other j.low,
              (λ same. j.differs (can.closed.differ i j.other low j.low (sym same))),
              j.to,
              ring_pairs.each j.other j.low ∙ ap (λ x. Some x) j.back,
            ),
          )
    ]

    outside : (t : ℕ) (p : Edge) → IsTop f t → t ≢ b → pair_of now t ≡ Some p → Pairing t p
    unfolding Pairing
    outside t p is away at =
        let was : pair_of pairs t ≡ Some p = sym (ring_pairs.others t (old_out t is)) ∙ at in
        let s = paired.other t p is was in (
          rest t p.from away ∙ paired.own t p is was,
          paired.tight t p is was,
          elim (cases_eq s.0 b) [
            | inl same ↦
                let e : pair ≡ flipped p = same_Some _ _ (sym is_pair ∙ ap (λ n. pair_of pairs n) (sym same) ∙ s.4) in (
                  (link_at ring 0).node,
                  can.tops 0 first_low,
                  old_out t is 0 first_low,
                  subst (λ (x : Edge). Holds g (link_at ring 0).node x.from) e base,
                  ring_pairs.each 0 first_low ∙ ap (λ x. Some x) e,
                )
            | inr differs ↦ (s.0, old_top s.0 s.1 differs, s.2, rest s.0 p.to differs ∙ s.3, ring_pairs.others s.0 (old_out s.0 s.1) ∙ s.4)
          ],
        )

    pairing : (t : ℕ) (p : Edge) → IsTop g t → pair_of now t ≡ Some p → Pairing t p
    pairing t p is at = elim (IsTop-expand_old f b fam top blossom room t is) [
      | inl old ↦ outside t p old (not_b t is) at
      | inr kid ↦
          let hit = to_ring kid.0 kid.1 in
          subst (λ n. Pairing n p) (hit.2 ∙ kid.2) (in_ring hit.0 hit.1 p (ap (λ n. pair_of now n) (hit.2 ∙ kid.2) ∙ at))
    ]

    -- the pairs after the blossom is taken apart are pairs of tops
    pub IsPaired-expanded : IsPaired g good now
    unfolding Pairing
    IsPaired-expanded =
        record { own = λ t p is at. (pairing t p is at).0; other = λ t p is at. (pairing t p is at).2; tight = λ t p is at. (pairing t p is at).1 }

module _ (f : Family) (cost : ℕ → ℕ → ℕ) (b : ℕ) (feasible : IsFeasible f cost) (top : IsTop f b) (blossom : IsBlossom f b) (inner_zero : dual_of f b ≡ 0)
    (room : b < length f.nodes) where
  abbrev fam : IsFamily f
  fam = feasible.family

  abbrev after : Family
  after = with_slot f b None

  total_same : (u : ℕ) → total_of after u ≡ total_of f u
  total_same = total-expand f b inner_zero room

  -- parts 1, 2 and 5
  pub IsFeasible-expanded : IsFeasible after cost
  IsFeasible-expanded =
      record {
        family = IsFamily-expand f b fam top blossom room;
        slack = λ u v low_u low_v. omega (arith, duals_between-expand f b inner_zero room u v, feasible.slack u v low_u low_v);
        links = λ name i. link_tight name (cases_eq name b) i;
        parity = λ t u v is in_u in_v. elim (IsTop-expand_old f b fam top blossom room t is) [
          | inl old ↦
              let was = λ (l : ℕ) (h : Holds after t l). held_old f b fam top blossom room t l is h in
              omega (arith, total_same u, total_same v, feasible.parity t u v old (was u in_u) (was v in_v))
          | inr kid ↦
              let was = λ (l : ℕ) (h : Holds after t l). kid_in f b fam top blossom room kid.0 l kid.1 (subst (λ n. Holds after n l) (sym kid.2) h) in
              omega (arith, total_same u, total_same v, feasible.parity b u v top (was u in_u) (was v in_v))
        ];
      }
    where
      link_tight : (name : ℕ) → (name ≡ b) ⊎ (name ≢ b) → (i : ℕ) → i < length (cycle_of after name) →
          IsTight after cost (link_at (cycle_of after name) i).from (link_at (cycle_of after name) i).to
      link_tight name (inl same) i low =
          absurd (none_in (cycle_of after name)
          (ap (λ o. option_map_or (λ (n : Node). n.cycle) o []) (ap (λ n. node_at after n) same ∙ get_or-set_same f.nodes b None None room)) low)
        where
          none_in : (c : List Link) → c ≡ [] → i < length c → ⊥
          none_in c e low = omega (arith, ap (λ x. length x) e, low)
      link_tight name (inr away) i low =
          let e : cycle_of after name ≡ cycle_of f name = ap (λ o. option_map_or (λ (n : Node). n.cycle) o [])
          (get_or-set_other f.nodes b name None None away) in
          subst (λ c. IsTight after cost (link_at c i).from (link_at c i).to) (sym e)
          (duals_between-expand f b inner_zero room (link_at (cycle_of f name) i).from (link_at (cycle_of f name) i).to ∙
          feasible.links name i (subst (λ c. i < length c) e low))
