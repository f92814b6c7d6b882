-- Taking the pair from two tops, or pairing two, keeps the pairing.
use Rattle.std.proofs.Common.{◌≡◌, ◌≢◌, ℕ, ◌<◌, List, length, Option, Some, None, set, sym, ap, ◌∙◌, subst, ◌⊎◌, inl, inr, arith}
use Rattle.std.proofs.lemmas.Option.{none-some, same_Some}
use Rattle.std.proofs.lemmas.Bool.{cases_eq}
use Rattle.std.proofs.lemmas.List.{get_or-set_same, get_or-set_other}
use Rattle.std.proofs.Math.ListN.{length-set}
use Rattle.sg_arena.proofs.FamilyLemmas.{top-apart}
use Rattle.sg_arena.specs.Family.{Family, Holds, IsFamily, IsTop}
use Rattle.sg_match.specs.Pairs.{IsPaired, flipped, pair_of}
use Rattle.sg_match.specs.declared.Edge.{Edge}

-- after two writes
pub twice_other : (pairs : List (Option Edge)) (s t n : ℕ) (a b : Option Edge) → n ≢ s → n ≢ t → pair_of (set (set pairs s a) t b) n ≡ pair_of pairs n
twice_other pairs s t n a b away_s away_t = get_or-set_other (set pairs s a) t n b None away_t ∙ get_or-set_other pairs s n a None away_s

-- after two pairs are set the second has its own
pub twice_second : (pairs : List (Option Edge)) (s t : ℕ) (a b : Option Edge) → t < length pairs → pair_of (set (set pairs s a) t b) t ≡ b
twice_second pairs s t a b low = get_or-set_same (set pairs s a) t b None (omega (arith, low, length-set {A = Option Edge}))

-- and so has the first
pub twice_first : (pairs : List (Option Edge)) (s t : ℕ) (a b : Option Edge) → s < length pairs → s ≢ t → pair_of (set (set pairs s a) t b) s ≡ a
twice_first pairs s t a b low away = get_or-set_other (set pairs s a) t s b None away ∙ get_or-set_same pairs s a None low

module _ (f : Family) (good : ℕ → ℕ → Type 0) (pairs : List (Option Edge)) (fam : IsFamily f) (paired : IsPaired f good pairs) where
  -- whose top holds the other end is the other top
  pub mate_is : (t s : ℕ) (p : Edge) → IsTop f t → IsTop f s → pair_of pairs t ≡ Some p → Holds f s p.to → pair_of pairs s ≡ Some (flipped p)
  mate_is t s p top_t top_s is held = grind (arith, top-apart, paired.other, top_t, p.to, top_s)

  -- a top's pair leads to another top
  pub mate_differs : (t s : ℕ) (p : Edge) → IsTop f t → IsTop f s → pair_of pairs t ≡ Some p → Holds f s p.to → s ≢ t
  mate_differs t s p top_t top_s is held same = grind (arith, top-apart, paired.other, p.to)

  module _ (s t : ℕ) (top_s : IsTop f s) (top_t : IsTop f t) (low_s : s < length pairs) (low_t : t < length pairs) where
    -- taking the pair from two paired tops
    pub IsPaired-unpair_tops : (p : Edge) → pair_of pairs s ≡ Some p → Holds f t p.to → IsPaired f good (set (set pairs s None) t None)
    IsPaired-unpair_tops p is held =
        record {
          own = λ n q top at. paired.own n q top (old n q at).0;
          other = λ n q top at.
              let was = old n q at in
              let m = paired.other n q top was.0 in
              let away_s : m.0 ≢ s = λ same.
              let e : flipped q ≡ p = sym (same_Some _ _ (sym (ap (λ x. pair_of pairs x) same ∙ is) ∙ m.4)) in
              was.2 (top-apart f fam n t q.from top top_t (paired.own n q top was.0) (subst (λ x. Holds f t x.to) (sym e) held)) in
              let away_t : m.0 ≢ t = λ same.
              let e : flipped q ≡ flipped p = sym (same_Some _ _ (sym (ap (λ x. pair_of pairs x) same ∙ mate_is s t p top_s top_t is held) ∙ m.4)) in
              was.1 (top-apart f fam n s q.from top top_s (paired.own n q top was.0) (subst (λ x. Holds f s x.to) (sym e) (paired.own s p top_s is))) in
              (m.0, m.1, m.2, m.3, twice_other pairs s t m.0 None None away_s away_t ∙ m.4);
          tight = λ n q top at. paired.tight n q top (old n q at).0;
        }
      where
        old : (n : ℕ) (q : Edge) → pair_of (set (set pairs s None) t None) n ≡ Some q → (pair_of pairs n ≡ Some q) × (n ≢ s) × (n ≢ t)
        old n q at =
            let away_t : n ≢ t = λ same. absurd
            (none-some _ (sym (twice_second pairs s t None None low_t) ∙ sym (ap (λ x. pair_of (set (set pairs s None) t None) x) same) ∙ at)) in
            let away_s : n ≢ s = λ same. absurd
            (none-some _ (sym (twice_first pairs s t None None low_s (λ e. away_t (same ∙ e))) ∙
            sym (ap (λ x. pair_of (set (set pairs s None) t None) x) same) ∙ at)) in
            (sym (twice_other pairs s t n None None away_s away_t) ∙ at, away_s, away_t)

    -- pairing two unpaired tops
    pub IsPaired-pair_tops : (e : Edge) → s ≢ t → pair_of pairs s ≡ None → pair_of pairs t ≡ None → Holds f s e.from → Holds f t e.to → good e.from e.to →
        good e.to e.from → IsPaired f good (set (set pairs s (Some e)) t (Some (flipped e)))
    IsPaired-pair_tops e apart none_s none_t in_s in_t fine fine_back =
        record {
          own = λ n q top at. elim (cases n q at) [
            | inl first ↦ subst (λ x. Holds f n x.from) first.1 (subst (λ m. Holds f m e.from) (sym first.0) in_s)
            | inr rest ↦ elim rest [
              | inl second ↦ subst (λ x. Holds f n x.from) second.1 (subst (λ m. Holds f m e.to) (sym second.0) in_t)
              | inr was ↦ paired.own n q top was.0
            ]
          ];
          other = λ n q top at. elim (cases n q at) [
            | inl first ↦ (
              t,
              top_t,
              (λ same. apart (sym (same ∙ first.0))),
              subst (λ x. Holds f t x.to) first.1 in_t,
              twice_second pairs s t (Some e) (Some (flipped e)) low_t ∙ ap (λ x. Some (flipped x)) first.1,
            )
            | inr rest ↦ elim rest [
              | inl second ↦ (
                s,
                top_s,
                (λ same. apart (same ∙ second.0)),
                subst (λ x. Holds f s x.to) second.1 in_s,
                twice_first pairs s t (Some e) (Some (flipped e)) low_s apart ∙ ap (λ x. Some (flipped x)) second.1,
              )
              | inr was ↦
                  let m = paired.other n q top was.0 in (
                    m.0,
                    m.1,
                    m.2,
                    m.3,
                    twice_other pairs s t m.0 (Some e) (Some (flipped e))
                        (λ same. absurd (none-some _ (sym (sym m.4 ∙ ap (λ x. pair_of pairs x) same ∙ none_s))))
                        (λ same. absurd (none-some _ (sym (sym m.4 ∙ ap (λ x. pair_of pairs x) same ∙ none_t)))) ∙ m.4,
                  )
            ]
          ];
          tight = λ n q top at. elim (cases n q at) [
            | inl first ↦ subst (λ x. good x.from x.to) first.1 fine
            | inr rest ↦ elim rest [
              | inl second ↦ subst (λ x. good x.from x.to) second.1 fine_back
              | inr was ↦ paired.tight n q top was.0
            ]
          ];
        }
      where
        cases : (n : ℕ) (q : Edge) → pair_of (set (set pairs s (Some e)) t (Some (flipped e))) n ≡ Some q → ((n ≡ s) × (e ≡ q)) ⊎
            (((n ≡ t) × (flipped e ≡ q)) ⊎ ((pair_of pairs n ≡ Some q) × (n ≢ s) × (n ≢ t)))
        cases n q at =
            elim (cases_eq n t) [
              | inl same ↦ inr (inl (
                same,
                same_Some _ _
                    (sym (twice_second pairs s t (Some e) (Some (flipped e)) low_t) ∙
                    sym (ap (λ x. pair_of (set (set pairs s (Some e)) t (Some (flipped e))) x) same) ∙ at),
              ))
              | inr away_t ↦ elim (cases_eq n s) [
                | inl same ↦ inl (
                  same,
                  same_Some _ _
                      (sym (twice_first pairs s t (Some e) (Some (flipped e)) low_s apart) ∙
                      sym (ap (λ x. pair_of (set (set pairs s (Some e)) t (Some (flipped e))) x) same) ∙ at),
                )
                | inr away_s ↦ inr (inr (sym (twice_other pairs s t n (Some e) (Some (flipped e)) away_s away_t) ∙ at, away_s, away_t))
              ]
            ]
