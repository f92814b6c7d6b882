-- The ends of all pairs of mates are the terminals, each once.
use Rattle.std.proofs.Common.{inl, inr, ap₂, ◌≡◌, ◌≢◌, ℕ, ◌<◌, Bool, true, false, ◌&&◌, eqb, eq-eqb, ltb, List, ◌∙◌, sym, ap, arith, length, get_or, subst}
use Rattle.std.specs.List.Sorted.{IsStrictlyIncreasing}
use Rattle.std.proofs.lemmas.Bool.{cases_eq, cases_lt, eqb-true, le-ltb, lt-ltb, ne_eqb}
use Rattle.sg_base.specs.Parity.{parity_below, xor}
use Rattle.sg_base.specs.Sets.{holds}
use Rattle.sg_base.proofs.ListLaws.{cases_in}
use Rattle.sg_base.proofs.OneMore.{rising_order}
use Rattle.sg_base.proofs.ParityLaws.{and-false, and-xor, parity_below-none, parity_below-same, parity_below-xor, parity_below_pick}
use Rattle.sg_slack.specs.Matching.{IsPairing}
use Rattle.sg_tjoin.specs.Turns.{ends_pair, leads_pair}

module _ (terminals mates : List ℕ) (rising : IsStrictlyIncreasing terminals) (pairing : IsPairing (length terminals) mates) where
  distinct : (i j : ℕ) → i < length terminals → j < length terminals → get_or terminals i 0 ≡ get_or terminals j 0 → i ≡ j
  distinct i j l m e = elim (cases_lt i j) [
    | inl lt ↦ absurd (omega (arith, rising_order terminals rising i j lt m, e))
    | inr ge ↦ elim (cases_eq i j) [
      | inl same ↦ same
      | inr ne ↦ absurd (omega (arith, rising_order terminals rising j i (omega arith) l, e))
    ]
  ]

  same_test : (a b : Bool) → (a ≡ true → b ≡ true) → (b ≡ true → a ≡ true) → a ≡ b
  same_test a b h k = grind arith

  -- just one of two mates is the lesser
  one_leads : (i : ℕ) → i < length terminals → xor (leads_pair mates i) (leads_pair mates (get_or mates i 0)) ≡ true
  one_leads i l =
      let j : ℕ = get_or mates i 0 in
      let back : leads_pair mates j ≡ ltb j i = ap (ltb j) (pairing.back i l) in
      elim (cases_lt i j) [
        | inl lt ↦ ap₂ xor (lt-ltb i j lt) (back ∙ le-ltb j i (omega arith))
        | inr ge ↦ ap₂ xor (le-ltb i j ge) (back ∙ lt-ltb j i (let ne = pairing.other i l in omega arith))
      ]

  at_terminal : (i : ℕ) → i < length terminals → parity_below (ends_pair terminals mates (get_or terminals i 0)) (length terminals) ≡ true
  at_terminal i l =
      let j : ℕ = get_or mates i 0 in
      let m : j < length terminals = pairing.low i l in
      parity_below-same (ends_pair terminals mates (get_or terminals i 0)) (λ k. xor (leads_pair mates k && eqb i k) (leads_pair mates k && eqb j k))
      (length terminals) (λ k n. each k n)
      ∙ parity_below-xor (λ k. leads_pair mates k && eqb i k) (λ k. leads_pair mates k && eqb j k) (length terminals)
      ∙ ap₂ xor (parity_below_pick (leads_pair mates) i (length terminals) l) (parity_below_pick (leads_pair mates) j (length terminals) m)
      ∙ one_leads i l
    where
      each : (k : ℕ) → k < length terminals → ends_pair terminals mates (get_or terminals i 0) k ≡ xor (leads_pair mates k && eqb i k)
          (leads_pair mates k && eqb (get_or mates i 0) k)
      each k n =
          let first = same_test (eqb (get_or terminals k 0) (get_or terminals i 0)) (eqb i k)
          (λ h. eq-eqb i k (sym (distinct k i n l (eqb-true (get_or terminals k 0) (get_or terminals i 0) h))))
          (λ h. eq-eqb (get_or terminals k 0) (get_or terminals i 0) (ap (λ z. get_or terminals z 0) (sym (eqb-true i k h)))) in
          let second = same_test (eqb (get_or terminals (get_or mates k 0) 0) (get_or terminals i 0)) (eqb (get_or mates i 0) k)
          (λ h. eq-eqb (get_or mates i 0) k (ap (λ z. get_or mates z 0)
          (sym (distinct (get_or mates k 0) i (pairing.low k n) l (eqb-true (get_or terminals (get_or mates k 0) 0) (get_or terminals i 0) h)))
          ∙ pairing.back k n)) (λ h. eq-eqb (get_or terminals (get_or mates k 0) 0) (get_or terminals i 0)
          (ap (λ z. get_or terminals z 0) (ap (λ z. get_or mates z 0) (sym (eqb-true (get_or mates i 0) k h)) ∙ pairing.back i l))) in
          ap₂ (λ p q. leads_pair mates k && xor p q) first second ∙ and-xor (leads_pair mates k) (eqb i k) (eqb (get_or mates i 0) k)

  at_other : (x : ℕ) → ((i : ℕ) → i < length terminals → get_or terminals i 0 ≢ x) → parity_below (ends_pair terminals mates x) (length terminals) ≡ false
  at_other x none = parity_below-none (ends_pair terminals mates x) (length terminals) (λ k l. (
      ap₂ (λ p q. leads_pair mates k && xor p q) (ne_eqb (get_or terminals k 0) x (none k l))
      (ne_eqb (get_or terminals (get_or mates k 0) 0) x (none (get_or mates k 0) (pairing.low k l)))
      ∙ and-false (leads_pair mates k)
      ))

  -- a node is an end of an odd number of pairs where it is a terminal
  pub pairs_parity : (x : ℕ) → parity_below (ends_pair terminals mates x) (length terminals) ≡ holds terminals x
  pairs_parity x = elim (cases_in terminals x) [
    | inl at ↦ subst (λ z. parity_below (ends_pair terminals mates z) (length terminals) ≡ true) at.2 (at_terminal at.0 at.1) ∙ sym at.3
    | inr none ↦ at_other x none.0 ∙ sym none.1
  ]
