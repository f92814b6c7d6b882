-- The handshake of edges and nodes: how many edges cross between two sides is, up to an even number, the sum of the
-- degrees on one side (Euler 1736). So edges that are even at each node cross evenly.
use Rattle.std.proofs.Common.{◌≡◌, ℕ, ◌<◌, Bool, true, false, ◌&&◌, List, sym, ◌∙◌, ap}
use Rattle.std.proofs.lemmas.List.Elements.{All-weaker}
use Rattle.sg_base.specs.Parity.{xor, parity_by, parity_below}
use Rattle.sg_base.specs.Ends.{is_end, degree_parity, EndsBelow}
use Rattle.sg_base.proofs.ParityLaws.{and-xor, and-false, parity_by-same, parity_below-same, parity_below-none, parity_exchange, parity_by-and, parity_below-xor, parity_below_pick}

-- what one edge adds, summed over its ends
one_edge : (t : ℕ → Bool) (d : Bool) (a b n : ℕ) → a < n → b < n → (d && xor (t a) (t b)) ≡ parity_below (λ x. t x && (d && is_end a b x)) n
one_edge t false a b n p q = sym (parity_below-none (λ x. t x && false) n (λ x l. and-false (t x)))
one_edge t true a b n p q = simp (parity_below-same, and-xor, parity_below-xor, parity_below_pick)

module _ {X : Type 0} (a b : X → ℕ) where
  -- edges between two sides, up to an even number: the ends on one side, counted node by node
  pub handshake : (d : X → Bool) (t : ℕ → Bool) (n : ℕ) (E : List X) → EndsBelow a b n E →
      parity_by (λ e. d e && xor (t (a e)) (t (b e))) E ≡ parity_below (λ x. t x && degree_parity a b d E x) n
  handshake d t n E h =
      parity_by-same (λ e. d e && xor (t (a e)) (t (b e))) (λ e. parity_below (λ x. t x && (d e && is_end (a e) (b e) x)) n) E
      (All-weaker (λ e. (a e < n) × (b e < n)) (λ e. (d e && xor (t (a e)) (t (b e))) ≡ parity_below (λ x. t x && (d e && is_end (a e) (b e) x)) n)
      (λ e w. one_edge t (d e) (a e) (b e) n w.0 w.1) E h)
      ∙ parity_exchange (λ e x. t x && (d e && is_end (a e) (b e) x)) E n
      ∙ parity_below-same (λ x. parity_by (λ e. t x && (d e && is_end (a e) (b e) x)) E) (λ x. t x && degree_parity a b d E x) n
      (λ x l. parity_by-and (t x) (λ e. d e && is_end (a e) (b e) x) E)

  -- edges that end evenly at every node cross evenly between any two sides
  pub even_set_meets_cut_evenly : (d : X → Bool) (t : ℕ → Bool) (n : ℕ) (E : List X) → EndsBelow a b n E →
      ((x : ℕ) → x < n → degree_parity a b d E x ≡ false) → parity_by (λ e. d e && xor (t (a e)) (t (b e))) E ≡ false
  even_set_meets_cut_evenly d t n E h even =
      handshake d t n E h
      ∙ parity_below-none (λ x. t x && degree_parity a b d E x) n (λ x l. ap (λ v. t x && v) (even x l) ∙ and-false (t x))
