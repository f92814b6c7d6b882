-- Weak duality of joins and odd cuts: each join meets each odd cut, so no join weighs less than half of what the cuts of
-- a packing weigh.
use Rattle.std.proofs.Common.{◌≡◌, ℕ, suc, ◌+◌, ◌*◌, ◌%◌, ◌<◌, ◌≤◌, Bool, true, false, cond, not, ◌&&◌, eqb, List, [], ◌∷◌, refl, sym, ◌∙◌, ap, arith, All, length, get_or, sum_by, count_by}
use Rattle.std.proofs.lemmas.List.Elements.{All-head, All-tail}
use Rattle.std.proofs.lemmas.List.Sums.{sum_by-cons, get_or-le-sum_by}
use Rattle.sg_base.specs.Parity.{xor, odd, parity_by}
use Rattle.sg_base.specs.Sets.{holds}
use Rattle.sg_base.specs.Ends.{degree_parity, EndsBelow, is_end}
use Rattle.sg_base.proofs.ParityLaws.{odd_from_mod, even_from_mod, odd-count_by, parity_below-same, some_from_odd}
use Rattle.sg_base.proofs.RisingLists.{holds-chosen_below, members_parity}
use Rattle.sg_base.proofs.Handshake.{handshake}
use Rattle.sg_base.proofs.SumLaws.{sum_by-le-all}
use Rattle.sg_graph.specs.Web.{Graph, IsEdge, edge_at, edge_count, edge_weight, ends_at, weight_of}
use Rattle.sg_graph.specs.Join.{AreTerminals, IsJoin, IsLeastJoin}
use Rattle.sg_graph.specs.declared.cut.Cut.{Cut}
use Rattle.sg_graph.specs.OddCut.{CutsPack, IsOddCut, crosses, cut_load, odd_cut_weight}

-- ends counted as a parity
odd_ends : (p q r : Bool) (n : ℕ) → odd n ≡ r → odd ((cond p 1 0 + cond q 1 0) + n) ≡ xor (xor p q) r
odd_ends true true r n e = grind arith
odd_ends true false r n e = let s : (1 + 0) + n ≡ suc n = omega arith in rw s (ap not e)
odd_ends false true r n e = let s : (0 + 1) + n ≡ suc n = omega arith in rw s (ap not e)
odd_ends false false r n e = let s : (0 + 0) + n ≡ n = omega arith in rw s e

module _ (g : Graph) where
  abbrev pub a_end : ℕ → ℕ
  a_end e = (edge_at g e).a

  abbrev pub b_end : ℕ → ℕ
  b_end e = (edge_at g e).b

  -- how many of the edges end at the node, as a parity
  pub ends_parity : (x : ℕ) (es : List ℕ) → odd (sum_by (ends_at g x) es) ≡ parity_by (λ e. is_end (a_end e) (b_end e) x) es
  ends_parity x [] = refl
  ends_parity x (e ∷ es) = ap odd (sum_by-cons (ends_at g x) e es) ∙ odd_ends (eqb (a_end e) x) (eqb (b_end e) x)
      (parity_by (λ e. is_end (a_end e) (b_end e) x) es) (sum_by (ends_at g x) es) (ends_parity x es)

  -- a number with the rest of a condition by 2 is odd where that holds
  pub odd_from_cond : (n : ℕ) (b : Bool) → n % 2 ≡ cond b 1 0 → odd n ≡ b
  odd_from_cond n b h = grind (arith, even_from_mod)

  module _ (terminals : List ℕ) (are : AreTerminals g terminals) (joined : All (IsEdge g.nodes) g.edges) where
    ends_of : (es : List ℕ) → All (λ e. e < edge_count g) es → EndsBelow a_end b_end g.nodes es
    ends_of es below k d l = grind arith

    -- a join has an edge in each odd cut
    pub join_meets : (es cut : List ℕ) → IsJoin g terminals es → IsOddCut g terminals cut →
        (k : ℕ) × (k < length es) × (holds cut (get_or es k 0) ≡ true)
    join_meets es cut join c =
        let crossing : parity_by (λ e. true && xor (c.inside (a_end e)) (c.inside (b_end e))) es ≡ true =
        handshake a_end b_end (λ e. true) c.inside g.nodes es (ends_of es join.below)
        ∙ parity_below-same (λ x. c.inside x && degree_parity a_end b_end (λ e. true) es x) (λ x. c.inside x && holds terminals x) g.nodes
        (λ x l. ap (λ v. c.inside x && v) (sym (ends_parity x es) ∙ odd_from_cond (sum_by (ends_at g x) es) (holds terminals x) (join.odd_at x l)))
        ∙ members_parity c.inside terminals g.nodes are.below are.rising ∙ sym (odd-count_by c.inside terminals)
        ∙ odd_from_mod (count_by c.inside terminals) c.odd in
        let found = some_from_odd (λ e. true && xor (c.inside (a_end e)) (c.inside (b_end e))) es crossing in
        let here : crosses g c.inside (get_or es found.0 0) ≡ true = found.2 0 in (
          found.0,
          found.1,
          ap (λ xs. holds xs (get_or es found.0 0)) c.is
              ∙ holds-chosen_below (crosses g c.inside) (edge_count g) (get_or es found.0 0) (join.below found.0 0 found.1) ∙ here,
        )

    -- what a join carries of the cuts
    pub join_carries : (es : List ℕ) (cuts : List Cut) → IsJoin g terminals es → All (λ c. IsOddCut g terminals c.edges) cuts
        → sum_by odd_cut_weight cuts ≤ sum_by (λ e. cut_load cuts e) es
    join_carries es [] join odds = omega arith
    join_carries es (c ∷ cs) join odds =
        let rest : sum_by odd_cut_weight cs ≤ sum_by (λ e. cut_load cs e) es =
        join_carries es cs join (All-tail (λ c. IsOddCut g terminals c.edges) c cs odds) in
        let met = join_meets es c.edges join (All-head (λ c. IsOddCut g terminals c.edges) c cs odds) in
        let own : ℕ → ℕ = λ e. cond (holds c.edges e) (odd_cut_weight c) 0 in
        let part : own (get_or es met.0 0) ≤ sum_by own es = get_or-le-sum_by own es met.0 0 met.1 in
        let one : own (get_or es met.0 0) ≡ odd_cut_weight c = ap (λ b. cond b (odd_cut_weight c) 0) met.2 in
        omega (arith, sum_by-cons odd_cut_weight c cs, parted es c cs)
      where
        parted : (es : List ℕ) (c : Cut) (cs : List Cut) → sum_by (λ e. cut_load (c ∷ cs) e) es ≡ sum_by
            (λ e. cond (holds c.edges e) (odd_cut_weight c) 0) es + sum_by (λ e. cut_load cs e) es
        parted [] c cs = refl
        parted (e ∷ es) c cs =
            omega (
              arith,
              parted es c cs,
              sum_by-cons (λ e. cut_load (c ∷ cs) e) e es,
              sum_by-cons (λ e. cond (holds c.edges e) (odd_cut_weight c) 0) e es,
              sum_by-cons (λ e. cut_load cs e) e es,
              sum_by-cons (λ c. cond (holds c.edges e) (odd_cut_weight c) 0) c cs,
            )

    -- the weights of a packing are at most twice the weight of any join
    pub cuts_bound_join : (es : List ℕ) (cuts : List Cut) → IsJoin g terminals es → CutsPack g terminals cuts →
        sum_by odd_cut_weight cuts ≤ 2 * weight_of g es
    cuts_bound_join es cuts join p =
        let carried : sum_by (λ e. cut_load cuts e) es ≤ sum_by (λ e. 2 * edge_weight g e) es =
        sum_by-le-all (λ e. cut_load cuts e) (λ e. 2 * edge_weight g e) es (λ k d l. p.within (get_or es k d) (join.below k d l)) in
        omega (arith, join_carries es cuts join p.odd_cuts, twice es)
      where
        twice : (es : List ℕ) → sum_by (λ e. 2 * edge_weight g e) es ≡ 2 * weight_of g es
        twice [] = refl
        twice (e ∷ es) = omega (arith, twice es, sum_by-cons (λ e. 2 * edge_weight g e) e es, sum_by-cons (edge_weight g) e es)

    -- so a join that weighs no more than half of a packing is least
    pub least_by_cuts : (es : List ℕ) (cuts : List Cut) → IsJoin g terminals es → CutsPack g terminals cuts
        → 2 * weight_of g es ≤ sum_by odd_cut_weight cuts → IsLeastJoin g terminals es
    least_by_cuts es cuts join p tight = record {
      join = join;
      least = λ others other. omega (arith, tight, cuts_bound_join others cuts other p);
    }
