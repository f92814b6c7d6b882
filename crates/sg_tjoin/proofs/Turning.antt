-- The edges that are marked when the walks of all pairs of mates were turned: a join of the terminals, of half the cost
-- of the pairs at most.
use Rattle.std.proofs.Common.{inl, inr, ap₂, ◌≡◌, ℕ, zero, suc, ◌+◌, ◌*◌, ◌<◌, ◌≤◌, ◌++◌, add-one, Bool, true, false, cond, ◌&&◌, eqb, List, [], refl, ◌∙◌, sym, ap, arith, length, get_or, sum_by}
use Rattle.std.specs.List.{range_with_len}
use Rattle.std.proofs.lemmas.Bool.{cases_lt, le-ltb, lt-ltb}
use Rattle.std.proofs.lemmas.List.{get_or_past}
use Rattle.std.proofs.lemmas.List.Elements.{All-append}
use Rattle.std.proofs.lemmas.List.Sums.{sum_by-append}
use Rattle.sg_base.specs.Parity.{parity_below, parity_by, xor}
use Rattle.sg_base.specs.Sets.{chosen_below, holds, is_marked}
use Rattle.sg_base.specs.Sums.{sum_below}
use Rattle.sg_base.proofs.ListLaws.{filter-never}
use Rattle.sg_base.proofs.ParityLaws.{odd_is, parity_below-same, parity_by-append, xor_comm}
use Rattle.sg_base.proofs.RisingLists.{chosen_below_low, chosen_below_rises}
use Rattle.sg_base.proofs.SumLaws.{sum_below-same}
use Rattle.sg_graph.specs.Web.{Graph, edge_count, edge_weight, ends_at, weight_of}
use Rattle.sg_graph.specs.Join.{AreTerminals, IsJoin}
use Rattle.sg_graph.specs.Table.{Routes}
use Rattle.sg_graph.proofs.Joins.{ends_parity}
use Rattle.sg_graph.proofs.OddLists.{chosen_below-parity, chosen_below-weight, is_odd_in, odd_in-parity, odd_in-weight}
use Rattle.sg_graph.proofs.WalkEnds.{walk_below, walk_parity}
use Rattle.sg_slack.specs.Matching.{IsPairing, pairing_cost}
use Rattle.sg_slack.proofs.PairingSums.{sum_by-range}
use Rattle.sg_moat.specs.Input.{terminal_cost}
use Rattle.sg_tjoin.specs.Doubled.{apart}
use Rattle.sg_tjoin.specs.Turns.{AreTurned, TurnsWalk, ends_pair, is_odd_end, leads_pair}
use Rattle.sg_tjoin.proofs.PairEnds.{pairs_parity}

module _ (g : Graph) (terminals : List ℕ) (tables : List Routes) (mates : List ℕ) where
  module _ (i : ℕ) (marks : List Bool) (t : AreTurned g terminals tables mates i marks) where
    -- a leaf whose mate comes earlier turns nothing
    pub AreTurned-skip : get_or mates i 0 ≤ i → AreTurned g terminals tables mates (i + 1) marks
    AreTurned-skip h =
        let no_pair : leads_pair mates i ≡ false = le-ltb i (get_or mates i 0) h in
        rw add-one (record {
          count = t.count;
          walks = t.walks;
          bare = λ e. absurd (omega arith);
          below = t.below;
          turned = t.turned;
          ends = λ x. t.ends x ∙ sym (ap (λ b. xor (b && xor (eqb (get_or terminals i 0) x) (eqb (get_or terminals (get_or mates i 0) 0) x))
              (parity_below (ends_pair terminals mates x) i)) no_pair);
          weighs =
              (let nothing = ap (λ b. cond b (apart terminals tables i (get_or mates i 0)) 0) no_pair in
              omega (arith, t.weighs));
        })

    -- one pair more, whose walk turns the marks of its edges
    pub AreTurned-more : (new : List Bool) → i < get_or mates i 0
        → TurnsWalk g (get_or terminals i 0) (get_or terminals (get_or mates i 0) 0) (apart terminals tables i (get_or mates i 0)) marks new
        → AreTurned g terminals tables mates (i + 1) new
    AreTurned-more new h turn =
        let a_pair : leads_pair mates i ≡ true = lt-ltb i (get_or mates i 0) h in
        rw add-one (record {
          count = turn.count ∙ t.count;
          walks = t.walks ++ turn.walk;
          bare = λ e. absurd (omega arith);
          below = All-append (λ e. e < edge_count g) t.walks turn.walk t.below
              (walk_below g turn.walk (get_or terminals i 0) (get_or terminals (get_or mates i 0) 0) turn.leads);
          turned = λ e l. turn.turned e (omega (arith, t.count)) ∙ ap (λ b. xor b (is_odd_in turn.walk e)) (t.turned e l)
              ∙ sym (parity_by-append (λ k. eqb k e) t.walks turn.walk);
          ends = λ x.
              parity_by-append (is_odd_end g x) t.walks turn.walk
              ∙ ap₂ xor (t.ends x) (walk_parity g turn.walk (get_or terminals i 0) (get_or terminals (get_or mates i 0) 0) x turn.leads)
              ∙ xor_comm (parity_below (ends_pair terminals mates x) i) (xor (eqb (get_or terminals i 0) x) (eqb (get_or terminals (get_or mates i 0) 0) x))
              ∙ sym (ap (λ b. xor (b && xor (eqb (get_or terminals i 0) x) (eqb (get_or terminals (get_or mates i 0) 0) x))
              (parity_below (ends_pair terminals mates x) i)) a_pair);
          weighs =
              (let more = ap (λ b. cond b (apart terminals tables i (get_or mates i 0)) 0) a_pair in
              omega (arith, t.weighs, turn.weighs, sum_by-append (edge_weight g) t.walks turn.walk));
        })

  module _ (marks : List Bool) (are : AreTerminals g terminals) (pairing : IsPairing (length terminals) mates)
      (t : AreTurned g terminals tables mates (length terminals) marks) where
    abbrev chosen : List ℕ
    chosen = chosen_below (is_marked marks) (edge_count g)

    chosen_parity : (x : ℕ) → parity_by (is_odd_end g x) chosen ≡ holds terminals x
    chosen_parity x =
        chosen_below-parity (is_marked marks) (is_odd_end g x) (edge_count g)
        ∙ parity_below-same (λ e. is_marked marks e && is_odd_end g x e) (λ e. is_odd_in t.walks e && is_odd_end g x e) (edge_count g)
        (λ e l. ap (λ b. b && is_odd_end g x e) (t.turned e l))
        ∙ odd_in-parity (is_odd_end g x) (edge_count g) t.walks t.below
        ∙ t.ends x
        ∙ pairs_parity terminals mates are.rising pairing x

    -- the edges marked at the end are a join of the terminals
    pub IsJoin-turned : IsJoin g terminals chosen
    IsJoin-turned = record {
      rising = chosen_below_rises (is_marked marks) (edge_count g);
      below = chosen_below_low (is_marked marks) (edge_count g);
      odd_at = λ x l. odd_is (sum_by (ends_at g x) chosen) ∙ ap (λ b. cond b 1 0) (ends_parity g x chosen ∙ chosen_parity x);
    }

    -- without terminals no edge is marked
    pub chosen_bare : length terminals ≡ 0 → chosen ≡ []
    chosen_bare none = filter-never (is_marked marks) (range_with_len 0 (edge_count g)) unmarked
      where
        unmarked : (e : ℕ) → is_marked marks e ≡ false
        unmarked e = elim (cases_lt e (edge_count g)) [
          | inl low ↦ t.turned e low ∙ ap (λ ws. is_odd_in ws e) (t.bare none)
          | inr past ↦ get_or_past marks e false (omega (arith, t.count))
        ]

    -- twice their weight is at most the cost of the pairing
    pub turned_weight : 2 * weight_of g chosen ≤ pairing_cost (terminal_cost terminals tables) mates
    turned_weight =
        let weight = chosen_below-weight (is_marked marks) (edge_weight g) (edge_count g) in
        let odd = sum_below-same (λ e. cond (is_marked marks e) (edge_weight g e) 0) (λ e. cond (is_odd_in t.walks e) (edge_weight g e) 0) (edge_count g)
        (λ e l. ap (λ b. cond b (edge_weight g e) 0) (t.turned e l)) in
        omega (arith, weight, odd, odd_in-weight (edge_weight g) (edge_count g) t.walks t.below, t.weighs, twice (length terminals), costs)
      where
        twice : (n : ℕ) → 2 * sum_below (λ i. cond (leads_pair mates i) (apart terminals tables i (get_or mates i 0)) 0) n ≡ sum_below
            (λ i. cond (leads_pair mates i) (terminal_cost terminals tables i (get_or mates i 0)) 0) n
        twice zero = refl
        twice (suc n) = omega (arith, twice n, one (leads_pair mates n) (apart terminals tables n (get_or mates n 0)))
          where
            one : (b : Bool) (v : ℕ) → 2 * cond b v 0 ≡ cond b (2 * v) 0
            one b v = grind arith

        costs : pairing_cost (terminal_cost terminals tables) mates ≡ sum_below
            (λ i. cond (leads_pair mates i) (terminal_cost terminals tables i (get_or mates i 0)) 0) (length terminals)
        costs =
            sum_by-range (λ i. cond (leads_pair mates i) (terminal_cost terminals tables i (get_or mates i 0)) 0) (length mates)
            ∙ ap (sum_below (λ i. cond (leads_pair mates i) (terminal_cost terminals tables i (get_or mates i 0)) 0)) pairing.count
