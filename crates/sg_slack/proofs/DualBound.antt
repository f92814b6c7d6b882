-- The cost of a pairing and the sum of the duals: weak duality, and equality for a matching.
use Rattle.std.proofs.Common.{[], ◌≡◌, ℕ, ◌*◌, ◌%◌, ◌≤◌, Bool, true, false, cond, ltb, List, length, Option, Some, None, refl, sym, ◌∙◌, ap, subst, arith}
use Rattle.std.proofs.Common.{sum_by, get_or}
use Rattle.std.specs.Option.{option_map_or}
use Rattle.std.proofs.Math.Nat.{mul-le-mul_left, mul-one, mul-zero, zero-mul}
use Rattle.std.proofs.lemmas.Bool.{false_from_ne_true, false≢true}
use Rattle.sg_base.specs.Sums.{sum_below}
use Rattle.sg_base.proofs.SumLaws.{sum_below-same, sum_below-le, sum_below-zero, sum_exchange, sum_by_is_sum_below}
use Rattle.sg_arena.specs.Family.{Family, IsFamily, Node, has_leaf, holds, leaf_count, leaves_of, node_at}
use Rattle.sg_arena.specs.Slack.{cut_share, duals_between, exactly_one}
use Rattle.sg_arena.proofs.FamilyLemmas.{size-is}
use Rattle.sg_base.proofs.ListLaws.{cond-same, sum_by-zero}
use Rattle.sg_slack.specs.Matching.{IsLeftOnce, IsMatching, IsPairing, IsExit, NoSlackIsNegative, dual_in, pairing_cost, sum_of_duals}
use Rattle.sg_slack.proofs.PairingSums.{crossings, one_crosses, some_crosses, sum_below-times, sum_by-range}

-- a choice goes into a sum
cond-sum_by : (t : Bool) (g : Option Node → ℕ) (slots : List (Option Node)) → cond t (sum_by g slots) 0 ≡ sum_by (λ s. cond t (g s) 0) slots
cond-sum_by true g slots = refl
cond-sum_by false g slots = sym (sum_by-zero (λ s. 0) slots (λ s. refl))

cond-le : (t : Bool) (x y : ℕ) → x ≤ y → cond t x 0 ≤ cond t y 0
cond-le t x y h = grind arith

weigh : (t a : Bool) (d : ℕ) → cond t (cond a d 0) 0 ≡ d * cond t (cond a 1 0) 0
weigh t a d = grind (arith, mul-one, mul-zero)

module _ (f : Family) (mates : List ℕ) where
  -- the mate of a leaf
  abbrev mate : ℕ → ℕ
  mate u = get_or mates u 0

  -- what the pairs add to the sum of a set: its dual for each pair that leaves it
  abbrev paid : Option Node → ℕ
  paid slot = sum_below (λ u. cond (ltb u (mate u)) (cut_share u (mate u) slot) 0) (leaf_count f)

  -- the same, by the number of these pairs
  paid-is : (name : ℕ) → paid (node_at f name) ≡ dual_in (node_at f name) * sum_below
      (λ u. cond (ltb u (mate u)) (cond (exactly_one (holds f name u) (holds f name (mate u))) 1 0) 0) (leaf_count f)
  paid-is name =
      sum_below-same (λ u. cond (ltb u (mate u)) (cut_share u (mate u) (node_at f name)) 0)
      (λ u. dual_in (node_at f name) * cond (ltb u (mate u)) (cond (exactly_one (holds f name u) (holds f name (mate u))) 1 0) 0) (leaf_count f)
      (λ u l. each u (node_at f name))
      ∙ sum_below-times (dual_in (node_at f name)) (λ u. cond (ltb u (mate u)) (cond (exactly_one (holds f name u) (holds f name (mate u))) 1 0) 0)
      (leaf_count f)
    where
      each : (u : ℕ) (slot : Option Node) → cond (ltb u (mate u)) (cut_share u (mate u) slot) 0 ≡ dual_in slot * cond (ltb u (mate u))
          (cond (exactly_one (has_leaf (option_map_or (λ n. n.leaves) slot []) u) (has_leaf (option_map_or (λ n. n.leaves) slot []) (mate u))) 1 0) 0
      each u None = cond-same (ltb u (mate u)) 0 ∙ sym (zero-mul (cond (ltb u (mate u)) 0 0))
      each u (Some n) = weigh (ltb u (mate u)) (exactly_one (has_leaf n.leaves u) (has_leaf n.leaves (mate u))) n.dual

  -- the sum over all sets of what the pairs add
  paid-between : sum_below (λ u. cond (ltb u (mate u)) (duals_between f u (mate u)) 0) (leaf_count f) ≡ sum_by paid f.nodes
  paid-between =
      sum_below-same (λ u. cond (ltb u (mate u)) (duals_between f u (mate u)) 0)
      (λ u. sum_by (λ s. cond (ltb u (mate u)) (cut_share u (mate u) s) 0) f.nodes) (leaf_count f)
      (λ u l. cond-sum_by (ltb u (mate u)) (cut_share u (mate u)) f.nodes)
      ∙ sym (sum_exchange (λ s u. cond (ltb u (mate u)) (cut_share u (mate u) s) 0) f.nodes (leaf_count f))

  module _ (pairing : IsPairing (leaf_count f) mates) where
    -- the cost as a sum over the leaves
    cost-below : (cost : ℕ → ℕ → ℕ) → pairing_cost cost mates ≡ sum_below (λ u. cond (ltb u (mate u)) (cost u (mate u)) 0) (leaf_count f)
    cost-below cost =
        sum_by-range (λ u. cond (ltb u (mate u)) (cost u (mate u)) 0) (length mates)
        ∙ ap (sum_below (λ u. cond (ltb u (mate u)) (cost u (mate u)) 0)) pairing.count

    -- some pair leaves each set of odd size
    pays : IsFamily f → (name : ℕ) → dual_in (node_at f name) ≤ paid (node_at f name)
    pays fam name = go (node_at f name) refl
      where
        go : (slot : Option Node) → node_at f name ≡ slot → dual_in slot ≤ paid slot
        go None e = omega arith
        go (Some n) e =
            let size : sum_below (λ u. cond (holds f name u) 1 0) (leaf_count f) ≡ length (leaves_of f name) =
            sym (size-is f fam name ∙ sum_by-range (λ u. cond (holds f name u) 1 0) (leaf_count f)) in
            let crossed : 1 ≤ crossings (leaf_count f) mate (holds f name) =
            some_crosses (leaf_count f) mate pairing.low pairing.back pairing.other (holds f name) (ap (λ n. n % 2) size ∙ fam.odd name (rw e refl)) in
            subst (λ s. dual_in s ≤ paid s) e
            (enough (dual_in (node_at f name)) (crossings (leaf_count f) mate (holds f name)) (paid (node_at f name)) crossed (paid-is name))
          where
            enough : (d c x : ℕ) → 1 ≤ c → x ≡ d * c → d ≤ x
            enough d c x some same = omega (arith, mul-le-mul_left d some, mul-one d, same)

    -- no pairing costs less than all duals together
    pub duals-le_cost : (cost : ℕ → ℕ → ℕ) → IsFamily f → NoSlackIsNegative f cost → sum_of_duals f ≤ pairing_cost cost mates
    duals-le_cost cost fam slack =
        let above : sum_below (λ u. cond (ltb u (mate u)) (duals_between f u (mate u)) 0) (leaf_count f) ≤ sum_below
        (λ u. cond (ltb u (mate u)) (cost u (mate u)) 0) (leaf_count f) =
        sum_below-le (λ u. cond (ltb u (mate u)) (duals_between f u (mate u)) 0) (λ u. cond (ltb u (mate u)) (cost u (mate u)) 0) (leaf_count f)
        (λ u l. cond-le (ltb u (mate u)) (duals_between f u (mate u)) (cost u (mate u)) (slack u (mate u) l (pairing.low u l))) in
        let all : sum_below (λ i. dual_in (node_at f i)) (length f.nodes) ≤ sum_below (λ i. paid (node_at f i)) (length f.nodes) =
        sum_below-le (λ i. dual_in (node_at f i)) (λ i. paid (node_at f i)) (length f.nodes) (λ i l. pays fam i) in
        omega (arith, above, all, sum_by_is_sum_below dual_in f.nodes None, sum_by_is_sum_below paid f.nodes None, paid-between, cost-below cost)

  -- one pair leaves each set
  pays_once : (cost : ℕ → ℕ → ℕ) → IsMatching f cost mates → (name : ℕ) → paid (node_at f name) ≡ dual_in (node_at f name)
  pays_once cost matching name = go (node_at f name) refl
    where
      go : (slot : Option Node) → node_at f name ≡ slot → paid slot ≡ dual_in slot
      go None e = sum_below-zero (λ u. cond (ltb u (mate u)) 0 0) (leaf_count f) (λ u l. cond-same (ltb u (mate u)) 0)
      go (Some n) e =
          let pairing = matching.pairing in
          let once : IsLeftOnce f mates name = matching.left name (rw e refl) in
          let w : ℕ = once.one.0 in
          let exit : IsExit f mates name w = once.one.1 in
          let crossed : crossings (leaf_count f) mate (holds f name) ≡ 1 =
          one_crosses (leaf_count f) mate pairing.low pairing.back pairing.other (holds f name) w exit.low exit.inside
          (false_from_ne_true (holds f name (mate w)) exit.outside)
          (λ u l in_u out_u. once.only w u exit (record { low = l; inside = in_u; outside = λ h. false≢true (sym out_u ∙ h) })) in
          subst (λ s. paid s ≡ dual_in s) e (paid-is name ∙ ap (λ c. dual_in (node_at f name) * c) crossed ∙ mul-one (dual_in (node_at f name)))

  -- a matching costs just as much as all duals together
  pub cost-is_duals : (cost : ℕ → ℕ → ℕ) → IsMatching f cost mates → pairing_cost cost mates ≡ sum_of_duals f
  cost-is_duals cost matching =
      cost-below matching.pairing cost
      ∙ sum_below-same (λ u. cond (ltb u (mate u)) (cost u (mate u)) 0) (λ u. cond (ltb u (mate u)) (duals_between f u (mate u)) 0) (leaf_count f)
      (λ u l. ap (λ c. cond (ltb u (mate u)) c 0) (sym (matching.tight u l)))
      ∙ paid-between
      ∙ sum_by_is_sum_below paid f.nodes None
      ∙ sum_below-same (λ i. paid (node_at f i)) (λ i. dual_in (node_at f i)) (length f.nodes) (λ i l. pays_once cost matching i)
      ∙ sym (sum_by_is_sum_below dual_in f.nodes None)

-- so no pairing costs less than a matching
pub matching_least : (f : Family) (cost : ℕ → ℕ → ℕ) (mates other : List ℕ) → IsFamily f → NoSlackIsNegative f cost → IsMatching f cost mates →
    IsPairing (leaf_count f) other → pairing_cost cost mates ≤ pairing_cost cost other
matching_least f cost mates other fam slack matching pairing = omega (arith, cost-is_duals f mates cost matching, duals-le_cost f other pairing cost fam slack)
