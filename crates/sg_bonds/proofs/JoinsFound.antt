-- What the calls for joins with an edge mark and weigh.
use Rattle.sg_bonds.proofs.Common.{◌≡◌, ℕ, ◌^◌, ◌<◌, ◌≤◌, pos, ◌≤ℤ◌, Bool, true, false, cond, ◌&&◌, eqb, List, length, set, sym, ◌∙◌, ap, ap₂, subst, arith}
use Rattle.sg_bonds.proofs.Common.{All, to_z, w64, FitsSigned, get_or-set_other, get_or-set_same, length-set, cases_eq, fits_signed_from_abs, ints, to_z_pos}
use Rattle.sg_bonds.proofs.Common.{forced_limit, chosen_below, holds, is_marked, Graph, edge_at, edge_count, total_weight, weight_of, with_weight}
use Rattle.std.specs.List.Sorted.{IsStrictlyIncreasing}
use Rattle.sg_base.specs.Ends.{is_end}
use Rattle.sg_base.specs.Parity.{parity_by, xor}
use Rattle.sg_base.proofs.Choosing.{chosen_below_same}
use Rattle.sg_base.proofs.ParityLaws.{xor-false}
use Rattle.sg_base.proofs.RisingLists.{chosen_below_low, chosen_below_rises, holds-chosen_below, parity_of_rising}
use Rattle.sg_graph.specs.Join.{AreTerminals, IsLeastJoin}
use Rattle.sg_graph.proofs.OnceLists.{rising_light}
use Rattle.sg_bonds.specs.JoinsWith.{IsLeastBeside, IsLeastJoinWith, turned_at, with_edge}
use Rattle.sg_bonds.proofs.EdgeJoins.{heavy_light, least_with_edge}

-- marks of the terminals
pub terminal_mark : (g : Graph) (terminals : List ℕ) → AreTerminals g terminals → (old new : List Bool) (x : ℕ) → x < g.nodes →
    is_marked old x ≡ false → is_marked new x ≡ xor (is_marked old x) (parity_by (λ k. eqb k x) terminals) → is_marked new x ≡ holds terminals x
terminal_mark g terminals are old new x l bare flipped =
    flipped ∙ ap (λ b. xor b (parity_by (λ k. eqb k x) terminals)) bare ∙ parity_of_rising terminals g.nodes x are.below are.rising l

-- and those turned at the ends of an edge
pub turned_mark : (g : Graph) (terminals : List ℕ) → (k : ℕ) (has : Bool) → has ≡ true → (mid new : List Bool) (x : ℕ) →
    is_marked mid x ≡ holds terminals x → is_marked new x ≡ xor (is_marked mid x) (xor (is_end (edge_at g k).a (edge_at g k).b x) false) →
    is_marked new x ≡ xor (holds terminals x) (has && is_end (edge_at g k).a (edge_at g k).b x)
turned_mark g terminals k has yes_had mid new x was turned =
    turned ∙ ap₂ xor was (xor-false (is_end (edge_at g k).a (edge_at g k).b x) ∙ ap (λ h. h && is_end (edge_at g k).a (edge_at g k).b x) (sym yes_had))

-- where the edge is not to be had the terminals are marked as they are
pub same_mark : (g : Graph) (terminals : List ℕ) (k : ℕ) (has : Bool) → has ≡ false → (mid : List Bool) (x : ℕ) → is_marked mid x ≡ holds terminals x →
    is_marked mid x ≡ xor (holds terminals x) (has && is_end (edge_at g k).a (edge_at g k).b x)
same_mark g terminals k has not_had mid x was =
    was ∙ sym (xor-false (holds terminals x)) ∙ ap (λ h. xor (holds terminals x) (h && is_end (edge_at g k).a (edge_at g k).b x)) (sym not_had)

-- the places of these marks
pub turned_places : (g : Graph) (terminals : List ℕ) (k : ℕ) (has : Bool) (marks : List Bool) → length marks ≡ g.nodes →
    ((x : ℕ) → x < g.nodes → is_marked marks x ≡ xor (holds terminals x) (has && is_end (edge_at g k).a (edge_at g k).b x)) →
    chosen_below (is_marked marks) (length marks) ≡ turned_at g terminals k has
turned_places g terminals k has marks long each =
    ap (chosen_below (is_marked marks)) long
    ∙ chosen_below_same (is_marked marks) (λ x. xor (holds terminals x) (has && is_end (edge_at g k).a (edge_at g k).b x)) g.nodes each

-- the weight of a join, put on an edge and taken off again
module _ (g : Graph) (k : ℕ) (inside : k < edge_count g) (edges read : List ℕ) (same : read ≡ edges) (up : IsStrictlyIncreasing edges)
    (low : All (λ e. e < edge_count g) edges) (light : total_weight g ≤ forced_limit) (far : ℕ) (value : far ≡ weight_of g read) where
  far_small : far ≤ forced_limit
  far_small = omega (arith, value, ap (weight_of g) same, rising_light g edges low up, light)

  -- the weight of the join fits 64 bits
  pub far_fits : FitsSigned w64 (pos far)
  far_fits = fits_signed_from_abs w64 (pos far) (omega (arith, far_small))

  far_is : to_z w64 far ≡ pos far
  far_is = to_z_pos w64 far (omega (arith, far_small))

  -- it is not negative
  pub far_positive : pos 0 ≤ℤ to_z w64 far
  far_positive = rw far_is (omega (arith, ints))

  -- with the edge as heavy as that all edges stay light
  pub far_light : total_weight (with_weight g k (to_z w64 far)) ≤ 2 ^ 60
  far_light = rw far_is (omega (arith, far_small, light, heavy_light g k inside (pos far)))

-- the terminals that are turned at an edge are terminals
pub turned_terminals : (g : Graph) (terminals : List ℕ) (k : ℕ) (has : Bool) (ends : List ℕ) → ends ≡ turned_at g terminals k has →
    AreTerminals g ends
turned_terminals g terminals k has ends is =
    let turned : ℕ → Bool = λ x. xor (holds terminals x) (has && is_end (edge_at g k).a (edge_at g k).b x) in
    subst (AreTerminals g) (sym is) (record { rising = chosen_below_rises turned g.nodes; below = chosen_below_low turned g.nodes })

-- marked places are a rising list of low numbers
module _ (marks : List Bool) (n : ℕ) (long : length marks ≡ n) (list : List ℕ) (is : list ≡ chosen_below (is_marked marks) (length marks)) where
  -- the places that are marked rise
  pub places_rise : IsStrictlyIncreasing list
  places_rise = subst IsStrictlyIncreasing (sym is) (chosen_below_rises (is_marked marks) (length marks))

  -- they are places of the list
  pub places_low : All (λ k. k < n) list
  places_low = subst (λ (list : List ℕ). All (λ k. k < n) list) (sym is)
      (subst (λ m. All (λ k. k < m) (chosen_below (is_marked marks) (length marks))) long (chosen_below_low (is_marked marks) (length marks)))

  -- and are those that are marked
  pub places_hold : (k : ℕ) → k < n → holds list k ≡ is_marked marks k
  places_hold k l = ap (λ (list : List ℕ). holds list k) is ∙ holds-chosen_below (is_marked marks) (length marks) k (omega (arith, l, long))

module _ (g : Graph) (terminals : List ℕ) (k : ℕ) (inside : k < edge_count g) (marks : List Bool) (long : length marks ≡ edge_count g) where
  -- a least join of marked edges
  pub whole_least : (edges : List ℕ) → edges ≡ chosen_below (is_marked marks) (length marks) → IsLeastJoin g terminals edges →
      IsLeastJoinWith g terminals k (is_marked marks k) edges
  whole_least edges is least = record {
    join = least.join;
    side = places_hold marks (edge_count g) long edges is k inside;
    least = λ others join side. least.least others join;
  }

  -- a least join of marked edges without edge k, which is then put in, or not
  module _ (has : Bool) (rest all ends : List ℕ) (rest_is : rest ≡ chosen_below (is_marked (set marks k false)) (length (set marks k false)))
      (all_is : all ≡ chosen_below (is_marked (set (set marks k false) k has)) (length (set (set marks k false) k has)))
      (ends_are : ends ≡ turned_at g terminals k has) (beside : IsLeastBeside g ends k rest) where
    bare_marks : length (set marks k false) ≡ edge_count g
    bare_marks = length-set marks k false ∙ long

    whole_marks : length (set (set marks k false) k has) ≡ edge_count g
    whole_marks = length-set (set marks k false) k has ∙ bare_marks

    rest_bare : holds rest k ≡ false
    rest_bare =
        places_hold (set marks k false) (edge_count g) bare_marks rest rest_is k inside
        ∙ get_or-set_same marks k false false (omega (arith, inside, long))

    same_edges : (e : ℕ) → e < edge_count g → is_marked (set (set marks k false) k has) e ≡ cond (eqb k e) has (holds rest e)
    same_edges e l =
        let there = places_hold (set marks k false) (edge_count g) bare_marks rest rest_is e l in
        grind (arith, cases_eq k e, get_or-set_same, get_or-set_other, bare_marks, inside, there)

    all_edges : with_edge g rest k has ≡ all
    all_edges = sym (
        all_is
        ∙ ap (chosen_below (is_marked (set (set marks k false) k has))) whole_marks
        ∙ chosen_below_same (is_marked (set (set marks k false) k has)) (λ e. cond (eqb k e) has (holds rest e)) (edge_count g) same_edges)

    -- with the edge put in, or left out, the join is least among those like it
    pub turned_least : IsLeastJoinWith g terminals k has all
    turned_least =
        let (w, least) = beside in
        subst (IsLeastJoinWith g terminals k has) all_edges
        (least_with_edge g k inside w terminals has rest (subst (λ (ts : List ℕ). IsLeastJoin (with_weight g k w) ts rest) ends_are least) rest_bare)
