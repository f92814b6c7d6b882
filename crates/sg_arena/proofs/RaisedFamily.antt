-- The family with other duals, as `raise` leaves it: what it keeps, and how totals change.
use Rattle.std.proofs.Common.{Bool, List, Option, [], ap, arith, cond, eq-eqb, eqb, false, get_or, inl, inr, length}
use Rattle.std.proofs.Common.{refl, sum_by, sym, true, ℕ, ◌+◌, ◌-◌, ◌^◌, ◌∙◌, ◌≡◌, ◌≤◌, ◌⊎◌}
use Rattle.std.proofs.lemmas.Bool.{cases_Bool, cases_eq, cases_lt, eqb-true, false_from_ne_true, false≢true, ne_eqb}
use Rattle.std.proofs.lemmas.List.{get_or_past}
use Rattle.std.proofs.lemmas.List.Folds.{list_any_at}
use Rattle.std.proofs.lemmas.List.FromFn.{get_or-map-range_with_len, length-map-range_with_len}
use Rattle.std.proofs.lemmas.List.Sums.{sum_by-le-sum_by}
use Rattle.std.specs.List.{list_any, range_with_len}
use Rattle.std.specs.Option.{option_map, option_map_or}
use Rattle.sg_arena.specs.Changes.{CanRaise, raised, raised_dual, with_dual}
use Rattle.sg_arena.specs.Family.{Family, Holds, IsAlive, IsFamily, IsTop, Node, cycle_of, dual_of}
use Rattle.sg_arena.specs.Family.{has_leaf, holds, leaves_of, node_at, share, total_of}
use Rattle.sg_arena.specs.Slack.{cut_share, duals_between, exactly_one}
use Rattle.sg_arena.proofs.PartFamily.{IsFamily-part, IsPart, IsTop-part}
use Rattle.sg_arena.proofs.FamilyLemmas.{alive_from_holds, name_bound, share-is, some_leaf, sum-names, top-apart, total-names}
use Rattle.sg_base.proofs.ListLaws.{cases_in, place_of_any, sum_by-agree, sum_by-plus, sum_by-point}

module _ (f : Family) (outer inner : List ℕ) (delta : ℕ) where
  -- the node under a name after a raise
  pub node_at-raised : (n : ℕ) → node_at (raised f outer inner delta) n ≡ option_map (with_dual (raised_dual outer inner delta n)) (node_at f n)
  node_at-raised n = grind (arith, cases_lt n (length f.nodes), get_or-map-range_with_len, get_or_past, length-map-range_with_len, f.nodes)

  -- the new total as a sum over the same names
  raised-names : (leaf : ℕ) → total_of (raised f outer inner delta) leaf ≡ sum_by (λ n. share leaf (node_at (raised f outer inner delta) n))
      (range_with_len 0 (length f.nodes))
  raised-names leaf = simp (total-names, length-map-range_with_len)

  module _ (fam : IsFamily f) (can : CanRaise f outer inner delta) where
    -- a node that isn't one of the raised tops keeps its dual
    raised_plain : (n : ℕ) → (IsTop f n → ⊥) → (d : ℕ) → raised_dual outer inner delta n d ≡ d
    raised_plain n plain d = grind (arith, cases_in outer n, cases_in inner n, plain, can.tops.outer_tops, can.tops.inner_tops)

    share-raised_is : (leaf n : ℕ) → share leaf (node_at (raised f outer inner delta) n) ≡ cond (holds f n leaf)
        (raised_dual outer inner delta n (dual_of f n)) 0
    share-raised_is leaf n = grind (arith, node_at-raised)

    -- a total changes as the dual of its top does
    pub total-raised_is : (s leaf : ℕ) → IsTop f s → Holds f s leaf →
        total_of (raised f outer inner delta) leaf + dual_of f s ≡ total_of f leaf + raised_dual outer inner delta s (dual_of f s)
    total-raised_is s leaf top held =
        let names = range_with_len 0 (length f.nodes) in
        let old = λ (n : ℕ). share leaf (node_at f n) in
        let new = λ (n : ℕ). share leaf (node_at (raised f outer inner delta) n) in
        let both : sum_by (λ n. new n + cond (eqb s n) (dual_of f s) 0) names ≡ sum_by
        (λ n. old n + cond (eqb s n) (raised_dual outer inner delta s (dual_of f s)) 0) names =
        sum_by-agree (λ n. new n + cond (eqb s n) (dual_of f s) 0)
        (λ n. old n + cond (eqb s n) (raised_dual outer inner delta s (dual_of f s)) 0) names each in
        omega (
          arith,
          both,
          sum_by-plus new (λ n. cond (eqb s n) (dual_of f s) 0) names,
          sum_by-plus old (λ n. cond (eqb s n) (raised_dual outer inner delta s (dual_of f s)) 0) names,
          sum_by-point (λ n. dual_of f s) s 0 (length f.nodes) (omega arith) (omega (arith, name_bound f s top.alive)),
          sum_by-point (λ n. raised_dual outer inner delta s (dual_of f s)) s 0 (length f.nodes) (omega arith) (omega (arith, name_bound f s top.alive)),
          total-names f leaf,
          raised-names leaf,
        )
      where
        each : (n : ℕ) → share leaf (node_at (raised f outer inner delta) n) + cond (eqb s n) (dual_of f s) 0 ≡ share leaf (node_at f n) + cond (eqb s n)
            (raised_dual outer inner delta s (dual_of f s)) 0
        each n = grind (arith, cases_eq s n, cases_Bool (holds f n leaf), share-raised_is, share-is, eq-eqb, raised_plain, top-apart, ne_eqb)

    share-raised_out : (leaf n : ℕ) → (list_any (λ m. eqb m n) outer ≡ false) ⊎ (holds f n leaf ≡ false) →
        share leaf (node_at (raised f outer inner delta) n) ≤ share leaf (node_at f n)
    share-raised_out leaf n out = grind (arith, node_at-raised)

    -- no total passes its bound
    pub total-raised : (leaf : ℕ) → total_of (raised f outer inner delta) leaf ≤ 2 ^ 61
    total-raised leaf =
        elim (cases_Bool (list_any (λ n. holds f n leaf) outer)) [
          | inl some ↦
              let at = place_of_any (λ n. holds f n leaf) outer 0 some in
              let t = get_or outer at.0 0 in
              let up : raised_dual outer inner delta t (dual_of f t) ≡ dual_of f t + delta =
              ap (λ b. cond b (dual_of f t + delta) (cond (list_any (λ n. eqb n t) inner) (dual_of f t - delta) (dual_of f t)))
              (list_any_at (λ n. eqb n t) outer at.0 0 at.1 (eq-eqb t t refl)) in
              omega (arith, total-raised_is t leaf (can.tops.outer_tops at.0 at.1) at.2, up, can.fits at.0 leaf at.1 at.2)
          | inr none ↦
              omega (
                arith,
                raised-names leaf,
                total-names f leaf,
                sum_by-le-sum_by (λ n. share leaf (node_at (raised f outer inner delta) n)) (λ n. share leaf (node_at f n))
                    (range_with_len 0 (length f.nodes)) (λ n. share-raised_out leaf n (not_both n none)),
                fam.bounded leaf,
              )
        ]
      where
        not_both : (n : ℕ) → list_any (λ m. holds f m leaf) outer ≡ false → (list_any (λ m. eqb m n) outer ≡ false) ⊎ (holds f n leaf ≡ false)
        not_both n none =
            elim (cases_Bool (list_any (λ m. eqb m n) outer)) [
              | inl some ↦
                  let at = place_of_any (λ m. eqb m n) outer 0 some in
                  inr (false_from_ne_true (holds f n leaf)
                  (λ held. false≢true (sym none ∙ list_any_at (λ m. holds f m leaf) outer at.0 0 at.1
                  (ap (λ m. holds f m leaf) (eqb-true (get_or outer at.0 0) n at.2) ∙ held))))
              | inr plain ↦ inl plain
            ]

    -- each set stays
    pub leaves-raised : (n : ℕ) → leaves_of (raised f outer inner delta) n ≡ leaves_of f n
    leaves-raised n = grind (arith, node_at-raised)

    -- each cycle stays
    pub cycle-raised : (n : ℕ) → cycle_of (raised f outer inner delta) n ≡ cycle_of f n
    cycle-raised n = grind (arith, node_at-raised)

    -- no node is new
    pub alive-raised : (n : ℕ) → IsAlive (raised f outer inner delta) n → IsAlive f n
    alive-raised n alive = grind (arith, node_at-raised)

    -- and none is lost
    pub alive-kept : (n leaf : ℕ) → Holds f n leaf → IsAlive (raised f outer inner delta) n
    alive-kept n leaf held = alive_from_holds (raised f outer inner delta) n leaf (ap (λ xs. has_leaf xs leaf) (leaves-raised n) ∙ held)

    -- the sets are the same
    pub IsPart-raised : IsPart f (raised f outer inner delta)
    IsPart-raised = grind (arith, node_at-raised, alive-raised, leaves-raised, cycle-raised, alive-kept, total-raised, f.leaf_nodes, fam.leaf_set, fam.cycles)

    -- a raise leaves a family
    pub IsFamily-raised : IsFamily (raised f outer inner delta)
    IsFamily-raised = IsFamily-part fam IsPart-raised

-- a raise changes no set, so it leaves the tops
pub IsTop-raised : (f : Family) (outer inner : List ℕ) (delta : ℕ) → IsFamily f → CanRaise f outer inner delta → (t : ℕ) → IsTop f t →
    IsTop (raised f outer inner delta) t
IsTop-raised f outer inner delta fam can t top =
    let leaf = some_leaf f fam t top.alive in
    IsTop-part fam (IsPart-raised f outer inner delta fam can) t (alive-kept f outer inner delta fam can t leaf.0 leaf.1) top

-- and makes none
pub IsTop-raised_old : (f : Family) (outer inner : List ℕ) (delta : ℕ) → IsFamily f → CanRaise f outer inner delta → (t : ℕ) →
    IsTop (raised f outer inner delta) t → IsTop f t
IsTop-raised_old f outer inner delta fam can t top =
    let same : (n l : ℕ) → holds (raised f outer inner delta) n l ≡ holds f n l =
    (λ n l. ap (λ xs. has_leaf xs l) (leaves-raised f outer inner delta fam can n)) in
    record {
      alive = alive-raised f outer inner delta fam can t top.alive;
      outermost = λ other covers. top.outermost other (λ l h. same other l ∙ covers l (sym (same t l) ∙ h));
    }

-- nor does it change the room
pub length-raised : (f : Family) (outer inner : List ℕ) (delta : ℕ) → length (raised f outer inner delta).nodes ≡ length f.nodes
length-raised f outer inner delta = length-map-range_with_len (λ n. option_map (with_dual (raised_dual outer inner delta n)) (node_at f n)) 0 (length f.nodes)

-- what a raise does to totals and to the duals between two leaves
module _ (f : Family) (outer inner : List ℕ) (delta : ℕ) (fam : IsFamily f) (can : CanRaise f outer inner delta) where
  -- within one top nothing changes
  pub between-raised_same : (s u v : ℕ) → IsTop f s → Holds f s u → Holds f s v →
      duals_between (raised f outer inner delta) u v ≡ duals_between f u v
  between-raised_same s u v top in_u in_v =
      between-names (raised f outer inner delta) ∙ ap (λ k. sum_by (λ n. cut_share u v (node_at (raised f outer inner delta) n)) (range_with_len 0 k))
      (length-map-range_with_len (λ m. option_map (with_dual (raised_dual outer inner delta m)) (node_at f m)) 0 (length f.nodes))
      ∙ sum_by-agree (λ n. cut_share u v (node_at (raised f outer inner delta) n)) (λ n. cut_share u v (node_at f n)) (range_with_len 0 (length f.nodes)) each
      ∙ sym (between-names f)
    where
      between-names : (h : Family) → duals_between h u v ≡ sum_by (λ n. cut_share u v (node_at h n)) (range_with_len 0 (length h.nodes))
      between-names h = sum-names h (cut_share u v)

      go : (n : ℕ) (o : Option Node) →
          (exactly_one (has_leaf (option_map_or (λ (x : Node). x.leaves) o []) u) (has_leaf (option_map_or (λ (x : Node). x.leaves) o []) v) ≡ true →
          (d : ℕ) →
          raised_dual outer inner delta n d ≡ d) → cut_share u v (option_map (with_dual (raised_dual outer inner delta n)) o) ≡ cut_share u v o
      go n o h1 = grind arith

      split : (a b : Bool) → exactly_one a b ≡ true → ((a ≡ true) × (b ≡ false)) ⊎ ((a ≡ false) × (b ≡ true))
      split a b h1 = grind arith

      no_top : (n : ℕ) → exactly_one (holds f n u) (holds f n v) ≡ true → IsTop f n → ⊥
      no_top n one n_top = grind (arith, split, top-apart, false≢true, n_top)

      each : (n : ℕ) → cut_share u v (node_at (raised f outer inner delta) n) ≡ cut_share u v (node_at f n)
      each n = ap (cut_share u v) (node_at-raised f outer inner delta n) ∙ go n (node_at f n)
          (λ one. raised_plain f outer inner delta fam can n (no_top n one))
