-- The duals between two leaves and their totals.
use Rattle.std.proofs.Common.{Bool, List, None, Option, Some, [], arith, cond, get_or, length, refl, sum_by, true, ℕ, ◌*◌, ◌+◌, ◌<◌, ◌∙◌, ◌∷◌, ◌≡◌, ◌≢◌, ◌≤◌}
use Rattle.std.proofs.lemmas.List.Sums.{sum_by-cons}
use Rattle.std.specs.List.{range_with_len}
use Rattle.std.specs.Option.{option_map_or}
use Rattle.sg_arena.specs.Family.{Family, Holds, IsFamily, IsTop, Node, dual_of, has_leaf, leaf_count, node_at, share, total_of}
use Rattle.sg_arena.specs.Slack.{cut_share, duals_between, exactly_one}
use Rattle.sg_arena.proofs.FamilyLemmas.{leaf-held, sum-names, top-covers}
use Rattle.sg_arena.proofs.InnerDuals.{inner_top, no_inner}
use Rattle.sg_base.proofs.ListLaws.{sum_by-agree, sum_by-zero}

-- the duals between two leaves are the same both ways
pub duals_between-back : (f : Family) (u v : ℕ) → duals_between f u v ≡ duals_between f v u
duals_between-back f u v = grind (arith, sum_by-agree, f.nodes)

-- the two totals count the duals between, and twice those of the sets that hold both
abbrev pub both_share : ℕ → ℕ → Option Node → ℕ
both_share u v slot = option_map_or (λ n. cond (has_leaf n.leaves u) (cond (has_leaf n.leaves v) n.dual 0) 0) slot 0

-- the totals of two leaves are the duals between them and twice those of the sets that hold both
pub total-between : (f : Family) (u v : ℕ) → total_of f u + total_of f v ≡ duals_between f u v + 2 * sum_by (both_share u v) f.nodes
total-between f u v = go f.nodes
  where
    cases : (a b : Bool) (d : ℕ) → cond a d 0 + cond b d 0 ≡ cond (exactly_one a b) d 0 + 2 * cond a (cond b d 0) 0
    cases a b d = grind arith

    each : (o : Option Node) → share u o + share v o ≡ cut_share u v o + 2 * both_share u v o
    each o = grind (arith, cases)

    go : (slots : List (Option Node)) → sum_by (share u) slots + sum_by (share v) slots ≡ sum_by (cut_share u v) slots + 2 * sum_by (both_share u v) slots
    go [] = refl
    go (o ∷ rest) = omega (
      arith,
      go rest,
      each o,
      sum_by-cons (share u) o rest,
      sum_by-cons (share v) o rest,
      sum_by-cons (cut_share u v) o rest,
      sum_by-cons (both_share u v) o rest,
    )

-- no set holds leaves of two different tops
pub both-none : (f : Family) → IsFamily f → (s t u v : ℕ) → IsTop f s → IsTop f t → s ≢ t → Holds f s u → Holds f t v → sum_by (both_share u v) f.nodes ≡ 0
both-none f fam s t u v top_s top_t differ in_s in_t =
    sum-names f (both_share u v)
    ∙ sum_by-zero (λ n. both_share u v (node_at f n)) (range_with_len 0 (length f.nodes)) zero_at
  where
    each : (o : Option Node) → (has_leaf (option_map_or (λ x. x.leaves) o []) u ≡ true → has_leaf (option_map_or (λ x. x.leaves) o []) v ≡ true → ⊥) →
        both_share u v o ≡ 0
    each None apart = refl
    each (Some x) apart = grind (arith, x.leaves, x.dual)

    zero_at : (n : ℕ) → both_share u v (node_at f n) ≡ 0
    zero_at n = grind (arith, each, top-covers)

-- so between two tops the duals are the two totals
pub between-tops : (f : Family) → IsFamily f → (s t u v : ℕ) → IsTop f s → IsTop f t → s ≢ t → Holds f s u → Holds f t v →
    duals_between f u v ≡ total_of f u + total_of f v
between-tops f fam s t u v top_s top_t differ in_s in_t = grind (arith, total-between, both-none, fam, top_s, top_t, differ, in_s)

-- a leaf that is its own top has its dual for its total
pub total-leaf_top : (f : Family) → IsFamily f → (l : ℕ) → l < leaf_count f → IsTop f (get_or f.leaf_nodes l 0) →
    total_of f l ≡ dual_of f (get_or f.leaf_nodes l 0)
total-leaf_top f fam l low top =
    omega (arith, inner_top f fam (get_or f.leaf_nodes l 0) l top (leaf-held f fam l low), no_inner f fam l low)

-- an inner leaf between two outer tops has a dual of at least delta, if the outer ones keep that distance
pub inner-leaf_enough : (f : Family) → IsFamily f → (cost : ℕ → ℕ → ℕ) (l y z s r delta : ℕ) → l < leaf_count f → IsTop f (get_or f.leaf_nodes l 0) →
    IsTop f s → IsTop f r → s ≢ r → get_or f.leaf_nodes l 0 ≢ s → get_or f.leaf_nodes l 0 ≢ r → Holds f (get_or f.leaf_nodes l 0) l → Holds f s y →
    Holds f r z → duals_between f l y ≡ cost l y → duals_between f l z ≡ cost l z → cost y z ≤ cost l y + cost l z →
    duals_between f y z + 2 * delta ≤ cost y z → delta ≤ dual_of f (get_or f.leaf_nodes l 0)
inner-leaf_enough f fam cost l y z s r delta low top top_s top_r apart_sr apart_s apart_r in_l in_s in_r tight_y tight_z triangle far =
    grind (arith, between-tops, total-leaf_top, f.leaf_nodes, fam, top, top_s, apart_s, in_l, top_r, apart_r, apart_sr, in_s, low)
