-- Slacks of terminals that are seen from the totals of their leaves alone.
use Rattle.std.proofs.Common.{inl, inr, ◌≡◌, ℕ, ◌+◌, ◌<◌, ◌≤◌, Bool, true, false, cond, List, Option, None, Some, refl, sym, ap, arith, length}
use Rattle.std.proofs.lemmas.Bool.{cases_eq, cases_lt}
use Rattle.sg_graph.specs.Table.{Routes}
use Rattle.sg_arena.specs.Family.{Family, Node, has_leaf, leaf_count, total_of}
use Rattle.sg_arena.specs.Slack.{cut_share, duals_between, exactly_one}
use Rattle.sg_arena.proofs.DualLemmas.{duals_between-back, total-between}
use Rattle.sg_slack.specs.Matching.{NoSlackIsNegative}
use Rattle.sg_base.proofs.ListLaws.{sum_by-zero}
use Rattle.sg_moat.specs.Input.{terminal_cost}
use Rattle.sg_tjoin.specs.Doubled.{AreMetric}

-- no set parts a leaf from itself
duals_between-self : (f : Family) (u : ℕ) → duals_between f u u ≡ 0
duals_between-self f u = sum_by-zero (cut_share u u) f.nodes each
  where
    neither : (b : Bool) (d : ℕ) → cond (exactly_one b b) d 0 ≡ 0
    neither true d = refl
    neither false d = refl

    each : (o : Option Node) → cut_share u u o ≡ 0
    each None = refl
    each (Some x) = neither (has_leaf x.leaves u) x.dual

-- the totals of each two of the first leaves are at most twice the distance of their terminals
abbrev pub DoTotalsFit : Family → List ℕ → List Routes → ℕ → Type 0
DoTotalsFit f terminals tables upto = (i j : ℕ) → i < upto → j < i → total_of f i + total_of f j ≤ terminal_cost terminals tables i j

-- so no slack is negative: the duals between two leaves are at most their totals
pub NoSlackIsNegative-totals : (f : Family) (terminals : List ℕ) (tables : List Routes) → leaf_count f ≡ length terminals → AreMetric terminals tables →
    DoTotalsFit f terminals tables (length terminals) → NoSlackIsNegative f (terminal_cost terminals tables)
NoSlackIsNegative-totals f terminals tables leaves metric fit u v l m =
    elim (cases_lt v u) [
      | inl less ↦ omega (arith, total-between f u v, fit u v (omega (arith, leaves)) less)
      | inr more ↦ elim (cases_eq u v) [
        | inl same ↦ omega (arith, ap (duals_between f u) (sym same), duals_between-self f u)
        | inr differs ↦ omega (
          arith,
          duals_between-back f u v,
          total-between f v u,
          fit v u (omega (arith, leaves)) (omega arith),
          metric.symmetric u v (omega (arith, leaves)) (omega (arith, leaves)),
        )
      ]
    ]
