-- From the tables of the leaves to the amount of a raise.
use Rattle.std.proofs.Common.{◌≡◌, ◌≢◌, ℕ, ◌*◌, ◌-◌, ◌/◌, ◌%◌, ◌<◌, ◌≤◌, List, length, get_or, ℤ, pos, refl, sym, ap, ◌∙◌, arith}
use Rattle.std.proofs.lemmas.Int.{ints}
use Rattle.sg_arena.proofs.DualLemmas.{between-tops}
use Rattle.sg_arena.proofs.FamilyLemmas.{leaf_bound, some_leaf, top-apart}
use Rattle.sg_arena.specs.Family.{Family, Holds, IsBlossom, IsFamily, IsTop, dual_of, leaf_count, total_of}
use Rattle.sg_arena.specs.Slack.{duals_between}
use Rattle.sg_match.proofs.TreeLemmas.{out_holds}
use Rattle.sg_match.specs.DualChange.{CanChangeDuals}
use Rattle.sg_match.specs.declared.Event.{Event}
use Rattle.sg_match.specs.Scans.{CanScan, IsScanned, IsScannedAt}
use Rattle.sg_match.specs.Nearest.{IsAt, IsNearest}
use Rattle.sg_match.specs.Feasible.{IsFeasible}
use Rattle.sg_match.specs.Marks.{IsListed, AreRightMarks}
use Rattle.sg_slack.specs.Metric.{IsMetric, cost}
use Rattle.sg_match.specs.Tree.{IsOut, IsShape, StandsAt, inners, outers}
use Rattle.sg_match.specs.declared.TreeEdge.{TreeEdge}
use Rattle.sg_slack.specs.Slack.{IsOuterFree, IsOuterOuter, SumsFit, mark_at, slack_of}
use Rattle.sg_slack.specs.Table.{Table}
use Rattle.sg_slack.specs.declared.Mark.{Mark}
use Rattle.sg_slack.specs.declared.Mark.TheVariants.{Free, Outer}

-- the mark of a leaf's top says where the leaf stands
pub IsMarked-stands : (f : Family) (root : ℕ) (edges : List TreeEdge) (tops : List ℕ) (totals : List ℤ) (marks : List Mark) → IsFamily f →
    IsShape f root edges → IsListed f tops totals → length marks ≡ leaf_count f →
    ((leaf : ℕ) → leaf < leaf_count f → StandsAt root edges (get_or tops leaf 0) (mark_at marks leaf)) → AreRightMarks f root edges marks
IsMarked-stands f root edges tops totals marks fam shape listed count stands =
    grind (arith, ints, out_holds, count, stands, listed.held, shape.tops.outer_tops, shape.tops.inner_tops, listed.top)

-- a leaf of an outer top is marked so
pub mark-outer : (f : Family) (root : ℕ) (edges : List TreeEdge) (marks : List Mark) → IsFamily f → IsShape f root edges → AreRightMarks f root edges marks →
    (u i : ℕ) → u < leaf_count f → i < length (outers root edges) → Holds f (get_or (outers root edges) i 0) u → mark_at marks u ≡ Outer
mark-outer f root edges marks fam shape marked u i low within held = go (mark_at marks u) refl
  where
    go : (m : Mark) → mark_at marks u ≡ m → mark_at marks u ≡ Outer
    go m e = grind (arith, ints, top-apart)

-- a raise may go as far as the nearest pair and the blossoms' duals let it
pub CanChangeDuals-nearest : (f : Family) (cost : ℕ → ℕ → ℕ) (root : ℕ) (edges : List TreeEdge) (amount : ℕ) (event : Event) (delta : ℕ) →
    IsNearest f cost root edges amount event → delta ≤ amount →
    ((i : ℕ) → i < length (inners edges) → IsBlossom f (get_or (inners edges) i 0) → delta ≤ dual_of f (get_or (inners edges) i 0)) →
    CanChangeDuals f cost root edges delta
CanChangeDuals-nearest f cost root edges amount event delta near less blossoms = grind (arith, ints, less, near.slacks.free, near.slacks.between, blossoms)

module _ (f : Family) (table : Table) (root : ℕ) (edges : List TreeEdge) (tops : List ℕ) (totals : List ℤ) (marks : List Mark) (costs : IsMetric table)
    (count : leaf_count f ≡ table.size) (feasible : IsFeasible f (cost table)) (shape : IsShape f root edges) (listed : IsListed f tops totals)
    (marked : AreRightMarks f root edges marks) where
  abbrev fam : IsFamily f
  fam = feasible.family

  size_low : (u : ℕ) → u < leaf_count f → u < table.size
  size_low u low = omega (arith, low, count)

  -- the slack that a scan finds is the cost less the duals between
  slack_is : (u v : ℕ) → u < leaf_count f → v < leaf_count f → get_or tops u 0 ≢ get_or tops v 0 →
      slack_of table totals u v ≡ pos (cost table u v - duals_between f u v)
  slack_is u v low_u low_v apart =
      grind (arith, ints, between-tops, size_low, listed.top, low_u, low_v, apart, listed.held, listed.total, costs.whole, feasible.slack)

  -- the mark of a leaf whose top stands in the tree
  mark_outer : (u i : ℕ) → u < leaf_count f → i < length (outers root edges) → Holds f (get_or (outers root edges) i 0) u → mark_at marks u ≡ Outer
  mark_outer = mark-outer f root edges marks fam shape marked

  mark_free : (v : ℕ) → v < leaf_count f → ((j : ℕ) → j < length (outers root edges) → Holds f (get_or (outers root edges) j 0) v → ⊥) →
      ((j : ℕ) → j < length (inners edges) → Holds f (get_or (inners edges) j 0) v → ⊥) → mark_at marks v ≡ Free
  mark_free v low no_outer no_inner = go (mark_at marks v) refl
    where
      go : (m : Mark) → mark_at marks v ≡ m → mark_at marks v ≡ Free
      go m e = grind (arith, ints)

  -- an outer and a free leaf, and two outer ones in different tops, have different tops
  tops_free : (u v i : ℕ) → u < leaf_count f → v < leaf_count f → i < length (outers root edges) → Holds f (get_or (outers root edges) i 0) u →
      ((j : ℕ) → j < length (outers root edges) → Holds f (get_or (outers root edges) j 0) v → ⊥) → get_or tops u 0 ≢ get_or tops v 0
  tops_free u v i low_u low_v within held no_outer same =
      grind (arith, ints, top-apart, no_outer, within, same, shape.tops.outer_tops, listed.top, low_u, held, listed.held, low_v)

  tops_apart : (u v i j : ℕ) → u < leaf_count f → v < leaf_count f → i < length (outers root edges) → j < length (outers root edges) → i ≢ j →
      Holds f (get_or (outers root edges) i 0) u → Holds f (get_or (outers root edges) j 0) v → get_or tops u 0 ≢ get_or tops v 0
  tops_apart u v i j low_u low_v in_i in_j differ held_u held_v same =
      let at = shape.tops in
      grind (arith, ints, top-apart, differ, at.outer_differ, in_i, in_j, at.outer_tops, listed.top, low_u, held_u, listed.held, same, low_v, held_v)

  -- no slack leaves 64 bits
  pub SumsFit-listed : SumsFit table totals
  SumsFit-listed =
      record {
        first = λ u v low_u low_v. let low : u < leaf_count f = omega (arith, low_u, count) in omega
            (arith, ints, costs.whole u v low_u low_v, costs.bounded u v low_u low_v, listed.total u low, fam.bounded u);
        slack = λ u v low_u low_v.
            let low : u < leaf_count f = omega (arith, low_u, count) in
            let low' : v < leaf_count f = omega (arith, low_v, count) in
            omega (
              arith,
              ints,
              costs.whole u v low_u low_v,
              costs.bounded u v low_u low_v,
              listed.total u low,
              listed.total v low',
              fam.bounded u,
              fam.bounded v,
            );
      }

  leaf_low : (u : ℕ) → u < table.size → u < leaf_count f
  leaf_low u low = omega (arith, low, count)

  -- an outer and a free leaf have different tops
  free_apart : (u v : ℕ) → IsOuterFree table marks u v → get_or tops u 0 ≢ get_or tops v 0
  free_apart u v pair = grind (arith, ints, leaf_low, tops_free, marked.outer, pair.u_leaf, pair.outer, pair.v_leaf, marked.free, pair.free)

  module _ (alike : (i j u v : ℕ) → i < length (outers root edges) → j < length (outers root edges) → Holds f (get_or (outers root edges) i 0) u →
      Holds f (get_or (outers root edges) j 0) v → total_of f u % 2 ≡ total_of f v % 2) where
    -- the slack of two outer leaves of different tops is even
    even_both : (u v : ℕ) → IsOuterOuter table tops marks u v → (n : ℕ) × (slack_of table totals u v ≡ pos (2 * n))
    even_both u v pair =
        let low_u = leaf_low u pair.u_leaf in
        let low_v = leaf_low v pair.v_leaf in
        let at_u = marked.outer u low_u pair.u_outer in
        let at_v = marked.outer v low_v pair.v_outer in
        let between = between-tops f fam (get_or tops u 0) (get_or tops v 0) u v (listed.top u low_u) (listed.top v low_v) pair.apart (listed.held u low_u)
        (listed.held v low_v) in
        let same = alike at_u.0 at_v.0 u v at_u.1 at_v.1 at_u.2 at_v.2 in
        let whole : 2 * ((cost table u v - duals_between f u v) / 2) ≡ cost table u v - duals_between f u v =
        omega (arith, between, same, costs.even u v pair.u_leaf pair.v_leaf, feasible.slack u v low_u low_v) in
        ((cost table u v - duals_between f u v) / 2, slack_is u v low_u low_v pair.apart ∙ ap pos (sym whole))

    -- the tables of the leaves may be scanned
    pub CanScan-listed : (t v : ℕ) → IsTop f t → IsOut root edges t → Holds f t v → CanScan table tops totals marks
    CanScan-listed t v top out held =
        let low = leaf_bound f fam t v held in
        let first : 0 < length (outers root edges) = omega arith in
        let u = some_leaf f fam root (shape.tops.outer_tops 0 first).alive in
        let low_u = leaf_bound f fam root u.0 u.1 in
        record {
          some = (
            u.0,
            v,
            record {
              u_leaf = size_low u.0 low_u;
              v_leaf = size_low v low;
              outer = mark_outer u.0 0 low_u first u.1;
              free = let none = out_holds f feasible.family root edges shape.tops.outer_tops shape.tops.inner_tops t v top held out in mark_free v low
                  none.0 none.1;
            },
          );
          free = λ a b pair. (cost table a b - duals_between f a b, slack_is a b (leaf_low a pair.u_leaf) (leaf_low b pair.v_leaf) (free_apart a b pair));
          both = even_both;
        }

  -- the pair that the tables give stands in the family
  IsAt-scanned : (amount : ℕ) (event : Event) → IsScannedAt table tops totals marks amount event → IsAt f (cost table) root edges amount event
  IsAt-scanned amount event none = grind (arith, ints, leaf_low, slack_is, free_apart, top-apart)

  -- what the scans give is the amount of the raise, and what stops it
  pub IsNearest-scanned : (amount : ℕ) (event : Event) → IsScanned table tops totals marks amount event → IsNearest f (cost table) root edges amount event
  IsNearest-scanned amount event scanned =
      record {
        slacks = record {
          free = grind (arith, ints, mark_outer, mark_free, size_low, tops_free, slack_is, scanned.free, feasible.slack);
          between = λ u v i j low_u low_v in_i in_j differ held_u held_v.
              let apart = tops_apart u v i j low_u low_v in_i in_j differ held_u held_v in
              let least_here = scanned.between u v
              (grind (arith, ints, size_low, mark_outer)) in
              omega (arith, ints, least_here, slack_is u v low_u low_v apart, feasible.slack u v low_u low_v);
        };
        one = IsAt-scanned amount event scanned.one;
      }
