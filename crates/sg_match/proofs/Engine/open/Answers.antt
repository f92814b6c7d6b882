-- `open`: leaves alone, and room for all lists.
use Rattle.std.proofs.Common.{◌≡◌, ℕ, ◌+◌, ◌*◌, length, get_or, None, sym, ap, ◌∙◌, arith, subst, replicate, Option, zero, suc, refl}
use Rattle.sg_match.specs.declared.Edge.{Edge}
use Rattle.std.proofs.lemmas.List.{length-replicate}
use Rattle.sg_match.proofs.Engine.open.Goals as goal
use Rattle.sg_match.proofs.Engine.open.Goals.{In_ok-near}
use Rattle.sg_match.proofs.OpeningLemmas.{IsEngine-opened, steps_left-opened}
use Rattle.sg_match.specs.Pairs.{pair_of}
use Rattle.sg_match.specs.Steps.{steps_left}
use Rattle.sg_slack.specs.Metric.{IsMetric}
use Rattle.sg_slack.specs.Table.{Table}

always : (k n : ℕ) → get_or (replicate {A = Option Edge} k None) n None ≡ None
always zero n = refl
always (suc k) zero = refl
always (suc k) (suc n) = always k n

free_of : (c : In_ok-near) → (n : ℕ) → pair_of c.in_ok-alone.alone.pairs.items n ≡ None
free_of c n = subst (λ xs. get_or xs n None ≡ None) (sym c.in_ok-alone.ensures.pairs) (always (length c.in_ok-alone.alone.arena.nodes) n)

room_of : (c : In_ok-near) → length c.in_ok-alone.alone.pairs.items ≡ length c.in_ok-alone.alone.arena.nodes
room_of c = omega (arith, ap length c.in_ok-alone.ensures.pairs, length-replicate {A = Option Edge} (length c.in_ok-alone.alone.arena.nodes) None)

size_of : (c : In_ok-near) → length c.in_ok-alone.alone.arena.leaf_nodes ≡ c.in_ok-near.near.table.size
size_of c = c.in_ok-alone.ensures.leaves ∙ c.size-k.ensures.value ∙ ap (λ (t : Table). t.size) (sym c.in_ok-near.ensures.table)

metric_of : (c : In_ok-near) → IsMetric c.in_ok-near.near.table
metric_of c = subst (λ t. IsMetric t) (sym c.in_ok-near.ensures.table) c.requires

pub invariant_of-result : goal.invariant_of-result
invariant_of-result c =
    let here = (goal.at.invariant_of-result c).In_ok-near in
    let arena = c.in_ok-alone.alone.arena in
    record {
      engine = IsEngine-opened arena c.in_ok-alone.ensures.alone c.in_ok-alone.ensures.fresh c.in_ok-near.near.table (metric_of here) (size_of here)
          c.in_ok-alone.alone.pairs.items
          (room_of here) (free_of here) c.in_ok-alone.alone.exposed.items c.in_ok-lists.lists.edges.items c.in_ok-alone.ensures.exposed
          c.in_ok-lists.ensures.empty;
      edges = omega (arith, c.in_ok-lists.ensures.edges, c.room.ensures.value);
      exposed = omega (arith, c.in_ok-alone.ensures.room);
      outer = omega (arith, c.in_ok-lists.ensures.outer, c.room.ensures.value);
      inner = omega (arith, c.in_ok-lists.ensures.inner, c.room.ensures.value);
      cycle = omega (arith, c.in_ok-lists.ensures.cycle, c.room.ensures.value);
      ring = omega (arith, c.in_ok-lists.ensures.ring, c.room.ensures.value);
      tops = omega (arith, c.in_ok-tables.ensures.tops, c.in_ok-alone.ensures.leaves);
      totals = omega (arith, c.in_ok-tables.ensures.totals, c.in_ok-alone.ensures.leaves);
      marks = omega (arith, c.in_ok-tables.ensures.marks, c.in_ok-alone.ensures.leaves);
      mates = omega (arith, c.in_ok-tables.ensures.mates, c.in_ok-alone.ensures.leaves);
    }

pub returns-clause-engine : goal.returns-clause-engine
returns-clause-engine c = (invariant_of-result c).engine

pub returns-clause-left : goal.returns-clause-left
returns-clause-left c =
    let here = (goal.at.returns-clause-left c).In_ok-near in
    let same = ap (λ (t : Table). t.size) c.in_ok-near.ensures.table in
    let left = steps_left-opened c.in_ok-alone.alone.arena c.in_ok-alone.ensures.alone c.in_ok-alone.ensures.fresh c.in_ok-near.near.table (metric_of here)
    (size_of here)
    c.in_ok-alone.alone.pairs.items (room_of here) (free_of here)
    c.in_ok-alone.alone.exposed.items c.in_ok-lists.lists.edges.items c.in_ok-alone.ensures.exposed c.in_ok-lists.ensures.empty in
    subst (λ k. steps_left (record {
      family = c.in_ok-alone.alone.arena;
      table = c.in_ok-near.near.table;
      pairs = c.in_ok-alone.alone.pairs.items;
      exposed = c.in_ok-alone.alone.exposed.items;
      root = None;
      edges = c.in_ok-lists.lists.edges.items;
    }) + k ≡ 2 * k * k) same left
