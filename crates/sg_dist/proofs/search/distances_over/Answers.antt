use Rattle.std.proofs.Common.{◌≡◌, [], arith, subst, sym, ap, ℕ, ◌∙◌, heap_items, heap_len}
use Rattle.std.proofs.lemmas.List.{nil_from_length}
use Rattle.sg_graph.proofs.Tables.{first_routes}
use Rattle.sg_graph.specs.Web.{edge_count}
use Rattle.sg_graph.specs.Table.{Routes}
use Rattle.sg_dist.specs.Search.{Searches, candidates, reached_count}
use Rattle.sg_dist.proofs.Ends.{IsTableOf-end, Spreads-start, first_table, start_distance}
use Rattle.sg_dist.proofs.Pops.{Searches-dropped, Spreads-popped, popped_count, popped_distance, popped_edge, popped_low, popped_most, popped_not_source, popped_small, popped_source, work_falls}
use Rattle.sg_dist.proofs.search.distances_over.Goals as goal

pub spread-requires-clause-latest : goal.spread-requires-clause-latest
spread-requires-clause-latest c =
    let made : ℕ → Routes = λ n. record { source = c.args.source; to = first_routes n c.args.source } in
    let is : c.in_ok-table.table ≡ first_table c.args.web.now c.args.source c.requires.source = c.in_ok-table.ensures ∙ ap made c.nodes.ensures.value in
    Spreads-start c.args.web.now c.args.source c.requires.source c.in_ok-table.table is (heap_items c.new-heap.result) c.new-heap.ensures.items

pub spread-requires-clause-distance : goal.spread-requires-clause-distance
spread-requires-clause-distance c = grind (arith, first_routes, first_table, start_distance)

pub loop-candidate-init : goal.loop-candidate-init
loop-candidate-init c = grind arith

pub reached-requires : goal.reached-requires
reached-requires c = grind (arith, popped_low)

pub overflow_cast-distance : goal.overflow_cast-distance
overflow_cast-distance c = grind (arith, popped_small)

pub set-requires : goal.set-requires
set-requires c = grind (arith, popped_low, popped_not_source, popped_edge)

pub spread-requires-then-not-reached-clause-distance : goal.spread-requires-then-not-reached-clause-distance
spread-requires-then-not-reached-clause-distance c = grind (arith, popped_distance)

pub spread-requires-then-not-reached-clause-latest : goal.spread-requires-then-not-reached-clause-latest
spread-requires-then-not-reached-clause-latest c =
    Spreads-popped c.nodes.ensures.web c.loop-candidate.invariant.searching c.in-Some.ensures.permutation
    (sym c.reached.ensures.value ∙ c.if-not-reached.true) (c.in-Some.ensures.below_top c.loop-candidate.invariant.order) c.set.ensures

pub loop-candidate-smaller-in-Continue-branch-3 : goal.loop-candidate-smaller-in-Continue-branch-3
loop-candidate-smaller-in-Continue-branch-3 c =
    let count = popped_count c.nodes.ensures.web c.loop-candidate.invariant.searching c.in-Some.ensures.permutation
    (sym c.reached.ensures.value ∙ c.if-not-reached.true) (c.in-Some.ensures.below_top c.loop-candidate.invariant.order) c.set.ensures in
    let most = popped_most c.nodes.ensures.web c.loop-candidate.invariant.searching c.in-Some.ensures.permutation
    (sym c.reached.ensures.value ∙ c.if-not-reached.true) (c.in-Some.ensures.below_top c.loop-candidate.invariant.order) c.set.ensures in
    work_falls c.args.web.now.nodes (reached_count c.loop-candidate.table) (reached_count c.set.new.self) (edge_count c.args.web.now)
    (heap_len c.loop-candidate.heap) (heap_len c.pop.new.self) (heap_len c.spread-then-not-reached.new.heap) count most c.in-Some.ensures.len
    c.in_ok-spread-2.ensures.few

pub loop-candidate-preserved-in-Continue-branch-3 : goal.loop-candidate-preserved-in-Continue-branch-3
loop-candidate-preserved-in-Continue-branch-3 c = grind (arith, popped_source)

pub loop-candidate-preserved : goal.loop-candidate-preserved
loop-candidate-preserved c = record {
  searching = Searches-dropped c.nodes.ensures.web c.loop-candidate.invariant.searching c.in-Some.ensures.permutation
      (sym c.reached.ensures.value ∙ c.if-not-reached.false);
  order = (c.in-Some.ensures.heap_order c.loop-candidate.invariant.order).0;
  source = c.loop-candidate.invariant.source;
}

pub returns : goal.returns
returns c =
    let none : heap_items c.loop-candidate.heap ≡ [] = nil_from_length (heap_items c.loop-candidate.heap)
    (omega (arith, c.in_default.ensures.none)) in
    record {
      table = IsTableOf-end c.args.web.now c.loop-candidate.table (subst (λ xs. Searches c.args.web.now c.loop-candidate.table (candidates xs)) none
          c.loop-candidate.invariant.searching);
      source = c.loop-candidate.invariant.source;
    }
