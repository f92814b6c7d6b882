use Rattle.std.proofs.Common.{FitsSigned, arith, ap, false, get_or, length, pos, rules, sym, take, to_z-of_z, true, unsigned_abs, w64, ◌+◌, ◌<◌, ◌≡◌, ◌≤◌, ◌∙◌, ◌^◌, subst}
use Rattle.std.proofs.lemmas.List.{take_all}
use Rattle.std.specs.BinaryHeap.{KeepsHeap, heap_items, heap_len}
use Rattle.sg_graph.specs.Table.{length_to}
use Rattle.sg_graph.proofs.Incidences.{incident_few, incident_leads}
use Rattle.sg_graph.proofs.Tables.{reached_low}
use Rattle.sg_graph.specs.Web.{edge_weight, total_weight}
use Rattle.sg_dist.specs.Order.{nearest_last}
use Rattle.sg_dist.specs.Search.{Spreads, candidates}
use Rattle.sg_dist.proofs.Pushes.{Spreads-next_known, Spreads-next_new, ends_of, sum_small, weight_is}
use Rattle.sg_dist.proofs.Steps.{Searches-spread}
use Rattle.sg_dist.proofs.search.spread.Goals as goal
use Rattle.sg_dist.proofs.search.spread.Goals.{then-not-reached+in_ok-push, else-not-reached}

pub loop-k-preserved : goal.loop-k-preserved
loop-k-preserved c =
    let low : c.loop-k.k-index < length c.at-edges_here.result.now = omega arith in
    let same : c.as_slice-edges.result.now ≡ c.args.web.now.edges = c.as_slice-edges.ensures ∙ c.edges.ensures.value in
    let ends = ends_of c.requires.incident c.requires.latest c.at-edges_here.result.now c.at-edges_here.ensures c.loop-k.k-index 0 low in
    elim c.if-not-reached.branch [
      | then-not-reached+in_ok-push w ↦ (
          let fits : FitsSigned w64 (get_or c.as_slice-edges.result.now (get_or c.at-edges_here.result.now c.loop-k.k-index 0)
          (record { a = 0; b = 0; w = pos 0 })).w = search rules in
          record {
            searching = subst (λ h. Spreads c.args.web.now c.args.table.now (candidates (heap_items h)) c.args.node
                (take (c.loop-k.k-index + 1) c.at-edges_here.result.now)) (sym w.heap-is)
                (Spreads-next_new c.args.web.now c.args.table.now c.args.node c.at-edges_here.result.now c.loop-k.k-index c.other-other.result
                c.as_slice-edges.result.now low same ends c.other-other.ensures
                (heap_items c.loop-k.heap) _ c.args.distance w.unsigned_abs.result c.requires.distance
                (w.unsigned_abs.ensures.value ∙ ap unsigned_abs (to_z-of_z fits)) w.in_ok-push.ensures.permutation c.loop-k.invariant.searching);
            order = λ h. subst (λ q. KeepsHeap nearest_last (heap_items c.loop-k.heap) (heap_items q))
                (sym w.heap-is) w.in_ok-push.ensures.heap_order (c.loop-k.invariant.order h);
            few = omega (arith, w.in_ok-push.ensures.len, ap (λ q. heap_len q) w.heap-is);
          })
      | else-not-reached w ↦ (
          let h : c.reached.result ≡ true = w.if-not-reached.false in
          record {
            searching = subst (λ h. Spreads c.args.web.now c.args.table.now (candidates (heap_items h)) c.args.node
                (take (c.loop-k.k-index + 1) c.at-edges_here.result.now)) (sym w.heap-is)
                (Spreads-next_known c.args.web.now c.args.table.now c.args.node c.at-edges_here.result.now c.loop-k.k-index c.other-other.result
                c.as_slice-edges.result.now low same ends c.other-other.ensures
                (candidates (heap_items c.loop-k.heap)) (sym c.reached.ensures.value ∙ h) c.loop-k.invariant.searching);
            order = λ h. subst (λ q. KeepsHeap nearest_last (heap_items c.loop-k.heap) (heap_items q)) (sym w.heap-is) (λ k. k) (c.loop-k.invariant.order h);
            few = omega (arith, ap (λ q. heap_len q) w.heap-is);
          })
    ]

pub overflow_add-distance : goal.overflow_add-distance
overflow_add-distance c =
    let low : c.loop-k.k-index < length c.at-edges_here.result.now = omega arith in
    let same : c.as_slice-edges.result.now ≡ c.args.web.now.edges = c.as_slice-edges.ensures ∙ c.edges.ensures.value in
    let ends = ends_of c.requires.incident c.requires.latest c.at-edges_here.result.now c.at-edges_here.ensures c.loop-k.k-index 0 low in
    let fits : FitsSigned w64 (get_or c.as_slice-edges.result.now (get_or c.at-edges_here.result.now c.loop-k.k-index 0)
    (record { a = 0; b = 0; w = pos 0 })).w = search rules in
    let h : c.reached.result ≡ false = c.if-not-reached.true in
    let weight : c.unsigned_abs.result ≡ edge_weight c.args.web.now (get_or c.at-edges_here.result.now c.loop-k.k-index 0) =
    c.unsigned_abs.ensures.value ∙ ap unsigned_abs (to_z-of_z fits)
    ∙ weight_is c.args.web.now c.args.table.now c.args.node c.at-edges_here.result.now c.loop-k.k-index c.other-other.result
    c.as_slice-edges.result.now low same ends c.other-other.ensures in
    let small : length_to c.args.table.now c.args.node + edge_weight c.args.web.now
    (get_or c.at-edges_here.result.now c.loop-k.k-index 0) ≤ total_weight c.args.web.now =
    sum_small c.args.web.now c.args.table.now c.args.node c.at-edges_here.result.now c.loop-k.k-index c.other-other.result
    c.as_slice-edges.result.now low same ends c.other-other.ensures (candidates (heap_items c.loop-k.heap)) _ c.loop-k.invariant.searching
    (sym c.reached.ensures.value ∙ h) in
    let all : total_weight c.args.web.now ≤ 2 ^ 60 = c.edges.ensures.web.light in
    omega (arith, weight, small, all)

pub at-edges_here-requires : goal.at-edges_here-requires
at-edges_here-requires c = grind (arith, reached_low)

pub bounds-edges-k : goal.bounds-edges-k
bounds-edges-k c =
    let low : c.loop-k.k-index < length c.at-edges_here.result.now = omega arith in
    let ends = ends_of c.requires.incident c.requires.latest c.at-edges_here.result.now c.at-edges_here.ensures c.loop-k.k-index 0 low in
    omega (arith, ends.0, ap length c.as_slice-edges.ensures, ap length c.edges.ensures.value)

pub returns : goal.returns
returns c =
    let node_in = reached_low c.args.table.now c.args.node c.requires.latest.here in
    let all : take c.loop-k.k-index c.at-edges_here.result.now ≡ c.at-edges_here.result.now = take_all c.loop-k.k-index c.at-edges_here.result.now
    (omega arith) in
    record {
      spread = Searches-spread
          (subst (Spreads c.args.web.now c.args.table.now (candidates (heap_items c.loop-k.heap)) c.args.node) all c.loop-k.invariant.searching)
          (λ e u l. incident_leads c.args.web.now c.args.incidence.now c.requires.incident c.args.node
          (omega (arith, node_in)) c.at-edges_here.result.now c.at-edges_here.ensures e u l);
      order = c.loop-k.invariant.order;
      few = omega (
        arith,
        incident_few c.args.web.now c.args.incidence.now c.requires.incident c.args.node
            (omega (arith, node_in, c.requires.latest.finds.count)) c.at-edges_here.result.now c.at-edges_here.ensures,
      );
    }
