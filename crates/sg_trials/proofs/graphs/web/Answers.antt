use Rattle.std.proofs.Common.{arith, ap, length, subst, sum_by, sym, All}
use Rattle.std.proofs.lemmas.List.{length_push}
use Rattle.std.proofs.lemmas.List.Elements.{All-push}
use Rattle.std.proofs.lemmas.List.Sums.{sum_by_push}
use Rattle.sg_graph.specs.Web.{IsEdge, weight_at}
use Rattle.sg_trials.proofs.graphs.web.Goals as goal

pub loop-a-preserved : goal.loop-a-preserved
loop-a-preserved g c =
    let is = c.in_ok-push.ensures.ok in
    let e = c.edge.result in
    record {
      count = omega (arith, ap length is, length_push c.loop-a.edges e);
      joined = subst (All (IsEdge c.args.nodes)) (sym is) (All-push (IsEdge c.args.nodes) c.loop-a.edges e c.loop-a.invariant.joined c.edge.ensures.joined);
      light = omega (arith, ap (sum_by weight_at) is, sum_by_push weight_at c.loop-a.edges e, c.edge.ensures.small, c.loop-a.invariant.light);
    }
