use Rattle.std.proofs.Common.{◌∙◌, arith, ap, length}
use Rattle.std.proofs.lemmas.List.FromFn.{length-map-range_with_len}
use Rattle.sg_calls.specs.Networks.{edge_by}
use Rattle.sg_calls.proofs.networks.joined_web.Goals as goal

pub web_within-requires-clause-few_edges : goal.web_within-requires-clause-few_edges
web_within-requires-clause-few_edges c =
    let given = c.args.given.now in
    let count = ap length c.in_ok-edges.ensures ∙ length-map-range_with_len (edge_by given.ends.now given.weights.now) 0 (length given.weights.now) in
    omega (arith, count, c.requires.few_edges)
