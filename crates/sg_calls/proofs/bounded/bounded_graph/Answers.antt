use Rattle.std.proofs.Common.{◌∙◌, ap, inr, length}
use Rattle.std.proofs.lemmas.List.FromFn.{length-map-range_with_len}
use Rattle.sg_reader.proofs.RestLaws.{failed}
use Rattle.sg_calls.specs.BondCosts.{bound_by, bound_lists}
use Rattle.sg_calls.proofs.bounded.bounded_graph.Goals as goal

pub returns-in_err-check_bounds-clause-refuses : goal.returns-in_err-check_bounds-clause-refuses
returns-in_err-check_bounds-clause-refuses c =
    let given = rw c.large.ensures.value at c.in_ok-planar.ensures.gives in
    let bad = rw c.bonds_in.ensures at c.in_err-check_bounds.ensures.refused in
    failed c.from_residual-in_err-check_bounds.result _ c.from_residual-in_err-check_bounds.ensures.1
    (inr (c.in_ok-planar.planar.instance, given, bad))

pub returns-clause-count : goal.returns-clause-count
returns-clause-count c =
    ap length c.in_ok-graph.ensures
    ∙ length-map-range_with_len (bound_by (bound_lists c.args.low.now c.args.high.now)) 0 (length c.args.low.now)
    ∙ c.in_ok-check_bounds.ensures.low ∙ c.bonds_in.ensures
