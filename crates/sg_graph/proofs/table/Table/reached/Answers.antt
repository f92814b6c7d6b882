use Rattle.std.proofs.Common.{arith, ap, eqb, not, sym, ◌∙◌}
use Rattle.std.proofs.lemmas.List.{get_or_read_under}
use Rattle.sg_graph.specs.Slots.{unreached}
use Rattle.sg_graph.proofs.Tables.{lists_long, read_reached}
use Rattle.sg_graph.proofs.table.Table.reached.Goals as goal

pub index-requires : goal.index-requires
index-requires c =
    let t = c.self.inside in
    omega (arith, lists_long c.args.self.now t.source t.distances.items t.edges.items c.self.invariant.0 c.self.view_is)

pub returns-clause-value : goal.returns-clause-value
returns-clause-value c =
    let t = c.self.inside in
    let long = lists_long c.args.self.now t.source t.distances.items t.edges.items c.self.invariant.0 c.self.view_is in
    ap (λ n. not (eqb n unreached)) (get_or_read_under t.edges.items c.args.node t.edges.len c.index.result.now 0 c.index.ensures
    (omega arith) t.edges.ok.0)
    ∙ sym (read_reached c.args.self.now t.source t.distances.items t.edges.items c.self.invariant.0 c.self.view_is c.args.node c.requires)
