use Rattle.std.proofs.Common.{arith, pos, FitsSigned, w64, to_z-of_z, rules, ◌∙◌}
use Rattle.std.proofs.lemmas.List.{get_or_read_under}
use Rattle.sg_graph.proofs.Tables.{lists_long, read_distance}
use Rattle.sg_graph.proofs.table.Table.distance.Goals as goal

pub index-requires : goal.index-requires
index-requires c =
    let t = c.self.inside in
    omega (arith, lists_long c.args.self.now t.source t.distances.items t.edges.items c.self.invariant.0 c.self.view_is)

pub returns : goal.returns
returns c =
    let t = c.self.inside in
    let fits : FitsSigned w64 c.index.result.now = search rules in
    let long = lists_long c.args.self.now t.source t.distances.items t.edges.items c.self.invariant.0 c.self.view_is in
    to_z-of_z fits
    ∙ get_or_read_under t.distances.items c.args.node t.distances.len c.index.result.now (pos 0) c.index.ensures
    (omega arith) t.distances.ok.0
    ∙ read_distance c.args.self.now t.source t.distances.items t.edges.items c.self.invariant.0 c.self.view_is c.args.node c.requires.node_in
    c.requires.reached
