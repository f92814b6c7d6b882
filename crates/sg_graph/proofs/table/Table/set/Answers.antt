use Rattle.std.proofs.Common.{arith, FitsSigned, w64, to_z, of_z, to_z-of_z, rules, length-set}
use Rattle.sg_graph.proofs.Tables.{IsTable-set, lists_long, with_route_is}
use Rattle.sg_graph.proofs.table.Table.set.Goals as goal

pub index_mut-requires : goal.index_mut-requires
index_mut-requires c =
    let t = c.self.inside in
    omega (arith, lists_long c.args.self.now t.source t.distances.items t.edges.items c.self.invariant.0 c.self.view_is)

pub index_mut-requires-2 : goal.index_mut-requires-2
index_mut-requires-2 c =
    let t = c.self.inside in
    omega (arith, lists_long c.args.self.now t.source t.distances.items t.edges.items c.self.invariant.0 c.self.view_is)

pub invariant_of-self : goal.invariant_of-self
invariant_of-self c =
    let t = c.self.inside in
    let fits : FitsSigned w64 c.args.distance = search rules in (
      omega (
        arith,
        length-set t.distances.items c.args.node
            (to_z w64 (of_z w64 c.args.distance)),
        length-set t.edges.items c.args.node c.args.edge,
      ),
      IsTable-set c.args.self.now t.source t.distances.items t.edges.items c.args.node c.args.edge c.args.distance _ c.self.invariant.0 c.requires.edge
          c.self.view_is (to_z-of_z fits) c.requires.not_source c.self.invariant.1,
    )

pub returns : goal.returns
returns c =
    let t = c.self.inside in
    let fits : FitsSigned w64 c.args.distance = search rules in
    with_route_is c.args.self.now t.source t.distances.items t.edges.items c.args.node c.args.edge c.args.distance _ c.self.invariant.0 c.requires.edge
    c.self.view_is (to_z-of_z fits)
