use Rattle.std.proofs.Common.{arith, ap, sym, Some, ◌≡◌, ◌∙◌, get_or}
use Rattle.std.proofs.lemmas.List.{get_or_read_under}
use Rattle.sg_graph.proofs.Tables.{lists_long, no_parent_source, no_parent_unreached, read_parent}
use Rattle.sg_graph.proofs.table.Table.parent.Goals as goal
use Rattle.sg_graph.proofs.table.Table.parent.Goals.{else-node-self-via-then-node-self+else-edge, else-node-self-via-else-node-self}

pub index-edge-requires : goal.index-edge-requires
index-edge-requires c =
    let t = c.self.inside in
    omega (arith, lists_long c.args.self.now t.source t.distances.items t.edges.items c.self.invariant.0 c.self.view_is)

pub returns-then-edge : goal.returns-then-edge
returns-then-edge c =
    let t = c.self.inside in
    let long = lists_long c.args.self.now t.source t.distances.items t.edges.items c.self.invariant.0 c.self.view_is in
    let read : c.index-edge.result.now ≡ get_or t.edges.items c.args.node 0 = get_or_read_under t.edges.items c.args.node t.edges.len c.index-edge.result.now
    0 c.index-edge.ensures (omega arith) t.edges.ok.0 in
    ap (λ e. Some e) read
    ∙ read_parent c.args.self.now t.source t.distances.items t.edges.items c.self.invariant.0 c.self.view_is c.args.node c.requires
    (λ h. c.if-node-self.true (sym h)) (λ h. c.if-edge.true (read ∙ h))

pub returns-else-node-self : goal.returns-else-node-self
returns-else-node-self c =
    let t = c.self.inside in
    let long = lists_long c.args.self.now t.source t.distances.items t.edges.items c.self.invariant.0 c.self.view_is in
    let read : c.index-edge.result.now ≡ get_or t.edges.items c.args.node 0 = get_or_read_under t.edges.items c.args.node t.edges.len c.index-edge.result.now
    0 c.index-edge.ensures (omega arith) t.edges.ok.0 in
    elim c.else-node-self.branch [
      | else-node-self-via-then-node-self+else-edge w ↦ no_parent_unreached c.args.self.now t.source t.distances.items t.edges.items c.self.invariant.0
          c.self.view_is c.args.node c.requires (sym read ∙ w.if-edge.false)
      | else-node-self-via-else-node-self w ↦ no_parent_source c.args.self.now t.source t.distances.items t.edges.items c.self.invariant.0 c.self.view_is
          c.args.node c.requires (sym w.if-node-self.false)
    ]
