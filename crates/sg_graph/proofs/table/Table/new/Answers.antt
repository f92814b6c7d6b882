use Rattle.std.proofs.Common.{List, Option, arith, sym, subst, length-set}
use Rattle.sg_graph.specs.Table.{IsTable, Route}
use Rattle.sg_graph.proofs.Tables.{IsTable-first, first_routes_is}
use Rattle.sg_graph.proofs.table.Table.new.Goals as goal

pub invariant_of-result : goal.invariant_of-result
invariant_of-result c =
    let is = first_routes_is c.args.nodes c.args.source c.in_ok-distances.distances.items c.in_ok-edges.edges.items
    (c.in_ok-distances.ensures.items_if_clones_equal (λ y e. e)) (c.in_ok-edges.ensures.items_if_clones_equal (λ y e. e)) in
    let P : List (Option Route) → Type 0 = λ rs. IsTable (record { source = c.args.source; to = rs }) in (
      omega (
        arith,
        c.in_ok-distances.ensures.len,
        c.in_ok-edges.ensures.len,
        length-set
            c.in_ok-edges.edges.items c.args.source 0,
      ),
      subst P (sym is) (IsTable-first c.args.nodes c.args.source c.requires.source_in c.requires.few),
    )

pub returns : goal.returns
returns c = grind (arith, first_routes_is)
