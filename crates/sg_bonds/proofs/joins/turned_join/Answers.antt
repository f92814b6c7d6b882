use Rattle.sg_bonds.proofs.Common.{false, set, ◌∙◌, length-set, edge_count}
use Rattle.sg_bonds.proofs.JoinsFound.{places_low, places_rise, turned_least, turned_terminals}
use Rattle.sg_bonds.proofs.joins.turned_join.Goals as goal

pub proves_beside-requires-clause-terminals : goal.proves_beside-requires-clause-terminals
proves_beside-requires-clause-terminals c =
    turned_terminals c.args.judged.now.web c.args.judged.now.terminals c.args.edge c.args.has c.in_ok-ends.ends c.in_ok-ends.ensures

pub proves_beside-requires-clause-rising : goal.proves_beside-requires-clause-rising
proves_beside-requires-clause-rising c =
    places_rise (set c.args.marks.now c.args.edge false) (edge_count c.args.judged.now.web)
    (length-set c.args.marks.now c.args.edge false ∙ c.requires.count) c.in_ok-rest.rest c.in_ok-rest.ensures

pub proves_beside-requires-clause-below : goal.proves_beside-requires-clause-below
proves_beside-requires-clause-below c =
    places_low (set c.args.marks.now c.args.edge false) (edge_count c.args.judged.now.web)
    (length-set c.args.marks.now c.args.edge false ∙ c.requires.count) c.in_ok-rest.rest c.in_ok-rest.ensures

pub returns-clause-join : goal.returns-clause-join
returns-clause-join c =
    turned_least c.args.judged.now.web c.args.judged.now.terminals c.args.edge c.requires.edge c.args.marks.now c.requires.count c.args.has
    c.in_ok-rest.rest c.in_ok-places.field-0 c.in_ok-ends.ends c.in_ok-rest.ensures c.in_ok-places.ensures c.in_ok-ends.ensures
    (c.in_ok-proves_beside.ensures.least c.if-not-branch.false)
