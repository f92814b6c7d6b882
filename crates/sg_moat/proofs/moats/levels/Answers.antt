use Rattle.std.proofs.Common.{length, arith}
use Rattle.sg_graph.proofs.OnceLists.{rising_few}
use Rattle.sg_moat.specs.Gathers.{Gathers}
use Rattle.sg_moat.proofs.Packing.{IsMoatInput, IsMoatInput-from, duals_total, packs}
use Rattle.sg_moat.proofs.SetDepths.{tables_full}
use Rattle.sg_moat.proofs.moats.levels.Goals as goal

pub add_set-requires-clause-tables : goal.add_set-requires-clause-tables
add_set-requires-clause-tables c =
    tables_full c.args.web.now c.args.terminals.now c.args.tables.now c.requires.connected c.requires.terminals c.requires.tables

pub add_set-requires-clause-few : goal.add_set-requires-clause-few
add_set-requires-clause-few c =
    grind (arith, rising_few, c.requires.tables.count, c.requires.terminals.below, c.requires.terminals.rising, c.nodes-nodes.ensures.web.few_nodes)

input : (c : goal.After-loop-name) → IsMoatInput c.args.family.now c.args.web.now c.args.terminals.now c.args.tables.now
input c =
    IsMoatInput-from c.args.family.now c.args.web.now c.args.terminals.now c.args.tables.now c.nodes-nodes.ensures.web c.requires.connected
    c.requires.terminals c.requires.leaves c.requires.tables c.requires.slack

all_sets : (c : goal.After-loop-name) → Gathers c.args.family.now c.args.web.now c.args.tables.now (length c.args.family.now.nodes) c.loop-name.cuts
all_sets c = grind (arith, c.loop-name.cuts, c.loop-name-test.false, c.loop-name.auto.name-end, c.room-name-end.ensures.value, c.loop-name.invariant)

pub returns-clause-packs : goal.returns-clause-packs
returns-clause-packs c = grind (arith, packs, input, all_sets, c.room-name-end.ensures.family, c.loop-name.cuts)

pub returns-clause-total : goal.returns-clause-total
returns-clause-total c = grind (arith, duals_total, input, all_sets, c.room-name-end.ensures.family, c.loop-name.cuts)
