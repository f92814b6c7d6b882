use Rattle.std.proofs.Common.{arith}
use Rattle.sg_bonds.proofs.JoinsFound.{same_mark, terminal_mark, turned_mark}
use Rattle.sg_bonds.proofs.joins.turn_terminals.Goals as goal

pub returns-then-has-clause-turned : goal.returns-then-has-clause-turned
returns-then-has-clause-turned c = λ x l.
    let was = terminal_mark c.args.web.now c.args.terminals.now c.requires.terminals c.args.marks.now c.flip.new.marks x l (c.requires.bare x)
    (c.flip.ensures x (omega (arith, l, c.requires.nodes))) in
    turned_mark c.args.web.now c.args.terminals.now c.args.edge c.args.has c.if-has.true c.flip.new.marks c.turn_ends.new.marks x was (c.turn_ends.ensures x l)

pub returns-else-has-clause-turned : goal.returns-else-has-clause-turned
returns-else-has-clause-turned c = λ x l.
    let was = terminal_mark c.args.web.now c.args.terminals.now c.requires.terminals c.args.marks.now c.flip.new.marks x l (c.requires.bare x)
    (c.flip.ensures x (omega (arith, l, c.requires.nodes))) in
    same_mark c.args.web.now c.args.terminals.now c.args.edge c.args.has c.if-has.false c.flip.new.marks x was
