use Rattle.std.proofs.Common.{rules}
use Rattle.sg_tjoin.proofs.TableBounds.{tables_fit}
use Rattle.sg_tjoin.proofs.least_weight.Goals as goal

pub unreachable-requires : goal.unreachable-requires
unreachable-requires c = tables_fit c.args.web.now c.args.terminals.now c.requires.terminals c.edges-edges.ensures.web (search rules)
