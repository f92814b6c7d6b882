use Rattle.std.proofs.Common.{rules}
use Rattle.sg_graph.proofs.web.Edge.other.Goals as goal

pub returns-then-self-node : goal.returns-then-self-node
returns-then-self-node c = search rules

pub returns-else-self-node : goal.returns-else-self-node
returns-else-self-node c = search rules
