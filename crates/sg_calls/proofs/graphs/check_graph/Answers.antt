use Rattle.std.proofs.Common.{◌≡◌, None, length}
use Rattle.sg_calls.specs.Graphs.{numbers_of, wrong_bond}
use Rattle.sg_draft.proofs.Drafts.{unless-known}
use Rattle.sg_calls.proofs.GraphLemmas.{front_tests, graph-none, graph-some}
use Rattle.sg_calls.proofs.graphs.check_graph.Goals as goal

pub returns-in-Ok-clause-passes : goal.returns-in-Ok-clause-passes
returns-in-Ok-clause-passes c =
    let g = numbers_of c.args.given.now in
    let front : front_tests c.args.most g ≡ None = rw c.wrong_start-start.ensures.value at (rw c.wrong_bond-bad.ensures.value at
    (rw c.unless-bonds.ensures at (rw c.from.ensures at c.in-Ok.ensures.passes))) in
    let good : wrong_bond g.n g.ends g.couplings ≡ None = unless-known (wrong_bond g.n g.ends g.couplings) (length g.couplings) _
    (rw c.wrong_bond-bad.ensures.value at (rw c.unless-bonds.ensures at c.in-Ok.ensures.bonds_are)) in
    graph-none c.args.most g front good

pub returns-in-Err-clause-refused : goal.returns-in-Err-clause-refused
returns-in-Err-clause-refused c =
    graph-some c.args.most (numbers_of c.args.given.now) c.in-Err.refusal (rw c.wrong_start-start.ensures.value at (rw c.wrong_bond-bad.ensures.value at
    (rw c.unless-bonds.ensures at (rw c.from.ensures at c.in-Err.ensures.refused))))
