use Rattle.std.proofs.Common.{rules, ◌≡◌, length}
use Rattle.sg_calls.specs.Joins.{join_lists}
use Rattle.sg_calls.proofs.CrossingLemmas.{shows}
use Rattle.sg_calls.proofs.JoinLemmas.{some_large_only}
use Rattle.ising2d_c.proofs.joins.ising2d_c_joins.Goals as goal

pub returns-in-Ok-clause-found : goal.returns-in-Ok-clause-found
returns-in-Ok-clause-found c = λ done.
    let rows = c.in-Ok.found in
    let edges : c.len.result ≡ length rows.edges.items = search rules in
    record {
      lists = join_lists rows.weights rows.starts.items rows.edges.items;
      rows = c.in-Ok.ensures.gives;
      shows_weights = shows _ _ _ _ _ c.as_slice.ensures c.fill.ensures;
      shows_starts = shows _ _ _ _ _ c.as_slice-in-Ok.ensures.value c.fill-in-Ok.ensures;
      shows_edges = shows _ _ _ _ _ c.as_slice-in-Ok-2.ensures.value c.fill-in-Ok-2.ensures;
      counts_edges = edges;
    }

pub returns-in-Err-TablesTooLarge-clause-large : goal.returns-in-Err-TablesTooLarge-clause-large
returns-in-Err-TablesTooLarge-clause-large c = λ done.
    some_large_only c.args.nodes c.args.starts.now c.args.terminals.now (search rules)
