use Rattle.std.proofs.Common.{◌≡◌, ◌∙◌, ◌<◌, arith, ap, length}
use Rattle.sg_graph_text.proofs.TerminalLaws.{are_terminals}
use Rattle.sg_calls.specs.Crossing.{entries_of}
use Rattle.sg_calls.specs.Networks.{edges_by, list_count, lists_test, terminal_lists, web_numbers_of}
use Rattle.sg_calls.proofs.JoinLemmas.{list-is, lists-count}
use Rattle.sg_calls.proofs.NetworkLemmas.{all-pass}
use Rattle.sg_calls.proofs.terminal_lists.many_of.Goals as goal

pub returns-clause-gives : goal.returns-clause-gives
returns-clause-gives c =
    let given = c.args.given.now in
    let lists = c.args.lists.now in
    record {
      passes = all-pass (web_numbers_of given) (lists_test given.nodes lists.starts.now lists.entries.now) c.in_ok-check_web.ensures.passes
          c.in_ok-lists.ensures.passes;
      light = rw c.in_ok-web.ensures.web at c.in_ok-web.ensures.light;
      connected = rw c.in_ok-web.ensures.web at c.in_ok-web.ensures.connected;
    }

pub returns-clause-sound : goal.returns-clause-sound
returns-clause-sound c =
    let given = c.args.given.now in
    let n = given.nodes in
    let starts = c.args.lists.now.starts.now in
    let entries = c.args.lists.now.entries.now in
    let value : c.in_ok-lists.lists ≡ terminal_lists n starts entries = c.in_ok-lists.ensures.value in
    let count = ap length value ∙ lists-count n starts entries in
    record {
      nodes = λ i inside.
          let low : i < list_count starts = omega (arith, inside, count) in
          rw (c.in_ok-web.ensures.web, value, list-is n starts entries i low)
          (are_terminals n (edges_by given.ends.now given.weights.now) (entries_of starts entries i));
      even = c.in_ok-lists.ensures.even;
    }
