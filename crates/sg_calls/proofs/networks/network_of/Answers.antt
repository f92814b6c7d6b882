use Rattle.sg_graph_text.specs.Graph.{terminals_fault}
use Rattle.sg_graph_text.proofs.TerminalLaws.{are_terminals}
use Rattle.sg_calls.specs.Networks.{edges_by, web_numbers_of}
use Rattle.sg_calls.proofs.NetworkLemmas.{all-pass}
use Rattle.sg_calls.proofs.networks.network_of.Goals as goal

pub returns-clause-gives : goal.returns-clause-gives
returns-clause-gives c =
    let given = c.args.given.now in
    record {
      passes = all-pass (web_numbers_of given) (terminals_fault given.nodes c.args.terminals.now) c.in_ok-check_web.ensures.passes
          c.in_ok-terminals.ensures.passes;
      light = rw c.in_ok-web.ensures.web at c.in_ok-web.ensures.light;
      connected = rw c.in_ok-web.ensures.web at c.in_ok-web.ensures.connected;
    }

pub returns-clause-sound : goal.returns-clause-sound
returns-clause-sound c =
    let given = c.args.given.now in
    record {
      light = c.in_ok-web.ensures.light;
      connected = c.in_ok-web.ensures.connected;
      nodes = rw (c.in_ok-web.ensures.web, c.in_ok-terminals.ensures.value)
          (are_terminals given.nodes (edges_by given.ends.now given.weights.now) c.args.terminals.now);
      even = c.in_ok-terminals.ensures.even;
    }
