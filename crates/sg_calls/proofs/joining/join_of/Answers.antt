use Rattle.std.proofs.Common.{refl}
use Rattle.std.proofs.lemmas.Result.{err_from_is_err_and}
use Rattle.sg_graph_text.specs.Graph.{terminals_fault}
use Rattle.sg_calls.specs.Networks.{IsWebFault, web_numbers_of}
use Rattle.sg_calls.proofs.JoinLemmas.{by_joiner}
use Rattle.sg_calls.proofs.joining.join_of.Goals as goal

pub returns-clause-gives : goal.returns-clause-gives
returns-clause-gives c =
    let join = c.in_ok-join.join in
    let known = rw (c.in_ok-network.ensures.web, c.in_ok-network.ensures.terminals) at c.in_ok-join.ensures in
    record {
      edges = join.edges;
      nest = join.nest;
      least = known.least;
      weighs = known.weight;
      proves = known.proves;
      crossed = (refl, c.in_ok-rows.ensures);
    }

pub returns-in_err-join-clause-refuses : goal.returns-in_err-join-clause-refuses
returns-in_err-join-clause-refuses c =
    let p = err_from_is_err_and c.from_residual-in_err-join.result c.from_residual-in_err-join.ensures.1 in
    rw (p.1, p.2) (
    by_joiner (IsWebFault (web_numbers_of c.args.given.now) (terminals_fault c.args.given.now.nodes c.args.terminals.now)) tt
    (λ exceed. (c.in_ok-network.ensures.gives, exceed)) c.in_err-join.field-0.0
    (rw (c.in_ok-network.ensures.web, c.in_ok-network.ensures.terminals) at c.in_err-join.ensures.too_large))
