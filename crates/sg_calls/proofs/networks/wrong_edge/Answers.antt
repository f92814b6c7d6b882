use Rattle.std.proofs.Common.{◌≡◌, ◌∙◌, ◌*◌, arith, length, sym, eq-eqb}
use Rattle.sg_calls.proofs.NetworkLemmas.{edges-joined}
use Rattle.sg_calls.proofs.networks.wrong_edge.Goals as goal

pub returns-clause-value : goal.returns-clause-value
returns-clause-value c =
    let count : length c.args.ends.now ≡ 2 * length c.args.weights.now = omega arith in
    rw (eq-eqb (length c.args.ends.now) (2 * length c.args.weights.now) count) c.first_unjoined.ensures

pub returns-clause-joined : goal.returns-clause-joined
returns-clause-joined c = λ none. edges-joined c.args.nodes c.args.ends.now c.args.weights.now (sym c.first_unjoined.ensures ∙ none)
