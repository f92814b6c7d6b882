use Rattle.std.proofs.Common.{◌≡◌, ◌∙◌, ◌*◌, arith, length, sym, eq-eqb}
use Rattle.sg_calls.proofs.GraphLemmas.{bonds-among}
use Rattle.sg_calls.proofs.graphs.wrong_bond.Goals as goal

pub returns-clause-value : goal.returns-clause-value
returns-clause-value c =
    let count : length c.args.ends.now ≡ 2 * length c.args.couplings.now = omega arith in
    rw (eq-eqb (length c.args.ends.now) (2 * length c.args.couplings.now) count) c.first_unjoined.ensures

pub returns-clause-among : goal.returns-clause-among
returns-clause-among c = λ none. bonds-among c.args.n c.args.ends.now c.args.couplings.now (sym c.first_unjoined.ensures ∙ none)
