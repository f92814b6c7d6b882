use Rattle.std.proofs.Common.{◌≡◌, ◌∙◌, rules, sym, []}
use Rattle.std.proofs.lemmas.Option.{get_or_from_slice_get}
use Rattle.sg_calls.proofs.joining.terminals_at.Goals as goal

pub returns : goal.returns
returns c =
    let own : c.from_vec.result ≡ c.at.result.now = search rules in
    own ∙ sym (get_or_from_slice_get c.args.lists.now c.args.i c.at.result.now [] c.at.ensures)
