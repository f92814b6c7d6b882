use Rattle.std.proofs.Common.{◌∙◌, rules, tests}
use Rattle.std.proofs.lemmas.Iterator.{YieldsList-from_map, YieldsList-from_slice, items_from_collect}
use Rattle.std.proofs.lemmas.Result.{IfOk-at_ok}
use Rattle.serde_json.specs.View.{view}
use Rattle.sg_json.specs.Members.{value_number}
use Rattle.sg_json.proofs.build.couplings.Goals as goal

pub returns : goal.returns
returns c = c.from_vec.ensures ∙ IfOk-at_ok _ c.in_ok-list.was (items_from_collect _ c.collect.ensures.ran
    (YieldsList-from_map _ (λ v. value_number (view v)) (YieldsList-from_slice c.args.items.now cc) c.map.ensures.closure (λ x r q k. search (rules, tests))))
