use Rattle.std.proofs.Common.{◌∙◌, rules, tests}
use Rattle.std.proofs.lemmas.Iterator.{YieldsList-from_map, YieldsList-from_slice, items_from_collect}
use Rattle.std.proofs.lemmas.Result.{IfOk-at_ok}
use Rattle.serde_json.specs.View.{view}
use Rattle.sg_json.specs.Members.{value_index}
use Rattle.sg_json.proofs.Lists.{index-map}
use Rattle.sg_json.proofs.build.indices.Goals as goal

pub returns : goal.returns
returns c = c.from_vec.ensures ∙ IfOk-at_ok _ c.in_ok-list.was (items_from_collect _ c.collect.ensures.ran
    (YieldsList-from_map _ (λ v. value_index (view v)) (YieldsList-from_slice c.items.result.now cc) c.map.ensures.closure (λ x r q k. search (rules, tests))))
    ∙ index-map c.items.result.now (view c.args.value.now) c.items.ensures
