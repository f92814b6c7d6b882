use Rattle.std.proofs.Common.{◌∙◌, sym, rules, tests, not}
use Rattle.std.proofs.lemmas.Iterator.{YieldsList-from_slice}
use Rattle.std.proofs.lemmas.Iterator.Search.{position_from_yields_List}
use Rattle.serde_json.specs.View.{view}
use Rattle.sg_json.specs.Members.{is_entry}
use Rattle.sg_json.proofs.Lists.{misfit_view}
use Rattle.sg_json.proofs.entry.first_misfit.Goals as goal

pub returns : goal.returns
returns c = position_from_yields_List (λ v. not (is_entry c.args.what (view v))) _ _ _ c.position.ensures.ran (YieldsList-from_slice c.args.items.now cc)
    (λ x b q k. search (rules, tests)) ∙ sym (misfit_view c.args.what c.args.items.now)
