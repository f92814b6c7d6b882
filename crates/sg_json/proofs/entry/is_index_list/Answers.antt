use Rattle.std.proofs.Common.{◌∙◌, List, Option, sym, ap, rules, tests, is_some}
use Rattle.std.proofs.lemmas.Iterator.{YieldsList-from_slice}
use Rattle.std.proofs.lemmas.Iterator.Search.{all_from_yields_List}
use Rattle.std.proofs.lemmas.List.Folds.{list_all-map}
use Rattle.serde_json.specs.Data.{Data}
use Rattle.serde_json.specs.View.{view}
use Rattle.sg_json.specs.Members.{are_indices, index_number}
use Rattle.sg_json.proofs.entry.is_index_list.Goals as goal

pub returns-in-Some : goal.returns-in-Some
returns-in-Some c = all_from_yields_List (λ v. is_some (index_number (view v))) _ _ _ c.all.ensures.ran (YieldsList-from_slice c.in-Some.items.now cc)
    (λ x b q k. search (rules, tests)) ∙ sym (list_all-map (λ d. is_some (index_number d)) view c.in-Some.items.now)
    ∙ ap (λ (o : Option (List Data)). are_indices o) c.in-Some.ensures
