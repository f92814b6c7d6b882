use Rattle.std.proofs.Common.{◌∙◌, List, Option, Some, map, option_map, sym, ap}
use Rattle.serde_json.specs.Data.{Items}
use Rattle.serde_json.specs.View.{view}
use Rattle.serde_json.specs.declared.value.Value.{Value}
use Rattle.sg_json.specs.Members.{item_list}
use Rattle.sg_json.proofs.Lists.{listed_view}
use Rattle.sg_json.proofs.value.list_items.Goals as goal

pub returns : goal.returns
returns c = ap (λ (l : List Value). Some (map view l)) c.as_slice.ensures.value ∙ ap Some (sym (listed_view c.in_ok-as_array.field-0.now.items))
    ∙ ap (λ (o : Option Items). option_map item_list o) c.in_ok-as_array.ensures
