use Rattle.std.proofs.Common.{ap, length, rules, subst, sym, ◌<◌, ◌∙◌}
use Rattle.std.specs.Prelude.{slice_index_or}
use Rattle.sg_model.specs.Connected.{IsConnected}
use Rattle.sg_planar.specs.declared.components.Part.{Part}
use Rattle.sg_trials.proofs.PartLists.{part_connected}
use Rattle.sg_trials.proofs.walks.is_walked_in.Goals as goal

pub is_walked-requires : goal.is_walked-requires
is_walked-requires g c =
    let part = c.index-all-0.result in
    let some : 0 < length c.in_ok-list.list = search rules in
    subst (λ (p : Part). IsConnected p.planar.instance)
    (sym (c.index-all-0.is ∙ ap (λ ps. slice_index_or ps 0 part) c.as_slice-all.ensures))
    (part_connected _ c.in_ok-list.list c.in_ok-list.ensures 0 part some)
