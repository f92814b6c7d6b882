use Rattle.std.proofs.Common.{◌≡◌, ◌<◌, [], get_or, sym, ◌∙◌, ap}
use Rattle.std.proofs.lemmas.Option.{get_or_from_slice_get}
use Rattle.std.proofs.lemmas.List.Elements.{All-from_get_or}
use Rattle.sg_model.specs.Rotation.{dart_count, darts_of, tail}
use Rattle.sg_model.proofs.Rotations.{in_list}
use Rattle.sg_planar.proofs.assignment.darts_from.Goals as goal

pub returns-clause-leave : goal.returns-clause-leave
returns-clause-leave c =
    let list : c.at.result.now ≡ darts_of c.args.inst.now c.args.spin =
    sym (get_or_from_slice_get c.rotation.result.now c.args.spin c.at.result.now [] c.at.ensures)
    ∙ ap (λ r. get_or r c.args.spin []) c.rotation.ensures.value in
    rw list (All-from_get_or (λ d. (d < dart_count c.args.inst.now) × (tail c.args.inst.now d ≡ c.args.spin)) (darts_of c.args.inst.now c.args.spin) 0
    (λ j l. in_list c.args.inst.now c.rotation.ensures.instance c.args.spin j c.requires l))
