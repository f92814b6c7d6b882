use Rattle.std.proofs.Common.{◌≡◌, map, ◌∙◌, ap, rules, arith}
use Rattle.std.proofs.lemmas.Grind.{elements}
use Rattle.std.proofs.lemmas.List.{with_items_is}
use Rattle.sg_model.specs.Broken.{is_negative}
use Rattle.sg_planar.proofs.FollowedBonds.{unlike_marked}
use Rattle.sg_planar.proofs.assignment.unlike_bonds.Goals as goal

pub returns-clause-marks : goal.returns-clause-marks
returns-clause-marks c =
    let negative : c.deref_mut.result.now ≡ map is_negative c.args.inst.now.bonds =
    c.deref_mut.ensures.value ∙ c.in_ok-unlike.ensures ∙ ap (map is_negative) (c.as_slice.ensures ∙ c.bonds.ensures.value) in
    rw (with_items_is c.in_ok-unlike.unlike c.flip.new.marks (search rules))
    (unlike_marked c.args.inst.now c.args.broken.now c.requires.below c.requires.rising c.deref_mut.result.now c.flip.new.marks negative
    (rw c.as_slice-2.ensures at c.flip.ensures))

pub flip-requires : goal.flip-requires
flip-requires c = grind (arith, elements)

pub returns-clause-lengths : goal.returns-clause-lengths
returns-clause-lengths c = grind (arith, elements)
