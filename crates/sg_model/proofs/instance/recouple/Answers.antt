use Rattle.std.proofs.Common.{◌<◌, ◌∙◌, length, pos, sym, arith, ext_get_or}
use Rattle.std.proofs.lemmas.Grind.{elements}
use Rattle.std.proofs.lemmas.List.FromFn.{get_or-map-range_with_len, length-map-range_with_len}
use Rattle.sg_model.specs.declared.bond.Bond.{Bond}
use Rattle.sg_model.specs.Changes.{coupled_at, coupled_bonds}
use Rattle.sg_model.proofs.instance.recouple.Goals as goal

abbrev no_bond : Bond
no_bond = record { u = 0; v = 0; j = pos 0 }

pub returns : goal.returns
returns c =
    let old = c.args.bonds.now in
    let couplings = c.args.couplings.now in
    let count = length-map-range_with_len (coupled_at old couplings) 0 (length old) in
    ext_get_or no_bond c.loop-k.bonds (coupled_bonds old couplings) (c.loop-k.invariant.count ∙ sym count)
    (λ i l. let low : i < length old = omega arith in
    c.loop-k.invariant.done i (omega arith)
    ∙ sym (get_or-map-range_with_len (coupled_at old couplings) 0 (length old) i i no_bond low (omega arith)))

pub loop-k-preserved : goal.loop-k-preserved
loop-k-preserved c = grind (arith, elements)
