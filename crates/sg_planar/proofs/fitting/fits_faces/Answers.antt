use Rattle.std.proofs.Common.{◌≡◌, ◌∙◌, ap, sym, length}
use Rattle.sg_model.specs.Ising.{bond_count}
use Rattle.sg_planar.proofs.FittingBonds.{fits_tested}
use Rattle.sg_planar.proofs.fitting.fits_faces.Goals as goal

pub returns : goal.returns
returns c =
    let bonds : length c.deref.result.now ≡ bond_count c.args.planar.now.instance =
    c.deref.ensures.len ∙ c.in_ok-unlike.ensures.lengths ∙ ap bond_count c.instance.ensures.value in
    fits_tested c.args.planar.now.instance c.args.planar.now.faces c.args.broken.now c.deref.result.now
    (rw (c.deref.ensures.value, sym c.instance.ensures.value) c.in_ok-unlike.ensures.marks) c.in_ok-odd.odd.items c.deref-2.result.now c.all_unmarked.result
    c.deref-2.ensures.value (c.deref-2.ensures.len ∙ c.in_ok-odd.ensures.lengths ∙ ap (λ f. f.count) c.faces.ensures.value)
    (rw (bonds, c.faces.ensures.value) at c.in_ok-odd.ensures.marks) c.all_unmarked.ensures
