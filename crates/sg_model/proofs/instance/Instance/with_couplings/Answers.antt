use Rattle.std.proofs.Common.{◌≡◌, length, sym, subst}
use Rattle.sg_model.specs.Ising.{Ising, bond_count}
use Rattle.sg_model.specs.Changes.{coupled_bonds}
use Rattle.sg_model.proofs.Recoupled.{couplings_ends}
use Rattle.sg_model.proofs.SameEnds.{recoupled_instance}
use Rattle.sg_model.proofs.instance.Instance.with_couplings.Goals as goal

pub invariant_of-result : goal.invariant_of-result
invariant_of-result c =
    let inst : Ising = record { n = c.self.inside.n; bonds = c.self.inside.bonds; rotation = c.self.inside.rotation; seam = c.self.inside.seam } in
    let couplings = c.args.couplings.now in
    let count : length couplings ≡ bond_count inst =
    subst (λ (i : Ising). length couplings ≡ bond_count i) (sym c.self.view_is) c.requires.count in
    rw (c.recouple.ensures, c.as_slice.ensures)
    (recoupled_instance inst (coupled_bonds inst.bonds couplings) (couplings_ends inst couplings count c.requires.sizes) c.self.invariant)
