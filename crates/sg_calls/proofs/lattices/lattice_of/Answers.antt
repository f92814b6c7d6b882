use Rattle.std.proofs.Common.{◌≡◌, ◌^◌, ◌∙◌, None, ap, get_or, sym, unsigned_abs, ltb-true}
use Rattle.sg_model.specs.Ising.{bond_count}
use Rattle.sg_lattice.specs.Tables.{bond_total}
use Rattle.sg_lattice.proofs.LatticeBonds.{bond_count_is}
use Rattle.sg_draft.specs.Bonds.{is_coupling}
use Rattle.sg_calls.specs.Lattices.{first_out}
use Rattle.sg_calls.proofs.FirstLemmas.{all-pass}
use Rattle.sg_calls.proofs.lattices.lattice_of.Goals as goal

pub build-requires-clause-sizes : goal.build-requires-clause-sizes
build-requires-clause-sizes c = λ k d inside.
    let js = c.args.couplings.now in
    let none : first_out js ≡ None = sym c.first_out.ensures ∙ c.in_ok-check_entry.ensures.passes in
    let list : c.from_vec-list.result ≡ js = c.from_vec-list.ensures ∙ c.in_ok-from_slice.ensures.items in
    rw list (ltb-true (unsigned_abs (get_or js k d)) (2 ^ 63) (all-pass is_coupling js d none k (rw list at inside)))

pub returns-clause-count : goal.returns-clause-count
returns-clause-count c =
    let size = c.in_ok-size.size in
    let bonds : bond_count c.in_ok-build.field-0 ≡ bond_total c.in-Some.kind size.rows size.cols = ap bond_count c.in_ok-build.ensures
    ∙ bond_count_is c.in-Some.kind size.rows size.cols c.in_ok-size.ensures.sound c.from_vec-list.result in
    bonds ∙ sym c.bond_count.ensures ∙ sym c.in_ok-check_coupling_count.ensures.count
