use Rattle.std.proofs.Common.{◌≡◌, ◌∙◌, List, Option, None, map, length, sym, ap, arith, codes, inl, subst}
use Rattle.std.proofs.lemmas.Grind.{common_steps}
use Rattle.std.proofs.lemmas.List.{length-map}
use Rattle.std.proofs.lemmas.Result.{IfErr-weaker, IfOk-weaker, err_from_is_err_and}
use Rattle.serde_json.specs.Data.{Data}
use Rattle.serde_json.specs.View.{view}
use Rattle.sg_model.specs.Faults.{IsRefusalOf, OrNoMemory}
use Rattle.sg_model.specs.Ising.{Ising}
use Rattle.sg_lattice.specs.Tables.{lattice}
use Rattle.sg_reader.proofs.SizeLaws.{lattice-bonds}
use Rattle.sg_draft.specs.declared.limits.Limits.{Limits}
use Rattle.sg_draft.specs.Draft.{OfLattice, draft_fault, drafted, lattice_draft_fault, reseamed}
use Rattle.sg_draft.specs.Limits.{program_limits}
use Rattle.sg_draft.specs.Reads.{unless}
use Rattle.sg_draft.proofs.Drafts.{behind-test, both-ok, unless-known}
use Rattle.sg_json.specs.declared.entry.Entry.TheVariants as entry
use Rattle.sg_json.specs.Members.{items_at, lattice_draft, member_list, value_number, wrong_list}
use Rattle.sg_json.proofs.Lists.{couplings-fit, mapped}
use Rattle.sg_json.proofs.Said.{lattice-said, lattice-tests, right-list}
use Rattle.sg_json.proofs.members.read_lattice.Goals as goal
use Rattle.sg_json.proofs.members.read_lattice.Goals.{After-check_lattice, In_ok-size, In_ok-cut}

-- which coupling is wrong, and what is tested
wrong_is : (c : After-check_lattice) → c.wrong_list-wrong.result ≡ wrong_list entry.Coupling (member_list (codes "couplings") (view c.args.value.now))
wrong_is c = c.wrong_list-wrong.ensures ∙ ap (λ (o : Option (List Data)). wrong_list entry.Coupling o) c.list_member.ensures

same_test : (c : After-check_lattice) → draft_fault program_limits (OfLattice (lattice_draft c.args.kind (view c.args.value.now)))
    ≡ lattice_draft_fault c.of_program.result c.args.kind c.size_member.result c.size_member-2.result c.unless.result c.wrong_seam.result
same_test c =
    let d = view c.args.value.now in
    let items = c.items_at-items.result.now in
    let count : length items ≡ length (items_at (codes "couplings") d) = sym (length-map items view) ∙ ap length c.items_at-items.ensures in
    let told : c.unless.result ≡ unless (wrong_list entry.Coupling (member_list (codes "couplings") d)) (length (items_at (codes "couplings") d))
    = c.unless.ensures ∙ (λ i. unless (wrong_is c i) (count i)) in
    lattice-tests program_limits c.args.kind d
    ∙ (λ i. lattice_draft_fault (sym c.of_program.ensures.value i) c.args.kind (sym c.size_member.ensures.value i) (sym c.size_member-2.ensures.value i)
    (sym told i) (sym c.wrong_seam.ensures i))

pub returns-in_err-size-clause-fault : goal.returns-in_err-size-clause-fault
returns-in_err-size-clause-fault c =
    let p = err_from_is_err_and c.from_residual.result c.from_residual.ensures.1 in
    rw (p.1, p.2) (inl (same_test (goal.at.returns-in_err-size-clause-fault c).After-check_lattice ∙ c.in_err-size.ensures.refused))

-- no coupling is wrong
none_wrong : (c : In_ok-size) → wrong_list entry.Coupling (member_list (codes "couplings") (view c.args.value.now)) ≡ None
none_wrong c = sym (c.wrong_list-wrong.ensures ∙ ap (λ (o : Option (List Data)). wrong_list entry.Coupling o) c.list_member.ensures)
    ∙ unless-known _ _ _ (sym c.unless.ensures ∙ c.in_ok-size.ensures.couplings_are)

-- the couplings that are built
numbers : (c : In_ok-cut) → c.in_ok-list.list ≡ map value_number (items_at (codes "couplings") (view c.args.value.now))
numbers c = c.in_ok-list.ensures ∙ sym (mapped value_number view _) ∙ ap (λ (l : List Data). map value_number l) c.items_at-items.ensures

pub build_lattice-requires-clause-sizes : goal.build_lattice-requires-clause-sizes
build_lattice-requires-clause-sizes c =
    let d = view c.args.value.now in
    let fit = none_wrong (goal.at.build_lattice-requires-clause-sizes c).In_ok-size in
    rw (numbers c) (couplings-fit (items_at (codes "couplings") d) (right-list entry.Coupling (member_list (codes "couplings") d) fit))

-- the lattice is that of the draft
same_lattice : (c : In_ok-cut) → (none : wrong_list entry.Coupling (member_list (codes "couplings") (view c.args.value.now)) ≡ None)
    → reseamed c.in_ok-cut.cut (lattice c.args.kind c.in_ok-size.size.rows c.in_ok-size.size.cols c.in_ok-list.list)
    ≡ drafted (OfLattice (lattice_draft c.args.kind (view c.args.value.now)))
same_lattice c none = lattice-said c.args.kind (view c.args.value.now) _ _ _ _
    (sym c.size_member.ensures.value ∙ c.in_ok-size.ensures.rows_are) (sym c.size_member-2.ensures.value ∙ c.in_ok-size.ensures.cols_are)
    none (numbers c) (sym c.wrong_seam.ensures ∙ c.in_ok-size.ensures.seam_is) c.in_ok-cut.ensures

pub returns-clause-gives : goal.returns-clause-gives
returns-clause-gives c =
    let at = goal.at.returns-clause-gives c in
    let pass = same_test at.After-check_lattice ∙ c.in_ok-size.ensures.passes in
    let said = same_lattice at.In_ok-cut (none_wrong at.In_ok-size) in
    both-ok c.build_lattice.result _ _ _ (λ inst is whole. record { passes = pass; value = is ∙ said; instance = whole })
    c.build_lattice.ensures.ok c.build_lattice.ensures.well_formed

pub returns-clause-few_bonds : goal.returns-clause-few_bonds
returns-clause-few_bonds c = IfOk-weaker _ _ _ (λ inst is.
    let bonds = lattice-bonds c.args.kind c.in_ok-size.size.rows c.in_ok-size.size.cols c.in_ok-list.list c.in_ok-cut.cut inst c.in_ok-size.ensures.sound is in
    omega (arith, bonds, c.in_ok-size.ensures.few, ap (λ (m : Limits). m.spins) c.of_program.ensures.value)) c.build_lattice.ensures.ok

pub returns-clause-fault : goal.returns-clause-fault
returns-clause-fault c =
    let d = view c.args.value.now in
    let at = goal.at.returns-clause-fault c in
    let said = same_lattice at.In_ok-cut (none_wrong at.In_ok-size) in
    let pass = same_test at.After-check_lattice ∙ c.in_ok-size.ensures.passes in
    IfErr-weaker _ _ _ (λ e bad. behind-test (draft_fault program_limits (OfLattice (lattice_draft c.args.kind d)))
    (drafted (OfLattice (lattice_draft c.args.kind d))) e pass (subst (λ (i : Ising). OrNoMemory (IsRefusalOf i) e) said bad)) c.build_lattice.ensures.refused

pub build_lattice-requires-clause-count : goal.build_lattice-requires-clause-count
build_lattice-requires-clause-count c = grind (arith, common_steps)
