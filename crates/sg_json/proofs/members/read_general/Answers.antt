use Rattle.std.proofs.Common.{◌≡◌, ◌∙◌, ℕ, List, Option, Some, None, [], map, length, sym, ap, codes, inl, unwrap_or}
use Rattle.std.proofs.lemmas.List.{length-map}
use Rattle.std.proofs.lemmas.Result.{IfErr-weaker, IfOk-weaker, err_from_is_err_and}
use Rattle.serde_json.specs.Data.{Data}
use Rattle.serde_json.specs.View.{view}
use Rattle.sg_model.specs.WellFormed.{IsInstance}
use Rattle.sg_draft.specs.Bonds.{self_fault}
use Rattle.sg_draft.specs.Draft.{OfGeneral, draft_fault, drafted, general_draft_fault}
use Rattle.sg_draft.specs.Limits.{program_limits}
use Rattle.sg_draft.specs.declared.read.Read.TheVariants.{Known}
use Rattle.sg_draft.specs.Reads.{read_length, unless, value_or, wrong_entry}
use Rattle.sg_draft.proofs.Drafts.{both-ok, general-none, general-some, same-fault, unless-known}
use Rattle.sg_json.specs.declared.entry.Entry.TheVariants as entry
use Rattle.sg_json.specs.Members.{general_draft, value_indices, items_at, member_list, member_spins, size_at, value_bond, wrong_list, wrong_rotation}
use Rattle.sg_json.proofs.Lists.{bonds-fit, mapped}
use Rattle.sg_json.proofs.Said.{bonds-said, general-said, general-tests, right-list, rotation-counts}
use Rattle.sg_json.proofs.members.read_general.Goals as goal
use Rattle.sg_json.proofs.members.read_general.Goals.{After-check_general, In_ok-n, In_ok-cut}

-- the number of spins that the lists are read for
spins_is : (c : After-check_general) → c.unwrap_or-count.result ≡ member_spins (view c.args.value.now)
spins_is c = c.unwrap_or-count.ensures ∙ ap (λ (o : Option ℕ). unwrap_or o 0) c.size_member-spins.ensures.value

-- which bond is wrong, and which list of darts
wrong_is : (c : After-check_general)
    → c.wrong_list-wrong.result ≡ wrong_list (entry.Bond (member_spins (view c.args.value.now))) (member_list (codes "bonds") (view c.args.value.now))
wrong_is c = c.wrong_list-wrong.ensures ∙ (λ i. wrong_list (entry.Bond (spins_is c i)) (c.list_member.ensures i))

turned_is : (c : After-check_general)
    → c.wrong_rotation.result ≡ wrong_rotation (member_spins (view c.args.value.now)) (member_list (codes "rotation") (view c.args.value.now))
turned_is c = c.wrong_rotation.ensures ∙ (λ i. wrong_rotation (spins_is c i) (c.list_member-2.ensures i))

-- what is tested
same_test : (c : After-check_general)
    → general_draft_fault program_limits (size_at (codes "n") (view c.args.value.now)) (read_length (general_draft (view c.args.value.now)).bonds)
    (wrong_entry (general_draft (view c.args.value.now)).rotation) (wrong_entry (general_draft (view c.args.value.now)).seam)
    ≡ general_draft_fault c.of_program.result c.size_member-spins.result c.unless.result c.wrong_rotation.result c.wrong_seam.result
same_test c =
    let d = view c.args.value.now in
    let items = c.items_at-items.result.now in
    let count : length items ≡ length (items_at (codes "bonds") d) = sym (length-map items view) ∙ ap length c.items_at-items.ensures in
    let told : c.unless.result ≡ unless (wrong_list (entry.Bond (member_spins d)) (member_list (codes "bonds") d)) (length (items_at (codes "bonds") d))
    = c.unless.ensures ∙ (λ i. unless (wrong_is c i) (count i)) in
    general-tests program_limits d
    ∙ (λ i. general_draft_fault (sym c.of_program.ensures.value i) (sym c.size_member-spins.ensures.value i) (sym told i) (sym (turned_is c) i)
    (sym c.wrong_seam.ensures i))

pub returns-in_err-n-clause-fault : goal.returns-in_err-n-clause-fault
returns-in_err-n-clause-fault c =
    let p = err_from_is_err_and c.from_residual.result c.from_residual.ensures.1 in
    let same = same_test (goal.at.returns-in_err-n-clause-fault c).After-check_general in
    rw (p.1, p.2) (inl (general-some program_limits (general_draft (view c.args.value.now)) _ (same ∙ c.in_err-n.ensures.refused)))

-- what is so of the members where the test passes: no bond is wrong, no list of darts, and n is the number of spins
none_wrong : (c : After-check_general) → (known : c.unless.result ≡ Known (value_or 0 c.unless.result))
    → wrong_list (entry.Bond (member_spins (view c.args.value.now))) (member_list (codes "bonds") (view c.args.value.now)) ≡ None
none_wrong c known = sym (wrong_is c) ∙ unless-known _ _ _ (sym c.unless.ensures ∙ known)

-- the bonds that are built
bonds_are : (c : In_ok-cut) → c.in_ok-joined.joined ≡ map value_bond (items_at (codes "bonds") (view c.args.value.now))
bonds_are c = c.in_ok-joined.ensures ∙ sym (mapped value_bond view _) ∙ ap (λ (l : List Data). map value_bond l) c.items_at-items.ensures

-- and the lists of darts
darts_are : (c : In_ok-cut) → c.in_ok-darts.darts ≡ map value_indices (items_at (codes "rotation") (view c.args.value.now))
darts_are c = c.in_ok-darts.ensures ∙ sym (mapped value_indices view _) ∙ ap (λ (l : List Data). map value_indices l) c.items_at.ensures

-- the number of spins
spins_are : (c : In_ok-n) → size_at (codes "n") (view c.args.value.now) ≡ Some c.in_ok-n.n
spins_are c = sym c.size_member-spins.ensures.value ∙ c.in_ok-n.ensures.spins_are

pub build_general-requires-clause-among : goal.build_general-requires-clause-among
build_general-requires-clause-among c =
    let d = view c.args.value.now in
    let at = goal.at.build_general-requires-clause-among c in
    let n : member_spins d ≡ c.in_ok-n.n = ap (λ (o : Option ℕ). unwrap_or o 0) (spins_are at.In_ok-n) in
    rw (bonds_are c, sym n) (bonds-fit (member_spins d) (items_at (codes "bonds") d)
    (right-list (entry.Bond (member_spins d)) (member_list (codes "bonds") d) (none_wrong at.After-check_general c.in_ok-n.ensures.bonds_are)))

pub build_general-requires-clause-lists : goal.build_general-requires-clause-lists
build_general-requires-clause-lists c =
    let d = view c.args.value.now in
    let at = goal.at.build_general-requires-clause-lists c in
    let n : member_spins d ≡ c.in_ok-n.n = ap (λ (o : Option ℕ). unwrap_or o 0) (spins_are at.In_ok-n) in
    let turned = sym (turned_is at.After-check_general) ∙ c.in_ok-n.ensures.rotation_is in
    ap length (darts_are c) ∙ length-map (items_at (codes "rotation") d) _ ∙ rotation-counts (member_spins d) (member_list (codes "rotation") d) turned ∙ n

-- the instance is that of the draft
same_instance : (c : In_ok-cut) → (bonds : c.in_ok-joined.joined ≡ value_or [] (general_draft (view c.args.value.now)).bonds)
    → (spins : size_at (codes "n") (view c.args.value.now) ≡ Some c.in_ok-n.n)
    → (turned : wrong_rotation (member_spins (view c.args.value.now)) (member_list (codes "rotation") (view c.args.value.now)) ≡ None)
    → record { n = c.in_ok-n.n; bonds = c.in_ok-joined.joined; rotation = c.in_ok-darts.darts; seam = unwrap_or c.in_ok-cut.cut [] }
    ≡ drafted (OfGeneral (general_draft (view c.args.value.now)))
same_instance c bonds spins turned =
    general-said (view c.args.value.now) _ _ _ _ spins bonds turned (darts_are c) (sym c.wrong_seam.ensures ∙ c.in_ok-n.ensures.seam_is) c.in_ok-cut.ensures

pub returns-clause-gives : goal.returns-clause-gives
returns-clause-gives c =
    let d = view c.args.value.now in
    let at = goal.at.returns-clause-gives c in
    let bonds = bonds_are at.In_ok-cut ∙ sym (bonds-said d (none_wrong at.After-check_general c.in_ok-n.ensures.bonds_are)) in
    let said = same_instance at.In_ok-cut bonds (spins_are at.In_ok-n) (sym (turned_is at.After-check_general) ∙ c.in_ok-n.ensures.rotation_is) in
    let numbers = same_test at.After-check_general ∙ c.in_ok-n.ensures.passes in
    let apart = IfOk-weaker c.build_general.result _ (λ inst. draft_fault program_limits (OfGeneral (general_draft d)) ≡ None)
    (λ inst none. general-none program_limits (general_draft d) numbers ∙ ap self_fault (sym bonds) ∙ none) c.build_general.ensures.apart in
    both-ok c.build_general.result _ _ _ (λ inst pass whole. record { passes = pass; value = whole.0 ∙ said; instance = whole.1 }) apart
    (both-ok c.build_general.result _ _ (λ inst. (inst ≡ _) × IsInstance inst) (λ inst is whole. (is, whole)) c.build_general.ensures.ok
    c.build_general.ensures.well_formed)

pub returns-clause-fault : goal.returns-clause-fault
returns-clause-fault c =
    let d = view c.args.value.now in
    let at = goal.at.returns-clause-fault c in
    let bonds = bonds_are at.In_ok-cut ∙ sym (bonds-said d (none_wrong at.After-check_general c.in_ok-n.ensures.bonds_are)) in
    let said = same_instance at.In_ok-cut bonds (spins_are at.In_ok-n) (sym (turned_is at.After-check_general) ∙ c.in_ok-n.ensures.rotation_is) in
    let same : self_fault c.in_ok-joined.joined ≡ draft_fault program_limits (OfGeneral (general_draft d))
    = ap self_fault bonds ∙ sym (general-none program_limits (general_draft d) (same_test at.After-check_general ∙ c.in_ok-n.ensures.passes)) in
    IfErr-weaker _ _ _ (λ e bad. same-fault _ _ _ _ e same said bad) c.build_general.ensures.refused
