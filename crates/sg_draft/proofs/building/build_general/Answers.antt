use Rattle.std.proofs.Common.{◌≡◌, ◌∙◌, ℕ, [], List, None, Option, option_map, sym, ap, subst, unwrap_or}
use Rattle.std.proofs.lemmas.Result.{IfErr-weaker}
use Rattle.sg_model.specs.Faults.{IsRefusalOf, OrNoMemory}
use Rattle.sg_model.specs.declared.refusal.Refusal.TheVariants.{SelfBond}
use Rattle.sg_draft.specs.Bonds.{self_fault}
use Rattle.sg_draft.proofs.Drafts.{behind-test, joined}
use Rattle.sg_draft.proofs.building.build_general.Goals as goal

pub new-requires-2-clause-joined : goal.new-requires-2-clause-joined
new-requires-2-clause-joined c =
    let apart : self_fault c.args.bonds ≡ None = ap self_fault (sym c.as_slice.ensures)
    ∙ ap (λ (o : Option ℕ). option_map (λ k. SelfBond k) o) (sym c.in_default.ensures.first) in
    joined c.args.n c.args.bonds c.requires.among apart

pub returns-clause-refused : goal.returns-clause-refused
returns-clause-refused c =
    let apart : self_fault c.args.bonds ≡ None = ap self_fault (sym c.as_slice.ensures)
    ∙ ap (λ (o : Option ℕ). option_map (λ k. SelfBond k) o) (sym c.in_default.ensures.first) in
    let n = c.args.n in
    let bonds = c.args.bonds in
    let rotation = c.args.rotation in
    let seam = c.unwrap_or-cut.ensures ∙ ap (unwrap_or c.args.seam) c.new.ensures in
    IfErr-weaker c.new-2.result _ _ (λ e bad.
    behind-test (self_fault bonds) (record { n = n; bonds = bonds; rotation = rotation; seam = unwrap_or c.args.seam [] }) e apart
    (subst (λ (cut : List ℕ). OrNoMemory (IsRefusalOf (record { n = n; bonds = bonds; rotation = rotation; seam = cut })) e) seam bad))
    c.new-2.ensures.refused
