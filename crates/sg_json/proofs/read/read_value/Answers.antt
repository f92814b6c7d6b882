use Rattle.std.proofs.Common.{◌∙◌, sym}
use Rattle.std.proofs.lemmas.Result.{IfErr-weaker}
use Rattle.sg_json.specs.ReadJson.{OtherName}
use Rattle.sg_json.proofs.Said.{data-fault}
use Rattle.sg_json.proofs.read.read_value.Goals as goal

pub returns-clause-fault : goal.returns-clause-fault
returns-clause-fault c = IfErr-weaker _ _ _ (λ e bad. data-fault _ _ e (sym c.in-Some.ensures)
    (sym c.has_known_names.ensures ∙ c.if-not-has_known_names.false) bad) c.read_form.ensures.fault

pub returns-then-not-has_known_names-clause-fault : goal.returns-then-not-has_known_names-clause-fault
returns-then-not-has_known_names-clause-fault c =
    OtherName c.in-Some.form (sym c.in-Some.ensures) (sym c.has_known_names.ensures ∙ c.if-not-has_known_names.true)
    c.bad_member-then-not-has_known_names.ensures
