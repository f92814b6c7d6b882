use Rattle.std.proofs.Common.{◌≡◌, ◌∙◌, true, false, sym}
use Rattle.std.proofs.lemmas.Result.{IfErr-weaker, IfOk-weaker}
use Rattle.sg_json.specs.Text.{is_object_text}
use Rattle.sg_input.specs.Input.{ByJson, ByRecords}
use Rattle.sg_input.proofs.InputLemmas.{by_json, by_records}
use Rattle.sg_input.proofs.fit.read_text.Goals as goal

pub returns-then-is_json-clause-gives : goal.returns-then-is_json-clause-gives
returns-then-is_json-clause-gives c =
    let kind : is_object_text c.args.bytes.now ≡ true = sym c.is_json.ensures ∙ c.if-is_json.true in
    IfOk-weaker c.read_json.result _ _ (λ inst reads. ByJson kind reads) c.read_json.ensures.read

pub returns-then-is_json-clause-refuses : goal.returns-then-is_json-clause-refuses
returns-then-is_json-clause-refuses c =
    let kind : is_object_text c.args.bytes.now ≡ true = sym c.is_json.ensures ∙ c.if-is_json.true in
    IfErr-weaker c.read_json.result _ _ (λ fault shown. by_json c.args.bytes.now fault kind shown) c.read_json.ensures.fault

pub returns-else-is_json-clause-gives : goal.returns-else-is_json-clause-gives
returns-else-is_json-clause-gives c =
    let kind : is_object_text c.args.bytes.now ≡ false = sym c.is_json.ensures ∙ c.if-is_json.false in
    IfOk-weaker c.read_alone.result _ _ (λ inst gives. ByRecords kind gives) c.read_alone.ensures.gives

pub returns-else-is_json-clause-refuses : goal.returns-else-is_json-clause-refuses
returns-else-is_json-clause-refuses c =
    let kind : is_object_text c.args.bytes.now ≡ false = sym c.is_json.ensures ∙ c.if-is_json.false in
    IfErr-weaker c.read_alone.result _ _ (λ fault shown. by_records c.args.bytes.now fault kind shown) c.read_alone.ensures.refuses
