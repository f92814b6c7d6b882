use Rattle.std.proofs.Common.{◌≤◌, length, arith}
use Rattle.std.proofs.lemmas.Result.{IfErr-weaker}
use Rattle.serde_json.specs.View.{view}
use Rattle.sg_base.specs.Limits.{json_limit}
use Rattle.sg_json.specs.ReadJson.{SaysData}
use Rattle.sg_json.proofs.Said.{json-fault}
use Rattle.sg_json.proofs.read.read_json.Goals as goal

pub returns-in-Ok-clause-fault : goal.returns-in-Ok-clause-fault
returns-in-Ok-clause-fault c =
    let read = rw c.without_marks.ensures.value at c.in-Ok.ensures.ok in
    let says : SaysData c.args.bytes.now (view c.in-Ok.value) = record { utf8 = read.0; reads = read.1 } in
    let short : length c.args.bytes.now ≤ json_limit = omega arith in
    IfErr-weaker _ _ _ (λ e bad. json-fault _ _ e short says bad) c.read_value.ensures.fault
