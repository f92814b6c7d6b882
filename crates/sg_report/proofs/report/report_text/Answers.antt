use Rattle.std.proofs.Common.{◌∙◌, ◌++◌, ap, rules, codes, List, ℕ, w64, to_z-of_z}
use Rattle.std.proofs.lemmas.Result.{IfOk-weaker}
use Rattle.serde_json.specs.Written.{compact_text, has_float}
use Rattle.sg_report.specs.Report.{report_object}
use Rattle.sg_report.proofs.Compact.{plain_report, report_is}
use Rattle.sg_report.proofs.report.report_text.Goals as goal

pub line_of-requires : goal.line_of-requires
line_of-requires c =
    let a = c.args in
    let is = rw (to_z-of_z {w = w64} {z = a.sum} (search rules), to_z-of_z {w = w64} {z = a.energy} (search rules)) at c.in_ok-value.ensures in
    ap has_float is ∙ plain_report a.bonds a.sum a.energy c.as_slice.result.now c.as_slice-2.result.now a.costs.now a.clusters.now a.wall

pub returns : goal.returns
returns c =
    let a = c.args in
    let is = rw (to_z-of_z {w = w64} {z = a.sum} (search rules), to_z-of_z {w = w64} {z = a.energy} (search rules)) at c.in_ok-value.ensures in
    let same = ap compact_text is
    ∙ report_is a.bonds a.sum a.energy c.as_slice.result.now c.as_slice-2.result.now a.costs.now a.clusters.now a.wall
    ∙ (λ i. report_object a.bonds a.sum a.energy (c.as_slice.ensures.value i) (c.as_slice-2.ensures i) a.costs.now a.clusters.now a.wall) in
    IfOk-weaker c.line_of.result _ _ (λ text h. h ∙ ap (λ (l : List ℕ). l ++ codes "\n") same) c.line_of.ensures
