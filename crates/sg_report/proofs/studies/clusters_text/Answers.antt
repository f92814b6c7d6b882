use Rattle.std.proofs.Common.{codes, ◌≡◌, ◌++◌, ◌∙◌, ap, get_or, arith, rules}
use Rattle.sg_report.specs.Text.{cluster_line}
use Rattle.sg_report.proofs.NumberedLines.{lines-all, lines-more}
use Rattle.sg_report.proofs.studies.clusters_text.Goals as goal

pub loop-spin-preserved : goal.loop-spin-preserved
loop-spin-preserved c =
    let cluster = get_or c.args.clusters.now c.loop-spin.spin 0 in
    let pushed : c.push_cluster.new.text.items ≡ c.loop-spin.text.items ++ cluster_line c.loop-spin.spin cluster = search rules in
    pushed ∙ lines-more cluster_line c.args.clusters.now c.loop-spin.text.items c.loop-spin.spin 0 (omega arith) c.loop-spin.invariant

pub returns : goal.returns
returns c =
    c.in_ok-extend_from_slice.ensures.items
    ∙ ap (λ text. text ++ codes "end\n")
    (lines-all cluster_line c.args.clusters.now c.loop-spin.text.items c.loop-spin.spin (omega arith) c.loop-spin.invariant)
