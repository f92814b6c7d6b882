use Rattle.std.proofs.Common.{codes, pos, ◌≡◌, ◌++◌, ◌∙◌, ap, get_or, arith, rules}
use Rattle.sg_report.specs.Text.{cost_line}
use Rattle.sg_report.proofs.NumberedLines.{lines-all, lines-more}
use Rattle.sg_report.proofs.studies.bonds_text.Goals as goal

pub loop-bond-preserved : goal.loop-bond-preserved
loop-bond-preserved c =
    let cost = get_or c.args.costs.now c.loop-bond.bond (pos 0) in
    let pushed : c.push_cost.new.text.items ≡ c.loop-bond.text.items ++ cost_line c.loop-bond.bond cost = search rules in
    pushed ∙ lines-more cost_line c.args.costs.now c.loop-bond.text.items c.loop-bond.bond (pos 0) (omega arith) c.loop-bond.invariant

pub returns : goal.returns
returns c =
    c.in_ok-extend_from_slice.ensures.items
    ∙ ap (λ text. text ++ codes "end\n") (lines-all cost_line c.args.costs.now c.loop-bond.text.items c.loop-bond.bond (omega arith) c.loop-bond.invariant)
