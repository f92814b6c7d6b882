use Rattle.std.proofs.Common.{pos, ◌≡◌, ◌++◌, ◌∙◌, get_or, arith, rules}
use Rattle.sg_report.specs.Ensembles.{sample_line}
use Rattle.sg_report.proofs.NumberedLines.{lines-all, lines-more}
use Rattle.sg_report.proofs.ensembles.wall_lines.Goals as goal

pub loop-sample-preserved : goal.loop-sample-preserved
loop-sample-preserved c =
    let wall = get_or c.args.walls.now c.loop-sample.sample (pos 0) in
    let pushed : c.push_sample.new.text.items ≡ c.loop-sample.text.items ++ sample_line c.loop-sample.sample wall = search rules in
    pushed ∙ lines-more sample_line c.args.walls.now c.loop-sample.text.items c.loop-sample.sample (pos 0) (omega arith) c.loop-sample.invariant

pub returns : goal.returns
returns c = lines-all sample_line c.args.walls.now c.loop-sample.text.items c.loop-sample.sample (omega arith) c.loop-sample.invariant
