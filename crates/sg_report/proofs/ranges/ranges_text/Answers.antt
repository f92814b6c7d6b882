use Rattle.std.proofs.Common.{codes, pos, ◌≡◌, ℕ, ℤ, ◌++◌, ◌∙◌, ap, get_or, arith, rules}
use Rattle.sg_report.specs.Text.{listed_int}
use Rattle.sg_report.specs.Ranges.{turn_line}
use Rattle.sg_report.proofs.NumberedLines.{lines-all, lines-more}
use Rattle.sg_report.proofs.ranges.ranges_text.Goals as goal

pub loop-bond-preserved : goal.loop-bond-preserved
loop-bond-preserved c =
    let turn = get_or c.args.turns.now c.loop-bond.bond (pos 0) in
    let pushed : c.push_turn.new.text.items ≡ c.loop-bond.text.items ++ turn_line c.loop-bond.bond
    (listed_int c.args.couplings.now c.loop-bond.bond) turn = search rules in
    pushed
    ∙ lines-more (λ (i : ℕ) (t : ℤ). turn_line i (listed_int c.args.couplings.now i) t) c.args.turns.now c.loop-bond.text.items c.loop-bond.bond (pos 0)
    (omega arith) c.loop-bond.invariant

pub returns : goal.returns
returns c =
    c.in_ok-extend_from_slice.ensures.items
    ∙ ap (λ text. text ++ codes "end\n")
    (lines-all (λ (i : ℕ) (t : ℤ). turn_line i (listed_int c.args.couplings.now i) t) c.args.turns.now c.loop-bond.text.items c.loop-bond.bond
    (omega arith) c.loop-bond.invariant)
