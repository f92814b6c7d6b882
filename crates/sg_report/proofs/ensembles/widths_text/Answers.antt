use Rattle.std.proofs.Common.{codes, ◌≡◌, ℕ, ◌++◌, ◌∙◌, ap, get_or, arith, rules}
use Rattle.sg_report.specs.Text.{listed_int}
use Rattle.sg_report.specs.Ensembles.{width_line}
use Rattle.sg_report.proofs.NumberedLines.{lines-all, lines-more}
use Rattle.sg_report.proofs.ensembles.widths_text.Goals as goal

pub loop-place-preserved : goal.loop-place-preserved
loop-place-preserved c =
    let cols = get_or c.args.cols.now c.loop-place.place 0 in
    let pushed : c.push_width.new.text.items ≡ c.loop-place.text.items ++
    width_line cols (listed_int c.args.sums.now c.loop-place.place) (listed_int c.args.squares.now c.loop-place.place) = search rules in
    pushed
    ∙ lines-more (λ (i x : ℕ). width_line x (listed_int c.args.sums.now i) (listed_int c.args.squares.now i))
    c.args.cols.now c.loop-place.text.items
    c.loop-place.place 0
    (omega arith) c.loop-place.invariant

pub returns : goal.returns
returns c =
    c.in_ok-extend_from_slice.ensures.items
    ∙ ap (λ text. text ++ codes "end\n")
    (lines-all (λ (i x : ℕ). width_line x (listed_int c.args.sums.now i) (listed_int c.args.squares.now i))
    c.args.cols.now c.loop-place.text.items c.loop-place.place
    (omega arith) c.loop-place.invariant)
