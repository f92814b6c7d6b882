use Rattle.std.proofs.Common.{◌≡◌, map, take}
use Rattle.sg_draws.proofs.widths.columns_of.Given as goal

-- the columns of the widths so far
abbrev pub invariant-loop-width : goal.invariant-loop-width
invariant-loop-width l = record {
  cols : l.cols.items ≡ map (λ w. w.cols) (take l.width-index l.widths);
  sums : l.sums.items ≡ map (λ w. w.sum) (take l.width-index l.widths);
  squares : l.squares.items ≡ map (λ w. w.squares) (take l.width-index l.widths);
}
