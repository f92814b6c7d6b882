use Rattle.std.proofs.Common.{ℕ, ◌+◌, ◌-◌, ◌*◌, List, [], ◌∷◌, ◌++◌, sym, ◌∙◌, ap, ap₂, arith}
use Rattle.std.proofs.lemmas.List.FromFn.{map-range_with_len_more}
use Rattle.sg_lattice.proofs.shape.Shape.round_seam.Goals as goal

pub loop-r-preserved : goal.loop-r-preserved
loop-r-preserved c =
    let cols = c.args.self.cols in
    let r = c.loop-r.r in
    c.in_ok-push.ensures.ok
    ∙ ap₂ (λ (done : List ℕ) (bond : ℕ). done ++ bond ∷ []) c.loop-r.invariant (ap (λ n. n + (cols - 1)) c.area.ensures.value)
    ∙ sym (map-range_with_len_more (λ r. r * cols + (cols - 1)) 0 r r (omega arith))
