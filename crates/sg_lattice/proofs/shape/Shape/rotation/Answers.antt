use Rattle.std.proofs.Common.{ℕ, ◌/◌, ◌%◌, List, [], ◌∷◌, ◌++◌, sym, ◌∙◌, ap, arith}
use Rattle.std.proofs.lemmas.List.FromFn.{map-range_with_len_more}
use Rattle.sg_lattice.specs.Tables.{darts}
use Rattle.sg_lattice.proofs.shape.Shape.rotation.Goals as goal

pub loop-i-preserved : goal.loop-i-preserved
loop-i-preserved c =
    let s = c.args.self in
    let i = c.loop-i.i in
    c.in_ok-push_spin.ensures
    ∙ ap (λ (done : List (List ℕ)). done ++ darts s.kind s.rows s.cols (i / s.cols) (i % s.cols) ∷ []) c.loop-i.invariant
    ∙ sym (map-range_with_len_more (λ i. darts s.kind s.rows s.cols (i / s.cols) (i % s.cols)) 0 i i (omega arith))
