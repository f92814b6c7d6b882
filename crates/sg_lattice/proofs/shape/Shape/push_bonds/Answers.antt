use Rattle.std.proofs.Common.{ℕ, Bool, ◌/◌, ◌%◌, List, ◌++◌, map, sym, ◌∙◌, ap, append-nil}
use Rattle.sg_base.specs.Sets.{chosen_below}
use Rattle.sg_lattice.specs.declared.kind.Ends.{Ends}
use Rattle.sg_lattice.specs.Tables.{bonds_between, ends_from, has_bond}
use Rattle.sg_lattice.proofs.Ranks.{map_chosen_more}
use Rattle.sg_lattice.proofs.shape.Shape.push_bonds.Goals as goal

pub loop-i-init : goal.loop-i-init
loop-i-init c = λ ends is. is ∙ ap (λ (all : List Ends). bonds_between all c.args.j.now) (sym (append-nil ends))

pub loop-i-preserved : goal.loop-i-preserved
loop-i-preserved c =
    let s = c.args.self in
    let i = c.loop-i.i in
    let step = c.args.step in
    let f : ℕ → Ends = ends_from s.kind step s.rows s.cols in
    let has : ℕ → Bool = λ k. has_bond s.kind step s.rows s.cols (k / s.cols) (k % s.cols) in
    λ ends is. c.in_ok-push_bond.ensures (ends ++ map f (chosen_below has i)) (c.loop-i.invariant ends is)
    ∙ ap (λ (all : List Ends). bonds_between all c.args.j.now) (map_chosen_more f has ends i)
