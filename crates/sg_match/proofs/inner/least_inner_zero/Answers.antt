-- `least_inner_zero`: the least inner blossom of dual 0 of the tree edges seen.
use Rattle.std.proofs.Common.{◌≡◌, ◌+◌, length, sym, ◌∙◌, subst, arith}
use Rattle.std.proofs.lemmas.Bool.{false≢true}
use Rattle.std.proofs.lemmas.Option.{none-some}
use Rattle.sg_match.proofs.inner.least_inner_zero.Goals as goal
use Rattle.sg_match.proofs.inner.least_inner_zero.Goals.{else-is_zero, then-is_zero}
use Rattle.sg_match.proofs.InnerLemmas.{IsBest, IsBest-none, IsBest-skip, IsBest-some, IsBest-take}

pub loop-tree_edge-init : goal.loop-tree_edge-init
loop-tree_edge-init c = record { some = λ name is. absurd (none-some name is); least = λ node o low. absurd (omega (arith, low)) }

pub loop-tree_edge-preserved : goal.loop-tree_edge-preserved
loop-tree_edge-preserved c =
    let f = c.args.arena.now in
    let edges = c.args.edges.now in
    let i = c.loop-tree_edge.tree_edge-index in
    let best = c.loop-tree_edge.least in
    elim c.if-is_zero.branch [
      | then-is_zero w ↦
          let zero = c.is_zero.ensures.sound w.if-is_zero.true in
          subst (λ o. IsBest f edges (i + 1) o) (sym w.least-is)
          (IsBest-take f edges i w.lesser_name.result best (omega arith) zero.0 zero.1 w.lesser_name.ensures.other w.lesser_name.ensures.name
          w.lesser_name.ensures.one c.loop-tree_edge.invariant)
      | else-is_zero w ↦
          subst (λ o. IsBest f edges (i + 1) o) (sym w.least-is)
          (IsBest-skip f edges i best (λ is. false≢true (sym w.if-is_zero.false ∙ c.is_zero.ensures.complete is.0 is.1)) c.loop-tree_edge.invariant)
    ]

pub returns-clause-some : goal.returns-clause-some
returns-clause-some c =
    let all : c.loop-tree_edge.tree_edge-index ≡ length c.args.edges.now = omega arith in
    IsBest-some c.args.arena.now c.args.edges.now c.loop-tree_edge.least
    (subst (λ n. IsBest c.args.arena.now c.args.edges.now n c.loop-tree_edge.least) all c.loop-tree_edge.invariant)

pub returns-clause-none : goal.returns-clause-none
returns-clause-none c =
    let all : c.loop-tree_edge.tree_edge-index ≡ length c.args.edges.now = omega arith in
    IsBest-none c.args.arena.now c.args.edges.now c.loop-tree_edge.least
    (subst (λ n. IsBest c.args.arena.now c.args.edges.now n c.loop-tree_edge.least) all c.loop-tree_edge.invariant)
