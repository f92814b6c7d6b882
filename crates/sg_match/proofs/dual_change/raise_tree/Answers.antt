-- `raise_tree`: a raise by 0 changes nothing.
use Rattle.std.proofs.Common.{◌≡◌, pos, sym, ap, ◌∙◌, arith}
use Rattle.std.proofs.lemmas.Int.{ints}
use Rattle.sg_arena.specs.Changes.{raised}
use Rattle.sg_base.specs.Naturals.{nat_of}
use Rattle.sg_match.proofs.DualChangeStep.{raised-none}
use Rattle.sg_match.proofs.dual_change.raise_tree.Goals as goal
use Rattle.sg_match.specs.Tree.{inners, outers}

pub returns-else-delta-gt0-clause-raised : goal.returns-else-delta-gt0-clause-raised
returns-else-delta-gt0-clause-raised g c =
    let f = c.args.arena.now in
    let outer = outers c.args.tree.now.root c.args.tree.now.edges.now in
    let inner = inners c.args.tree.now.edges.now in
    let none : c.args.delta ≡ pos 0 = omega (arith, ints) in
    sym (ap (λ z. raised f outer inner (nat_of z)) none ∙ raised-none f outer inner)
