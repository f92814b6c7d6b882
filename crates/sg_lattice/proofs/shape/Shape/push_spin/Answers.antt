use Rattle.std.proofs.Common.{ℕ, List, [], ◌∷◌, ◌++◌, ◌∙◌, ap, append_assoc, arith}
use Rattle.std.proofs.lemmas.Grind.{elements}
use Rattle.sg_base.proofs.LastLists.{last_more}
use Rattle.sg_lattice.proofs.shape.Shape.push_spin.Goals as goal

pub push_west-requires-clause-some : goal.push_west-requires-clause-some
push_west-requires-clause-some c = grind (arith, elements)

pub push_forth-requires-2-clause-some : goal.push_forth-requires-2-clause-some
push_forth-requires-2-clause-some c = grind (arith, elements)

pub push_forth-requires-3-clause-some : goal.push_forth-requires-3-clause-some
push_forth-requires-3-clause-some c = grind (arith, elements)

-- each call adds its darts to the list that was opened
pub returns : goal.returns
returns c =
    let east = last_more c.args.rotation.now _ _ [] _ c.in_ok-open.ensures.ok c.in_ok-push_forth.ensures in
    let north = last_more _ _ _ _ _ east c.in_ok-push_north.ensures in
    let north_west = last_more _ _ _ _ _ north c.in_ok-push_north_west.ensures in
    let west = last_more _ _ _ _ _ north_west c.in_ok-push_west.ensures in
    let south = last_more _ _ _ _ _ west c.in_ok-push_forth-2.ensures in
    last_more _ _ _ _ _ south c.in_ok-push_forth-3.ensures ∙ ap (λ (xs : List ℕ). c.args.rotation.now ++ xs ∷ []) (simp append_assoc)
