use Rattle.std.proofs.Common.{◌≡◌, true, sym, arith, length, eq-eqb}
use Rattle.sg_draft.specs.Bonds.{is_self_bond, listed_bond}
use Rattle.sg_draft.proofs.Finds.{find_range-none, find_range-some}
use Rattle.sg_draft.proofs.building.first_self.Goals as goal

pub returns-then-bond-clause-first : goal.returns-then-bond-clause-first
returns-then-bond-clause-first c =
    let bonds = c.args.bonds.now in
    let here : is_self_bond (listed_bond bonds c.loop-k.k) ≡ true = eq-eqb _ _ c.if-bond.true in
    let inside = c.loop-k-test.true in
    sym (find_range-some (λ i. is_self_bond (listed_bond bonds i)) 0 (length bonds) c.loop-k.k (omega arith) (omega (arith, inside))
    (λ i low high. c.loop-k.invariant i high) here)

pub returns-clause-first : goal.returns-clause-first
returns-clause-first c =
    let bonds = c.args.bonds.now in
    sym (find_range-none (λ i. is_self_bond (listed_bond bonds i)) 0 (length bonds) (λ i low high. c.loop-k.invariant i (omega arith)))
