-- The walk over all bonds of a connected instance finds all spins, each but spin 0 behind a neighbour.
use Rattle.std.proofs.Common.{⊎_elim, ◌≡◌, ◌<◌, ℕ, Bool, true, false, List, length, replicate, refl, sym, subst, arith, get_or, ◌∙◌, ap}
use Rattle.std.proofs.lemmas.Grind.{elements}
use Rattle.std.proofs.lemmas.List.{length-replicate}
use Rattle.sg_base.specs.Sets.{IsMarked, Stands}
use Rattle.sg_base.proofs.MarkLaws.{marked_in, none_marked}
use Rattle.sg_model.specs.Ising.{Ising, bond_count}
use Rattle.sg_model.specs.Connected.{IsConnected, Reached}
use Rattle.sg_planar.specs.Walk.{IsWalked, has}
use Rattle.sg_planar.proofs.LeastSpins.{reached_by_all}
use Rattle.sg_planar.proofs.Searches.{marked_along}
use Rattle.sg_planar.specs.Following.{IsWalkOrder}
use Rattle.sg_planar.proofs.assignment.walk_order.Goals as goal

-- the walk finds all spins, each but the first behind a neighbour
walked_order : (inst : Ising) (all marks : List Bool) (order : List ℕ) → IsConnected inst → all ≡ replicate (bond_count inst) true →
    IsWalked inst (has all) 0 (replicate inst.n false) marks order → IsWalkOrder inst order
walked_order inst all marks order connected is w = record {
  root_first = w.root_first;
  below = λ k l. (let inside : get_or order k 0 < length marks = marked_in marks (get_or order k 0) (w.marked k l) in omega
      (arith, inside, w.lengths, length-replicate inst.n false));
  found_from = λ k p l. (let f = w.found_from k p l in (f.0, f.1, record { bond = f.2.bond; below = f.2.below; in_set = refl; ends = f.2.ends }));
  complete = λ x l. ⊎_elim (λ (o : IsMarked (replicate inst.n false) x). absurd (none_marked inst.n x o)) (λ (n : Stands order x). n)
      (w.noted x (found x (connected x l)));
}
  where
    found : (x : ℕ) → Reached inst (λ _. true) 0 x → IsMarked marks x
    found x r = marked_along inst (has all) marks w.closed 0 x (subst (λ set. Reached inst (has set) 0 x) (sym is) (reached_by_all inst 0 x r)) w.root_marked

pub returns : goal.returns
returns c =
    let all : c.deref.result.now ≡ replicate (bond_count c.args.inst.now) true =
    c.deref.ensures.value ∙ c.in_ok-all.ensures.items_if_clones_equal (λ y e. e)
    ∙ ap (λ m. replicate m true) (c.len.ensures ∙ ap length c.bonds.ensures.value) in
    let none : c.deref_mut.result.now ≡ replicate c.args.inst.now.n false =
    c.deref_mut.ensures.value ∙ c.in_ok-marks.ensures.items_if_clones_equal (λ y e. e) ∙ ap (λ n. replicate n false) c.n.ensures.value in
    let walked : IsWalked c.args.inst.now (has c.deref.result.now) 0 (replicate c.args.inst.now.n false) c.walk.new.marks c.walk.new.order.items =
    rw none at c.in_ok-walk.ensures in
    walked_order c.args.inst.now c.deref.result.now c.walk.new.marks c.walk.new.order.items c.requires all walked

pub walk-requires-clause-free : goal.walk-requires-clause-free
walk-requires-clause-free c = grind (arith, elements)

pub walk-requires-clause-closed : goal.walk-requires-clause-closed
walk-requires-clause-closed c = grind (arith, elements)
