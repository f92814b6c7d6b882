use Rattle.std.proofs.Common.{◌≡◌, ◌/◌, ◌%◌, List, ◌++◌, map}
use Rattle.sg_base.specs.Sets.{chosen_below}
use Rattle.sg_lattice.specs.declared.kind.Ends.{Ends}
use Rattle.sg_lattice.specs.Tables.{bonds_between, ends_from, has_bond}
use Rattle.sg_lattice.proofs.shape.Shape.push_bonds.Given as goal

abbrev pub invariant-loop-i : goal.invariant-loop-i
invariant-loop-i l =
    (ends : List Ends) → l.initial.bonds ≡ bonds_between ends l.j
    → l.bonds ≡ bonds_between (ends ++ map (ends_from l.self.kind l.step l.self.rows l.self.cols) (chosen_below
    (λ i. has_bond l.self.kind l.step l.self.rows l.self.cols (i / l.self.cols) (i % l.self.cols)) l.i)) l.j
