use Rattle.std.proofs.Common.{List, [], ◌++◌, map, ◌∙◌, ap, append_assoc}
use Rattle.sg_lattice.specs.declared.kind.Ends.{Ends}
use Rattle.sg_lattice.specs.declared.kind.Step.{Step}
use Rattle.sg_lattice.specs.declared.kind.Step.TheVariants.{East, South, SouthEast}
use Rattle.sg_lattice.specs.Tables.{bonds_between, ends_from, bond_origins}
use Rattle.sg_lattice.proofs.shape.Shape.push_all.Goals as goal

-- the bonds of each step, behind those of the steps before
pub returns : goal.returns
returns c =
    let s = c.args.self in
    let part : Step → List Ends = λ step. map (ends_from s.kind step s.rows s.cols) (bond_origins s.kind step s.rows s.cols) in
    c.in_ok-push_bonds-3.ensures (part East ++ part South)
    (c.in_ok-push_bonds-2.ensures (part East) (c.in_ok-push_bonds.ensures [] (c.reserve.ensures ∙ c.requires)))
    ∙ ap (λ (ends : List Ends). bonds_between ends c.args.j.now) (append_assoc (part East) (part South) (part SouthEast))
