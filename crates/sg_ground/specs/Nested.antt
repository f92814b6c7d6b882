-- Proofs of ground states by nests of regions over the faces, in linear size.
use Rattle.std.specs.Prelude.{◌≡◌, ◌≤◌, ◌+◌, ◌^◌, ℕ, ℤ, List, Option, IfSome}
use Rattle.sg_base.specs.Sets.{chosen_below}
use Rattle.sg_model.specs.Ising.{Ising, bond_at, bond_count}
use Rattle.sg_model.specs.Broken.{is_broken}
use Rattle.sg_model.specs.Spins.{IsAssignment}
use Rattle.sg_model.specs.Energy.{energy}
use Rattle.sg_planar.specs.Fit.{Embedding}
use Rattle.sg_dual.specs.Dual.{dual_web, frustrated_faces}
use Rattle.sg_nest.specs.Nest.{NestProves}
use Rattle.sg_nest.specs.declared.nest.Nest.{Nest}
use Rattle.sg_ground.specs.Solution.{IsState}

-- spins and bonds together are at most as many as a weighted graph may have nodes, so that all faces are nodes, of
-- however many components
abbrev pub FitsWeb : Ising → Type 0
FitsWeb inst = inst.n + bond_count inst ≤ 2 ^ 24

-- the bonds that the spins break, rising
abbrev pub broken_bonds : Ising → List ℤ → List ℕ
broken_bonds inst s = chosen_below (λ k. is_broken s (bond_at inst k)) (bond_count inst)

-- the spins have the energy, and a nest over the faces proves that no T-join of the frustrated faces weighs less than
-- the bonds that they break
pub record ProvesByNest (p : Embedding) (s : List ℤ) (e : ℤ) (nest : Nest) : Type 0 where
  pub assignment : IsAssignment p.instance s
  pub stated : energy p.instance s ≡ e
  pub nested : NestProves (dual_web p.instance p.faces) (frustrated_faces p.instance p.faces)
      (broken_bonds p.instance s) nest

-- a ground state with its energy, the least spin of each component up, and perhaps a nest that proves it
pub record IsNestedState (p : Embedding) (s : List ℤ) (e : ℤ) (nest : Option Nest) : Type 0 where
  pub state : IsState p.instance s e
  pub proves : IfSome nest (ProvesByNest p s e)
