-- Fit for the planar method: a sum within the limit, and of genus zero by Euler's formula.
use Rattle.std.specs.Prelude.{◌≡◌, ◌≢◌, ◌<◌, ◌≤◌, pos}
use Rattle.sg_model.specs.declared.refusal.Refusal.{Refusal}
use Rattle.sg_model.specs.declared.refusal.Refusal.TheVariants.{SumTooLarge, NotPlanar}
use Rattle.sg_model.specs.Ising.{Ising}
use Rattle.sg_model.specs.WellFormed.{IsInstance}
use Rattle.sg_model.specs.Energy.{weight}
use Rattle.sg_model.specs.Changes.{HasSameDrawing}
use Rattle.sg_faces.specs.Faces.{Labelling, IsFaceLabels}
use Rattle.sg_faces.specs.Euler.{IsEuler}
use Rattle.sg_base.specs.Limits.{sum_limit, forced_limit}

-- the two facts that every planar solver requires
pub record IsFit (inst : Ising) : Type 0 where
  pub small : weight inst ≤ sum_limit
  pub genus_zero : IsEuler inst (pos 2)

-- the first of the two facts that fails, with the number that shows it
abbrev pub IsUnfit : Ising → Refusal → Type 0
IsUnfit inst (SumTooLarge sum) = (sum_limit < weight inst) × (sum ≡ pos (weight inst))
IsUnfit inst (NotPlanar e) = (weight inst ≤ sum_limit) × IsEuler inst e × (e ≢ pos 2)
IsUnfit inst _ = ⊥

-- an instance and its faces
pub record Embedding : Type 0 where
  pub instance : Ising
  pub faces : Labelling

-- what every planar instance keeps
pub record IsPlanar (p : Embedding) : Type 0 where
  pub instance : IsInstance p.instance
  pub faces : IsFaceLabels p.instance p.faces
  pub genus_zero : IsEuler p.instance (pos 2)
  pub sum : weight p.instance ≤ forced_limit

-- an instance that differs in couplings alone, whose sizes sum to no more than the limit
pub record IsRedrawn (inst other : Ising) : Type 0 where
  pub drawing : HasSameDrawing inst other
  pub sum : weight other ≤ forced_limit
