-- Instances whose tables for the matching fallback take more than is allowed.
use Rattle.std.specs.Prelude.{◌≡◌, ◌⊎◌, ◌<◌, ℕ, length}
use Rattle.sg_model.specs.Ising.{Ising}
use Rattle.sg_model.specs.Connected.{IsConnected}
use Rattle.sg_planar.specs.Fit.{Embedding, IsPlanar}
use Rattle.sg_planar.specs.Parts.{IsPart}
use Rattle.sg_planar.specs.declared.components.Part.{Part}
use Rattle.sg_dual.specs.Dual.{frustrated_faces}
use Rattle.sg_tjoin.specs.Allowance.{table_bytes}

-- the tables for the frustrated faces among all faces take more bytes than that
abbrev pub FacesExceed : ℕ → Embedding → Type 0
FacesExceed most p = most < table_bytes (length (frustrated_faces p.instance p.faces)) p.faces.count

-- an instance that is solved by itself: the whole, or a component of it
abbrev pub IsWholeOrPart : Ising → Ising → Type 0
IsWholeOrPart inst own =
    (own ≡ inst) ⊎ ((least : ℕ) × (part : Part) × IsPart inst least part × (own ≡ part.planar.instance))

-- of the instance, if it is connected, or else of one of its components the tables take more bytes than that
pub record TablesExceed (most : ℕ) (inst : Ising) : Type 0 where
  pub own : Embedding
  pub planar : IsPlanar own
  pub connected : IsConnected own.instance
  pub of : IsWholeOrPart inst own.instance
  pub exceed : FacesExceed most own
