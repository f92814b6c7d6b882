-- Why no instance is made of its parts.
use Rattle.sg_model.specs.declared.refusal.Fault.{Fault}
use Rattle.sg_model.specs.declared.refusal.Fault.TheVariants.{Refused, NoMemory}
use Rattle.sg_model.specs.declared.refusal.Refusal.{Refusal}
use Rattle.sg_model.specs.declared.refusal.Refusal.TheVariants.{BadRotation, BadSeam}
use Rattle.sg_model.specs.Ising.{Ising}
use Rattle.sg_model.specs.Rotation.{IsRotation}
use Rattle.sg_model.specs.BadRotation.{IsBadRotation}
use Rattle.sg_model.specs.BadSeam.{IsBadSeam}

-- the two refusals: the rotation is tested first, and then the seam
abbrev pub IsRefusalOf : Ising → Refusal → Type 0
IsRefusalOf inst (BadRotation spin dart) = IsBadRotation inst spin dart
IsRefusalOf inst (BadSeam bond) = IsRotation inst × IsBadSeam inst bond
IsRefusalOf inst _ = ⊥

-- a refusal that is so, or out of memory, which may come at any time
abbrev pub OrNoMemory : (Refusal → Type 0) → Fault → Type 0
OrNoMemory Refuses (Refused refusal) = Refuses refusal
OrNoMemory Refuses NoMemory = Unit {0}
