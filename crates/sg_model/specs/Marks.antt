-- Marks on numbers: how the tests of an instance note which entries they have passed.
use Rattle.std.specs.Prelude.{◌≡◌, ℕ, ◌<◌, Bool, true, false, List}
use Rattle.sg_base.specs.Sets.{holds, is_marked}
use Rattle.sg_model.specs.Ising.{Ising}
use Rattle.sg_model.specs.Rotation.{darts_of, is_dart_of}
use Rattle.sg_model.specs.Misplaced.{IsInPlace}

-- the marked ones among the allowed numbers are those of the list
abbrev pub MarksList : (ℕ → Bool) → List Bool → List ℕ → Type 0
MarksList allowed marked xs = (x : ℕ) → allowed x ≡ true → is_marked marked x ≡ holds xs x

-- the lists of the spins before `stop` have no misplaced entry, and the marks show their darts
pub record MarksSpins (inst : Ising) (marked : List Bool) (stop : ℕ) : Type 0 where
  pub in_place : (i : ℕ) → i < stop → IsInPlace (is_dart_of inst i) (darts_of inst i)
  pub marks : (i : ℕ) → i < stop → MarksList (is_dart_of inst i) marked (darts_of inst i)

-- each dart of a spin before `stop` is marked
abbrev pub AllMarked : Ising → List Bool → ℕ → Type 0
AllMarked inst marked stop = (i d : ℕ) → i < stop → is_dart_of inst i d ≡ true → is_marked marked d ≡ true

-- the dart is the least unmarked one of its spin, which is before `stop`
pub record IsLeastUnmarked (inst : Ising) (marked : List Bool) (stop spin dart : ℕ) : Type 0 where
  pub before : spin < stop
  pub is_dart : is_dart_of inst spin dart ≡ true
  pub unmarked : is_marked marked dart ≡ false
  pub least : (d : ℕ) → d < dart → is_dart_of inst spin d ≡ true → is_marked marked d ≡ true
