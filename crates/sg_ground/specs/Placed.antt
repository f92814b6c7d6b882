-- What a part gives to the whole, in the numbers of the whole.
use Rattle.std.specs.Prelude.{◌≡◌, ℕ, ◌<◌, false, ℤ, List, length, map, slice_index}
use Rattle.sg_base.specs.Sets.{holds}
use Rattle.sg_model.specs.Spins.{spin}
use Rattle.sg_check.specs.declared.packing.Loop.{Loop}

-- the number in the whole of what is at this place of the part
abbrev pub numbered : List ℕ → ℕ → ℕ
numbered xs i = slice_index xs i

-- the loop of the part through the same bonds of the whole, with the same weight
abbrev pub loop_in_whole : List ℕ → Loop → Loop
loop_in_whole bonds l = record { y = l.y; bonds = map (numbered bonds) l.bonds }

-- the spins of the whole have the values t that the part gives them
abbrev pub HasValues : List ℕ → List ℤ → List ℤ → Type 0
HasValues spins s t = (i : ℕ) → i < length spins → spin s (numbered spins i) ≡ spin t i

-- the values t are at these spins, and nothing else is new
pub record WritesAt (spins : List ℕ) (t old new : List ℤ) : Type 0 where
  pub count : length new ≡ length old
  pub values : HasValues spins new t
  pub others : (x : ℕ) → holds spins x ≡ false → spin new x ≡ spin old x
