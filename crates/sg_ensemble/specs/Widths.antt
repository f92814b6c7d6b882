-- Wall energies over the width of a cylinder.
use Rattle.std.specs.Prelude.{◌≡◌, ℕ, ◌+◌, ◌*◌, ◌<◌, ◌≤◌, ℤ, pos, List, length, slice_index_or}
use Rattle.sg_ensemble.specs.declared.by_width.Width.{Width}
use Rattle.sg_ensemble.specs.Samples.{AreWalls, DrawsSamples, draw_count, int_sum, square_sum}

-- a width with the sum and the sum of squares of the wall energies of so many samples, which have the first draws of a
-- stream
pub record IsWidth (rows cols count : ℕ) (stream : ℕ → List ℤ) (width : Width) : Type 0 where
  pub walls : List ℤ
  pub are : AreWalls rows cols count (stream (count * draw_count rows cols)) walls
  pub columns : width.cols ≡ cols
  pub summed : width.sum ≡ int_sum walls
  pub squared : width.squares ≡ square_sum walls

-- the stream was begun at some width, from 3 to the last, and the draws of some of its samples were made
pub record StopsAtWidth (rows last count : ℕ) (stream new : ℕ → List ℤ) : Type 0 where
  pub cols : ℕ
  pub wide : 3 ≤ cols
  pub narrow : cols ≤ last
  pub drawn : DrawsSamples rows cols count stream new

-- the widths from 3 on, so many of them, each with the stream from its beginning
pub record AreWidths (rows count : ℕ) (stream : ℕ → List ℤ) (number : ℕ) (widths : List Width) : Type 0 where
  pub counted : length widths ≡ number
  pub each : (k : ℕ) → k < number
      → IsWidth rows (3 + k) count stream (slice_index_or widths k
      (record { cols = 0; sum = pos 0; squares = pos 0 }))
