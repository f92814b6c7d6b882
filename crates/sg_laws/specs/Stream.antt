-- The streams of the laws.
use Rattle.std.specs.Prelude.{◌≡◌, ◌+◌, ◌%◌, ◌<◌, ◌≤ℤ◌, ◌-ℤ◌, ◌==◌, ℕ, ℤ, pos, negsuc, List, ◌++◌, map, length, All, if◌then◌else◌, slice_index_or}
use Rattle.std.specs.List.{range_with_len}
use Rattle.rand_core.specs.Steps.{first_words}
use Rattle.rand_pcg.specs.Lcg.{Lcg, started, increment_of}
use Rattle.rand_pcg.specs.Pcg.{pcg32, multiplier_64}

-- every draw is from -2^20 to 2^20
pub record IsDraw (z : ℤ) : Type 0 where
  pub low : negsuc 1048575 ≤ℤ z
  pub high : z ≤ℤ pos 1048576

-- so many draws were made of a stream, the first ones, and it continues after them
pub record Draws (made : ℕ) (old new : ℕ → List ℤ) : Type 0 where
  pub counted : length (old made) ≡ made
  pub goes_on : (c : ℕ) → old (made + c) ≡ old made ++ new c

-- 1 for an even number, -1 for an odd one
abbrev pub sign_of : ℕ → ℤ
sign_of word = if word % 2 == 0 then pos 1 else negsuc 0

-- alternating signs, from that of s on
abbrev pub alternating : ℕ → ℕ → List ℤ
alternating s count = map sign_of (range_with_len s count)

-- the generator of a seed, on stream 54
abbrev pub seeded_generator : ℕ → Lcg
seeded_generator seed = started 64 multiplier_64 seed (increment_of 64 54)

-- the lower 21 bits of a word, less 2^20
abbrev pub level_of : ℕ → ℤ
level_of word = pos (word % 2097152) -ℤ pos 1048576

-- what a law makes of the next words of a generator
abbrev pub drawn : (ℕ → ℤ) → ℕ → Lcg → List ℤ
drawn draw count g = map draw (first_words pcg32 count g)

-- the entries of a list from a place on, round and round
abbrev pub round : List ℤ → ℕ → ℕ → List ℤ
round draws place count = map (λ i. slice_index_or draws (i % length draws) (pos 0)) (range_with_len place count)

-- a list of draws that is gone round, and the place of the next one
pub record Round : Type 0 where
  pub title : List ℕ
  pub draws : List ℤ
  pub place : ℕ

-- what such a list keeps
pub record IsRound (t : Round) : Type 0 where
  pub within : t.place < length t.draws
  pub range : All IsDraw t.draws
