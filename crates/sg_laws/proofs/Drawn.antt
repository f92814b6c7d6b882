-- The draws of a law over a generator, one at a time.
use Rattle.std.proofs.Common.{◌≡◌, ◌+◌, ℕ, zero, suc, ℤ, ◌∷◌, length, ap, refl, add-one}
use Rattle.rand_core.specs.Steps.{first_words}
use Rattle.rand_pcg.specs.Lcg.{Lcg}
use Rattle.rand_pcg.specs.Pcg.{pcg32}
use Rattle.sg_laws.specs.Stream.{drawn}

-- the first draw, and the draws after it
pub drawn_next : (draw : ℕ → ℤ) (count : ℕ) (g : Lcg) → drawn draw (count + 1) g ≡ draw (pcg32 g).0 ∷ drawn draw count (pcg32 g).1
unfolding first_words
drawn_next draw count g = rw (add-one count) refl

-- there are as many draws as are asked for
pub drawn_length : (draw : ℕ → ℤ) (count : ℕ) (g : Lcg) → length (drawn draw count g) ≡ count
unfolding first_words
drawn_length draw zero g = refl
drawn_length draw (suc count) g = ap suc (drawn_length draw count (pcg32 g).1)
