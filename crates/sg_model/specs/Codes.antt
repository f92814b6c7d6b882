-- Assignments by number: bit i of a code, from the lowest, says whether spin i is down.
use Rattle.std.specs.Prelude.{ℕ, zero, suc, ℤ, pos, negsuc, List, [], ◌∷◌, ◌/◌, ◌%◌, ◌==◌, if◌then◌else◌}

-- the first n spins of a code
abbrev pub coded : ℕ → ℕ → List ℤ
coded zero code = []
coded (suc n) code = (if code % 2 == 0 then pos 1 else negsuc 0) ∷ coded n (code / 2)
