-- The number of each test of a proof that fails, and the numbers that it keeps.
use Rattle.std.specs.Prelude.{ℕ, ℤ, pos, List, [], ◌∷◌, codes}
use Rattle.sg_check.specs.declared.verdict.Verdict.{Verdict}
use Rattle.sg_check.specs.declared.verdict.Verdict.TheVariants.{Yes, SpinCount, Energy, LoopShape, LoopEven, LoopSign, Load, Sum}

-- the word of the line
abbrev pub verdict_word : Verdict → List ℕ
verdict_word Yes = codes "yes"
verdict_word _ = codes "no"

-- the numbers of a verdict as its line prints them
abbrev pub verdict_numbers : Verdict → List ℤ
verdict_numbers Yes = []
verdict_numbers (SpinCount found) = pos 1 ∷ pos found ∷ []
verdict_numbers (Energy found) = pos 2 ∷ found ∷ []
verdict_numbers (LoopShape index) = pos 3 ∷ pos index ∷ []
verdict_numbers (LoopEven index spin) = pos 4 ∷ pos index ∷ pos spin ∷ []
verdict_numbers (LoopSign index) = pos 5 ∷ pos index ∷ []
verdict_numbers (Load bond load) = pos 6 ∷ pos bond ∷ load ∷ []
verdict_numbers (Sum found wanted) = pos 7 ∷ found ∷ wanted ∷ []
