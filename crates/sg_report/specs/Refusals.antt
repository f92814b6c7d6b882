-- The number of each refusal, and the numbers that it keeps. Number 14 is not in use.
use Rattle.std.specs.Prelude.{ℤ, pos, List, [], ◌∷◌}
use Rattle.sg_model.specs.declared.refusal.Refusal.{Refusal}
use Rattle.sg_model.specs.declared.refusal.Refusal.TheVariants.{TooLong, Unended, BadNumber, UnknownKind, BadShape, CouplingCount, TooManySpins, TooManyBonds, SelfBond, BadRotation, BadSeam, Trailing, SumTooLarge, NotPlanar, NoSeam, UnknownLaw, BadJson, BadMember, JsonTooLong, OddTerminals, BadTerminal, NotJoined}

-- the numbers of a refusal as its line prints them: its own, and what it keeps
abbrev pub refusal_numbers : Refusal → List ℤ
refusal_numbers (TooLong limit) = pos 1 ∷ pos limit ∷ []
refusal_numbers Unended = pos 2 ∷ []
refusal_numbers (BadNumber at field) = pos 3 ∷ pos at ∷ pos field ∷ []
refusal_numbers (UnknownKind at) = pos 4 ∷ pos at ∷ []
refusal_numbers (BadShape at) = pos 5 ∷ pos at ∷ []
refusal_numbers (CouplingCount found wanted) = pos 6 ∷ pos found ∷ pos wanted ∷ []
refusal_numbers (TooManySpins n) = pos 7 ∷ n ∷ []
refusal_numbers (TooManyBonds m) = pos 8 ∷ pos m ∷ []
refusal_numbers (SelfBond bond) = pos 9 ∷ pos bond ∷ []
refusal_numbers (BadRotation spin dart) = pos 10 ∷ pos spin ∷ pos dart ∷ []
refusal_numbers (BadSeam bond) = pos 11 ∷ pos bond ∷ []
refusal_numbers (Trailing at) = pos 12 ∷ pos at ∷ []
refusal_numbers (SumTooLarge total) = pos 13 ∷ total ∷ []
refusal_numbers (NotPlanar euler) = pos 15 ∷ euler ∷ []
refusal_numbers NoSeam = pos 16 ∷ []
refusal_numbers UnknownLaw = pos 17 ∷ []
refusal_numbers BadJson = pos 18 ∷ []
refusal_numbers (BadMember place entry) = pos 19 ∷ pos place ∷ pos entry ∷ []
refusal_numbers (JsonTooLong limit) = pos 20 ∷ pos limit ∷ []
refusal_numbers (OddTerminals count) = pos 21 ∷ pos count ∷ []
refusal_numbers (BadTerminal node) = pos 22 ∷ pos node ∷ []
refusal_numbers (NotJoined node) = pos 23 ∷ pos node ∷ []
