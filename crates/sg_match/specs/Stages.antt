-- What an answer of the engine says.
use Rattle.std.specs.Prelude.{ℕ}
use Rattle.sg_match.specs.InnerZeros.{IsLeastInnerZero}
use Rattle.sg_match.specs.Pairs.{AllPaired}
use Rattle.sg_match.specs.State.{State}
use Rattle.sg_match.specs.declared.Stage.{Stage}
use Rattle.sg_match.specs.declared.Stage.TheVariants.{InnerZero, Matched}

-- all tops are paired, or this inner blossom is to be expanded
abbrev pub IsStage : State → Stage → Type 0
IsStage s Matched = AllPaired s.family s.pairs
IsStage s (InnerZero node) = IsLeastInnerZero s.family s.edges node

-- how many steps an answer leaves open: one, if a blossom is to be expanded
abbrev pub owed : Stage → ℕ
owed Matched = 0
owed (InnerZero node) = 1
