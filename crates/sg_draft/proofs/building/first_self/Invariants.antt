use Rattle.std.proofs.Common.{◌≡◌, ◌<◌, ℕ, false}
use Rattle.sg_draft.specs.Bonds.{is_self_bond, listed_bond}
use Rattle.sg_draft.proofs.building.first_self.Given as goal

-- no bond so far joins a spin to itself
abbrev pub invariant-loop-k : goal.invariant-loop-k
invariant-loop-k l = (i : ℕ) → i < l.k → is_self_bond (listed_bond l.bonds i) ≡ false
