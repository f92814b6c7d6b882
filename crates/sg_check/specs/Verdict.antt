-- The verdict: the tests of a proof in their order, each made over all loops or bonds before the next.
use Rattle.std.specs.Prelude.{◌≡◌, ◌≢◌, ℕ, ◌<◌, pos, ◌+ℤ◌, ◌≤ℤ◌, List, [], length, slice_index_or, All}
use Rattle.sg_model.specs.Energy.{energy, weight}
use Rattle.sg_model.specs.Ising.{Ising, bond_count}
use Rattle.sg_model.specs.Spins.{IsAssignment}
use Rattle.sg_check.specs.declared.packing.Loop.{Loop}
use Rattle.sg_check.specs.declared.packing.ResultText.{ResultText}
use Rattle.sg_check.specs.declared.verdict.Verdict.{Verdict}
use Rattle.sg_check.specs.declared.verdict.Verdict.TheVariants.{Yes, SpinCount, Energy, LoopShape, LoopEven, LoopSign, Load, Sum}
use Rattle.sg_check.specs.Loop.{IsBondSet, IsEvenAt, IsEven, IsOddlyNegative}
use Rattle.sg_check.specs.Packing.{load, packed_weight, IsWithin, Proves}

-- the spins are an assignment of the instance, with the stated energy
pub record StatesEnergy (inst : Ising) (text : ResultText) : Type 0 where
  pub assignment : IsAssignment inst text.spins
  pub stated : energy inst text.spins ≡ text.energy

-- a weight of 1 or more, and a set of bonds
pub record HasShape (inst : Ising) (l : Loop) : Type 0 where
  pub positive : pos 1 ≤ℤ l.y
  pub set : IsBondSet inst l.bonds

-- loop i, and one without bonds past the last
abbrev pub loop_at : List Loop → ℕ → Loop
loop_at loops i = slice_index_or loops i (record { y = pos 0; bonds = [] })

-- i is the least number below n that fails
pub record IsFirstFailure (Passes : ℕ → Type 0) (n i : ℕ) : Type 0 where
  pub below : i < n
  pub fails : ¬ Passes i
  pub earlier : (k : ℕ) → k < i → Passes k

-- i is the first loop that fails
abbrev pub IsFirstBadLoop : (Loop → Type 0) → List Loop → ℕ → Type 0
IsFirstBadLoop Passes loops i = IsFirstFailure (λ k. Passes (loop_at loops k)) (length loops) i

-- each loop has the shape of one, is even at each spin, and has an odd number of negative bonds
pub record PassesLoops (inst : Ising) (loops : List Loop) : Type 0 where
  pub shaped : All (HasShape inst) loops
  pub even : All (λ l. IsEven inst l.bonds) loops
  pub odd : All (λ l. IsOddlyNegative inst l.bonds) loops

-- no bond carries too much of the loops
abbrev pub PassesLoads : Ising → List Loop → Type 0
PassesLoads inst loops = (k : ℕ) → k < bond_count inst → IsWithin inst loops k

-- the first failed check, with the numbers that show it, and Yes if there is none
abbrev pub IsVerdict : Ising → ResultText → Verdict → Type 0
IsVerdict inst text Yes = Proves inst text.spins text.energy text.loops
IsVerdict inst text (SpinCount found) = (found ≡ length text.spins) × (found ≢ inst.n)
IsVerdict inst text (Energy found) =
    IsAssignment inst text.spins × (found ≡ energy inst text.spins) × (found ≢ text.energy)
IsVerdict inst text (LoopShape index) = StatesEnergy inst text × IsFirstBadLoop (HasShape inst) text.loops index
IsVerdict inst text (LoopEven index spin) =
    StatesEnergy inst text × All (HasShape inst) text.loops
    × IsFirstBadLoop (λ l. IsEven inst l.bonds) text.loops index
    × IsFirstFailure (IsEvenAt inst (loop_at text.loops index).bonds) inst.n spin
IsVerdict inst text (LoopSign index) =
    StatesEnergy inst text × All (HasShape inst) text.loops × All (λ l. IsEven inst l.bonds) text.loops
    × IsFirstBadLoop (λ l. IsOddlyNegative inst l.bonds) text.loops index
IsVerdict inst text (Load bond sum) =
    StatesEnergy inst text × PassesLoops inst text.loops
    × IsFirstFailure (IsWithin inst text.loops) (bond_count inst) bond × (sum ≡ pos (load text.loops bond))
IsVerdict inst text (Sum found wanted) =
    StatesEnergy inst text × PassesLoops inst text.loops × PassesLoads inst text.loops
    × (found ≡ pos (packed_weight text.loops)) × (wanted ≡ text.energy +ℤ pos (weight inst)) × (found ≢ wanted)
