-- States by the bonds that they break, or turn from a ground state.
use Rattle.std.specs.Prelude.{◌≡◌, ℕ, ◌<◌, ℤ, neg_ℤ, ◌+ℤ◌, true, All, List, length}
use Rattle.std.specs.List.Sorted.{IsStrictlyIncreasing}
use Rattle.sg_base.specs.Sets.{is_marked}
use Rattle.sg_model.specs.Ising.{Ising, bond_at, bond_count}
use Rattle.sg_model.specs.Spins.{IsAssignment}
use Rattle.sg_model.specs.Energy.{energy, product}
use Rattle.sg_planar.specs.BrokenLists.{BreaksExactly}
use Rattle.sg_bonds.specs.declared.bounds.Turned.{Turned}

-- some assignment of this energy breaks just these bonds, which rise
pub record HasBroken (inst : Ising) (e : ℤ) (bonds : List ℕ) : Type 0 where
  pub state : List ℤ
  pub assignment : IsAssignment inst state
  pub value : energy inst state ≡ e
  pub breaks : BreaksExactly inst state bonds
  pub rising : IsStrictlyIncreasing bonds
  pub below : All (λ k. k < bond_count inst) bonds

-- an assignment t, with another product than s at each bond that is marked
pub record IsTurned (inst : Ising) (s : List ℤ) (turned : Turned) : Type 0 where
  pub state : List ℤ
  pub assignment : IsAssignment inst state
  pub above : energy inst state ≡ energy inst s +ℤ turned.cost
  pub count : length turned.marks.items ≡ bond_count inst
  pub turns : (k : ℕ) → k < bond_count inst → is_marked turned.marks.items k ≡ true →
      product state (bond_at inst k) ≡ neg_ℤ (product s (bond_at inst k))
