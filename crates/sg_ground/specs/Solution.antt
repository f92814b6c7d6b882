-- What a ground state is answered with.
use Rattle.std.specs.Prelude.{◌≡◌, ◌≤◌, ℤ, pos, ◌+ℤ◌, Bool, List, IsTrue, unsigned_abs}
use Rattle.sg_model.specs.Ising.{Ising}
use Rattle.sg_model.specs.Connected.{LeastsUp}
use Rattle.sg_model.specs.Energy.{IsGroundState, energy, weight}
use Rattle.sg_check.specs.declared.packing.Loop.{Loop}
use Rattle.sg_check.specs.Packing.{IsShort, Packs, packed_weight}

-- a ground state with its energy, no larger than the weight of all bonds, the least spin of each component up
pub record IsState (inst : Ising) (s : List ℤ) (e : ℤ) : Type 0 where
  pub ground_state : IsGroundState inst s
  pub stated : energy inst s ≡ e
  pub size : unsigned_abs e ≤ weight inst
  pub leasts_up : LeastsUp inst s

-- such a state with a packing of few loops, which proves it if loops are wanted
pub record IsSolution (with_loops : Bool) (inst : Ising) (s : List ℤ) (e : ℤ) (loops : List Loop) : Type 0 where
  pub state : IsState inst s e
  pub packs : Packs inst loops
  pub short : IsShort inst loops
  pub tight : IsTrue with_loops → pos (packed_weight loops) ≡ e +ℤ pos (weight inst)
