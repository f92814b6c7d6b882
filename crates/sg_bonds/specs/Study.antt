-- What is studied: a planar instance, and one of its ground states.
use Rattle.std.specs.Prelude.{◌≡◌, ◌≤◌}
use Rattle.sg_base.specs.Limits.{sum_limit}
use Rattle.sg_model.specs.Energy.{IsGroundState, energy, weight}
use Rattle.sg_bonds.specs.declared.weaken.Study.{Study}

-- the spins are a ground state with this energy, and the sum of the couplings' sizes is within its limit
pub record IsStudy (study : Study) : Type 0 where
  pub sum : weight study.planar.now.instance ≤ sum_limit
  pub ground_state : IsGroundState study.planar.now.instance study.least.now.spins
  pub energy : study.least.now.energy ≡ energy study.planar.now.instance study.least.now.spins
