-- Seams: the bonds whose signs are changed together, to put a domain wall into the lattice.
use Rattle.std.specs.Prelude.{◌<◌, All}
use Rattle.sg_model.specs.Ising.{Ising, bond_count}
use Rattle.sg_base.specs.Sets.{DifferByCount}

-- bonds of the instance, none of them twice
pub record IsSeam (inst : Ising) : Type 0 where
  pub below : All (λ k. k < bond_count inst) inst.seam
  pub distinct : DifferByCount inst.seam
