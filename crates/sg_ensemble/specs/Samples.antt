-- Samples of a cylinder with couplings that are drawn, and the energies of their domain walls.
use Rattle.std.specs.Prelude.{◌≡◌, ℕ, ◌*◌, ◌<◌, ◌≤◌, ℤ, pos, ◌+ℤ◌, ◌*ℤ◌, List, length, take, drop, fold, slice_index_or}
use Rattle.sg_base.specs.Limits.{spin_limit}
use Rattle.sg_model.specs.Ising.{Ising}
use Rattle.sg_model.specs.WellFormed.{IsInstance}
use Rattle.sg_laws.specs.Stream.{Draws}
use Rattle.sg_lattice.specs.declared.kind.Kind.TheVariants.{Cylinder}
use Rattle.sg_lattice.specs.Tables.{bond_total, lattice}
use Rattle.sg_faces.specs.Euler.{IsEuler}
use Rattle.sg_planar.specs.Fit.{IsFit}
use Rattle.sg_wall.specs.Wall.{IsWall}

-- the sizes that are studied
pub record IsStudied (rows cols : ℕ) : Type 0 where
  pub has_row : 1 ≤ rows
  pub closes : 3 ≤ cols
  pub few : rows * cols ≤ spin_limit

-- the cylinder of this size, with some couplings
pub record IsCylinder (rows cols : ℕ) (inst : Ising) : Type 0 where
  pub couplings : List ℤ
  pub drawn : inst ≡ lattice Cylinder rows cols couplings

-- the cylinder of this size is drawn on a sphere. Euler's number does not depend on the couplings, so it is enough that
-- it is 2 for some of them
pub record IsSpherical (rows cols : ℕ) : Type 0 where
  pub couplings : List ℤ
  pub instance : IsInstance (lattice Cylinder rows cols couplings)
  pub genus_zero : IsEuler (lattice Cylinder rows cols couplings) (pos 2)

-- the number of bonds, and so of draws for a sample
abbrev pub draw_count : ℕ → ℕ → ℕ
draw_count rows cols = bond_total Cylinder rows cols

-- sample i of a stream: with m bonds it has the draws i m to (i + 1) m - 1, in the order of the bonds
abbrev pub sample_at : ℕ → ℕ → List ℤ → ℕ → Ising
sample_at rows cols draws i =
    lattice Cylinder rows cols (take (draw_count rows cols) (drop (i * draw_count rows cols) draws))

-- the draws of some whole samples were made of a stream, of at most so many, and it continues after them
pub record DrawsSamples (rows cols most : ℕ) (old new : ℕ → List ℤ) : Type 0 where
  pub samples : ℕ
  pub few : samples ≤ most
  pub drawn : Draws (samples * draw_count rows cols) old new

-- the instance is fit for a planar solver, and this is the energy of the domain wall at its seam
pub record IsFitWithWall (inst : Ising) (difference : ℤ) : Type 0 where
  pub fit : IsFit inst
  pub periodic : ℤ
  pub antiperiodic : ℤ
  pub wall : IsWall inst periodic antiperiodic difference

-- the wall energies of the first `count` samples of a stream, in their order
pub record AreWalls (rows cols count : ℕ) (draws walls : List ℤ) : Type 0 where
  pub counted : length walls ≡ count
  pub each : (i : ℕ) → i < count → IsFitWithWall (sample_at rows cols draws i) (slice_index_or walls i (pos 0))

-- the sum of numbers
abbrev pub int_sum : List ℤ → ℤ
int_sum numbers = fold (λ t x. t +ℤ x) (pos 0) numbers

-- the sum of the squares of numbers
abbrev pub square_sum : List ℤ → ℤ
square_sum numbers = fold (λ t x. t +ℤ (x *ℤ x)) (pos 0) numbers
