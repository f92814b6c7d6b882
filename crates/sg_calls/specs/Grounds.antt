-- What a study of an instance answers to a caller.
use Rattle.std.specs.Prelude.{◌≡◌, ◌≢◌, ◌↔◌, ℕ, ℤ, [], Option, None, List}
use Rattle.sg_model.specs.Ising.{Ising}
use Rattle.sg_model.specs.Connected.{LeastsUp}
use Rattle.sg_model.specs.Energy.{IsGroundState}
use Rattle.sg_check.specs.Packing.{IsShort, Proves}
use Rattle.sg_check.specs.declared.packing.Loop.{Loop}
use Rattle.sg_check.specs.declared.packing.ResultText.{ResultText}
use Rattle.sg_check.specs.declared.verdict.Verdict.{Verdict}
use Rattle.sg_check.specs.declared.verdict.Verdict.TheVariants.{Yes}
use Rattle.sg_check.specs.Verdict.{IsVerdict}
use Rattle.sg_faces.specs.Faces.{IsFaceLabels, Labelling}
use Rattle.sg_nest.specs.declared.nest.Nest.{Nest}
use Rattle.sg_ground.specs.Nested.{IsNestedState, ProvesByNest}
use Rattle.sg_wall.specs.Wall.{IsWall}
use Rattle.sg_report.specs.Text.{verdict_text}
use Rattle.sg_report.specs.Exit.{exit_code}
use Rattle.sg_cli.specs.Served.{status_by}
use Rattle.sg_calls.specs.Crossing.{Fills}
use Rattle.sg_calls.specs.Proofs.{NestLists, nest_fault, nest_said}

-- a ground state with its energy, the least spin of each component up, and few loops that prove it, have crossed so
pub record IsGround (inst : Ising) (energy : ℤ) (Crosses : List ℤ → List Loop → Type 0) : Type 0 where
  pub spins : List ℤ
  pub loops : List Loop
  pub least : IsGroundState inst spins
  pub proves : Proves inst spins energy loops
  pub short : IsShort inst loops
  pub leasts_up : LeastsUp inst spins
  pub crossed : Crosses spins loops

-- the energies of the wall at the seam
pub record IsWallAtSeam (inst : Ising) (periodic antiperiodic difference : ℤ) : Type 0 where
  pub seam : inst.seam ≢ []
  pub wall : IsWall inst periodic antiperiodic difference

-- the exact list, as the costs of all bonds or the clusters of all spins, has crossed so
pub record IsExact {A : Type 0} (Is Crosses : List A → Type 0) : Type 0 where
  pub list : List A
  pub exact : Is list
  pub crossed : Crosses list

-- a ground state with its energy, and perhaps a nest over the faces that proves it, have crossed so
pub record IsNested (inst : Ising) (energy : ℤ) (Crosses : List ℤ → Option Nest → Type 0) : Type 0 where
  pub spins : List ℤ
  pub nest : Option Nest
  pub faces : Labelling
  pub labels : IsFaceLabels inst faces
  pub state : IsNestedState (record { instance = inst; faces = faces }) spins energy nest
  pub crossed : Crosses spins nest

-- the numbers pass their tests; and whether the spins with this energy and the nest that the lists say are a proof: if
-- so, the spins are a ground state
pub record IsNestVerdict (s : List ℤ) (lists : NestLists) (e : ℤ) (code : ℕ) (inst : Ising) : Type 0 where
  pub passes : nest_fault s lists ≡ None
  pub faces : Labelling
  pub labels : IsFaceLabels inst faces
  pub proves : (code ≡ 0) ↔ ProvesByNest (record { instance = inst; faces = faces }) s e (nest_said lists)
  pub least : code ≡ 0 → IsGroundState inst s

-- the verdict on what numbers state as a proof of the instance; if it is yes, the stated spins are a ground state
pub record IsJudged (Says : ResultText → Type 0) (inst : Ising) (verdict : Verdict) : Type 0 where
  pub stated : ResultText
  pub says : Says stated
  pub exact : IsVerdict inst stated verdict
  pub least : verdict ≡ Yes → IsGroundState inst stated.spins

-- its line has crossed, and its status
pub record Judges (Says : ResultText → Type 0) (before after : List ℕ) (written code : ℕ)
    (inst : Ising) : Type 0 where
  pub verdict : Verdict
  pub judged : IsJudged Says inst verdict
  pub line : Fills (verdict_text verdict) before after written
  pub ended : code ≡ exit_code (status_by verdict)
  pub least : code ≡ 0 → IsGroundState inst judged.stated.spins
