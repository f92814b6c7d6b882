-- What is answered to words that name a law: the status and the whole text that belong to its draws.
use Rattle.std.specs.Prelude.{◌≡◌, ◌<◌, ◌≤◌, ◌*◌, ◌-◌, ◌+ℤ◌, ℕ, ℤ, pos, Option, Some, None, List, map, ⊤}
use Rattle.sg_model.specs.declared.refusal.Refusal.{Refusal}
use Rattle.sg_model.specs.declared.refusal.Refusal.TheVariants.{UnknownLaw}
use Rattle.sg_model.specs.declared.refusal.Fault.{Fault}
use Rattle.sg_model.specs.declared.refusal.Fault.TheVariants as fault
use Rattle.sg_model.specs.Ising.{Ising, bond_count}
use Rattle.sg_model.specs.Energy.{IsLeastEnergy, weight}
use Rattle.sg_lattice.specs.declared.kind.Kind.{Kind}
use Rattle.sg_lattice.specs.declared.kind.Kind.TheVariants.{Square, Cylinder}
use Rattle.sg_lattice.specs.Tables.{bond_total, lattice}
use Rattle.sg_laws.specs.Named.{Law}
use Rattle.sg_planar.specs.Fit.{IsFit, IsUnfit}
use Rattle.sg_ensemble.specs.declared.by_width.Width.{Width}
use Rattle.sg_ensemble.specs.Samples.{AreWalls, draw_count, int_sum, square_sum}
use Rattle.sg_ensemble.specs.Widths.{AreWidths}
use Rattle.sg_report.specs.Ensembles.{ensemble_text, widths_text}
use Rattle.sg_report.specs.Samples.{instance_text, sample_text}
use Rattle.sg_words.specs.declared.command.Drawing.{Drawing}
use Rattle.sg_words.specs.declared.command.Drawing.TheVariants.{Gen, Sample, Ensemble, Widths}
use Rattle.sg_words.specs.declared.command.Size.{Size}
use Rattle.sg_report.specs.Refused.{IsRefused}
use Rattle.sg_report.specs.declared.status.Status.{Status}
use Rattle.sg_report.specs.declared.status.Status.TheVariants.{Done}

-- a lattice with its couplings
pub record PrintsLattice (kind : Kind) (size : Size) (couplings : List ℤ) (text : List ℕ)
    (status : Status) : Type 0 where
  pub printed : text ≡ instance_text kind size.rows size.cols couplings
  pub done : status ≡ Done

-- the least energy of an instance, with its numbers of spins and bonds, its weight, and the weight of the bonds that
-- are broken at the least energy: twice that is the energy and the weight together
pub record PrintsSample (inst : Ising) (text : List ℕ) (status : Status) : Type 0 where
  pub energy : ℤ
  pub broken : ℤ
  pub least : IsLeastEnergy inst energy
  pub half : broken +ℤ broken ≡ energy +ℤ pos (weight inst)
  pub printed : text ≡ sample_text inst.n (bond_count inst) (pos (weight inst)) energy broken
  pub done : status ≡ Done

-- a sample is refused as any instance if it is not fit
pub data AnswersSample (inst : Ising) (text : List ℕ) (status : Status) : Type 0 where
  SampleUnfit : (refusal : Refusal) → IsUnfit inst refusal → IsRefused refusal text status
      → AnswersSample inst text status
  SampleSolved : IsFit inst → PrintsSample inst text status → AnswersSample inst text status

-- the couplings of a lattice: the first draws, one for each bond in order
abbrev pub drawn_couplings : Kind → Size → (ℕ → List ℤ) → List ℤ
drawn_couplings kind size stream = stream (bond_total kind size.rows size.cols)

-- the lattice with these couplings
abbrev pub drawn_lattice : Kind → Size → (ℕ → List ℤ) → Ising
drawn_lattice kind size stream = lattice kind size.rows size.cols (drawn_couplings kind size stream)

-- the wall energies of so many samples, their sum, and the sum of their squares
pub record PrintsEnsemble (size : Size) (count : ℕ) (stream : ℕ → List ℤ) (text : List ℕ)
    (status : Status) : Type 0 where
  pub walls : List ℤ
  pub exact : AreWalls size.rows size.cols count (stream (count * draw_count size.rows size.cols)) walls
  pub printed : text ≡ ensemble_text walls (int_sum walls) (square_sum walls)
  pub done : status ≡ Done

-- an ensemble is refused as its first sample if that is not fit, and else its walls are found
pub data AnswersEnsemble (size : Size) (count : ℕ) (stream : ℕ → List ℤ) (text : List ℕ)
    (status : Status) : Type 0 where
  EnsembleUnfit : (refusal : Refusal) → IsUnfit (drawn_lattice Cylinder size stream) refusal
      → IsRefused refusal text status → AnswersEnsemble size count stream text status
  EnsembleFound : IsFit (drawn_lattice Cylinder size stream) → PrintsEnsemble size count stream text status
      → AnswersEnsemble size count stream text status

-- the sums over the ensembles of 3 columns and more, up to those of the size
pub record PrintsWidths (size : Size) (count : ℕ) (stream : ℕ → List ℤ) (text : List ℕ)
    (status : Status) : Type 0 where
  pub widths : List Width
  pub exact : AreWidths size.rows count stream (size.cols - 2) widths
  pub printed : text ≡ widths_text (map (λ w. w.cols) widths) (map (λ w. w.sum) widths) (map (λ w. w.squares) widths)
  pub done : status ≡ Done

-- so many rows of the size, with other columns
abbrev pub with_cols : Size → ℕ → Size
with_cols size cols = record { rows = size.rows; cols = cols }

-- the first sample of each width is fit, from 3 columns to those of the size
abbrev pub AreFitWidths : Size → (ℕ → List ℤ) → Type 0
AreFitWidths size stream =
    (c : ℕ) → 3 ≤ c → c ≤ size.cols → IsFit (drawn_lattice Cylinder (with_cols size c) stream)

-- the first sample is fit for each width from 3 columns to fewer than these, and refused for these
pub record IsUnfitWidth (size : Size) (stream : ℕ → List ℤ) (refusal : Refusal) : Type 0 where
  pub cols : ℕ
  pub closes : 3 ≤ cols
  pub within : cols ≤ size.cols
  pub narrower : (c : ℕ) → 3 ≤ c → c < cols → IsFit (drawn_lattice Cylinder (with_cols size c) stream)
  pub unfit : IsUnfit (drawn_lattice Cylinder (with_cols size cols) stream) refusal

-- the refusal of the least such width, or out of memory, which may come at any time
abbrev pub IsWidthFault : Size → (ℕ → List ℤ) → Fault → Type 0
IsWidthFault size stream (fault.Refused refusal) = IsUnfitWidth size stream refusal
IsWidthFault size stream fault.NoMemory = ⊤

-- a study over widths is refused as the first sample of the least width if that is not fit, and where all these
-- samples are fit the sums are found
pub data AnswersWidths (size : Size) (count : ℕ) (stream : ℕ → List ℤ) (text : List ℕ) (status : Status) : Type 0 where
  WidthUnfit : (refusal : Refusal) → IsUnfitWidth size stream refusal → IsRefused refusal text status
      → AnswersWidths size count stream text status
  WidthsFound : AreFitWidths size stream → PrintsWidths size count stream text status
      → AnswersWidths size count stream text status

-- what a command answers that draws, if its law has these draws after each seed
abbrev pub AnswersDraws : Drawing → (ℕ → ℕ → List ℤ) → List ℕ → Status → Type 0
AnswersDraws (Gen seed kind size) stream text status =
    PrintsLattice kind size (drawn_couplings kind size (stream seed)) text status
AnswersDraws (Sample seed size) stream text status =
    AnswersSample (drawn_lattice Square size (stream seed)) text status
AnswersDraws (Ensemble seed size count) stream text status = AnswersEnsemble size count (stream seed) text status
AnswersDraws (Widths seed size count) stream text status = AnswersWidths size count (stream seed) text status

-- what a command that draws answers, by the law of its name: without one it is refused
abbrev pub AnswersLaw : Drawing → Option Law → List ℕ → Status → Type 0
AnswersLaw drawing None text status = IsRefused UnknownLaw text status
AnswersLaw drawing (Some law) text status = AnswersDraws drawing law.stream text status
