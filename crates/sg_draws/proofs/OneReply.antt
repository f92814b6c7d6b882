-- What a command that draws replies is settled by its draws.
use Rattle.std.proofs.Common.{◌≡◌, inl, inr, ◌+◌, ◌*◌, ◌<◌, ℕ, ℤ, pos, ◌+ℤ◌, List, get_or, map, Option, Some, None, sym, ap, ap₂, subst, ◌∙◌, refl, arith}
use Rattle.std.proofs.lemmas.Bool.{cases_order}
use Rattle.std.proofs.lemmas.Int.{ints}
use Rattle.std.proofs.lemmas.List.{get_or_default, same_lists}
use Rattle.sg_model.specs.declared.refusal.Refusal.{Refusal}
use Rattle.sg_model.specs.declared.refusal.Refusal.TheVariants.{UnknownLaw}
use Rattle.sg_model.specs.Ising.{Ising}
use Rattle.sg_model.specs.Energy.{weight}
use Rattle.sg_model.proofs.OneEnergy.{least-one}
use Rattle.sg_lattice.specs.declared.kind.Kind.TheVariants.{Cylinder, Square}
use Rattle.sg_laws.specs.Named.{Law}
use Rattle.sg_planar.specs.Fit.{IsUnfit}
use Rattle.sg_planar.proofs.OneFitness.{fit_not_unfit, unfit-one}
use Rattle.sg_wall.proofs.OneWall.{wall-one}
use Rattle.sg_ensemble.specs.declared.by_width.Width.{Width}
use Rattle.sg_ensemble.specs.Samples.{AreWalls, IsFitWithWall, draw_count, sample_at, int_sum, square_sum}
use Rattle.sg_ensemble.specs.Widths.{AreWidths, IsWidth}
use Rattle.sg_words.specs.declared.command.Drawing.{Drawing}
use Rattle.sg_words.specs.declared.command.Drawing.TheVariants.{Gen, Sample, Ensemble, Widths}
use Rattle.sg_words.specs.declared.command.Size.{Size}
use Rattle.sg_report.specs.Ensembles.{ensemble_text, widths_text}
use Rattle.sg_report.specs.Text.{refusal_text}
use Rattle.sg_report.specs.Refused.{IsRefused}
use Rattle.sg_report.specs.Same.{IsSameReply}
use Rattle.sg_report.specs.declared.status.Status.{Status}
use Rattle.sg_draws.specs.Drawn.{AnswersDraws, AnswersEnsemble, AnswersLaw, AnswersSample, AnswersWidths, IsUnfitWidth, PrintsEnsemble, PrintsSample, PrintsWidths, drawn_lattice, with_cols}
use Rattle.sg_draws.specs.Drawn.{EnsembleFound, EnsembleUnfit, SampleSolved, SampleUnfit, WidthUnfit, WidthsFound}

-- the lines of one refusal
refused-same : (r q : Refusal) (t u : List ℕ) (s v : Status) → r ≡ q → IsRefused r t s → IsRefused q u v → IsSameReply s v t u
refused-same r q t u s v same a b = record { ended = a.ended ∙ sym b.ended; printed = a.printed ∙ ap refusal_text same ∙ sym b.printed }

-- a sample
halved : (a b c d w : ℤ) → a +ℤ a ≡ c +ℤ w → b +ℤ b ≡ d +ℤ w → c ≡ d → a ≡ b
halved a b c d w p q e = omega (arith, ints)

sample-same : (inst : Ising) (t u : List ℕ) (s v : Status) → PrintsSample inst t s → PrintsSample inst u v → IsSameReply s v t u
sample-same inst t u s v p q =
    let least : p.energy ≡ q.energy = least-one inst p.energy q.energy p.least q.least in
    let broken : p.broken ≡ q.broken = halved p.broken q.broken p.energy q.energy (pos (weight inst)) p.half q.half least in
    record { ended = p.done ∙ sym q.done; printed = p.printed ∙ rw (least, broken) (sym q.printed) }

sample-one : (inst : Ising) (t u : List ℕ) (s v : Status) → AnswersSample inst t s → AnswersSample inst u v → IsSameReply s v t u
sample-one inst t u s v (SampleUnfit r bad line) (SampleUnfit q bad2 line2) = refused-same r q t u s v (unfit-one inst r q bad bad2) line line2
sample-one inst t u s v (SampleUnfit r bad line) (SampleSolved fit prints) = absurd (fit_not_unfit inst fit r bad)
sample-one inst t u s v (SampleSolved fit prints) (SampleUnfit r bad line) = absurd (fit_not_unfit inst fit r bad)
sample-one inst t u s v (SampleSolved fit prints) (SampleSolved fit2 prints2) = sample-same inst t u s v prints prints2

-- the walls of an ensemble
has-one : (inst : Ising) (c d : ℤ) → IsFitWithWall inst c → IsFitWithWall inst d → c ≡ d
has-one inst c d p q = (wall-one inst p.periodic p.antiperiodic c q.periodic q.antiperiodic d p.wall q.wall).2

walls-one : (rows cols count : ℕ) (draws xs ys : List ℤ) → AreWalls rows cols count draws xs → AreWalls rows cols count draws ys → xs ≡ ys
walls-one rows cols count draws xs ys p q =
    same_lists xs ys (p.counted ∙ sym q.counted)
    (λ k d l.
    get_or_default xs k d (pos 0) l
    ∙ has-one (sample_at rows cols draws k) (get_or xs k (pos 0)) (get_or ys k (pos 0)) (p.each k (omega (arith, l, p.counted)))
    (q.each k (omega (arith, l, p.counted)))
    ∙ sym (get_or_default ys k d (pos 0) (omega (arith, l, p.counted, q.counted))))

module _ (size : Size) (count : ℕ) (stream : ℕ → List ℤ) where
  ensemble-same : (t u : List ℕ) (s v : Status) → PrintsEnsemble size count stream t s → PrintsEnsemble size count stream u v → IsSameReply s v t u
  ensemble-same t u s v p q =
      let same : p.walls ≡ q.walls =
      walls-one size.rows size.cols count (stream (count * draw_count size.rows size.cols)) p.walls q.walls p.exact q.exact in
      record {
        ended = p.done ∙ sym q.done;
        printed = p.printed ∙ ap (λ (w : List ℤ). ensemble_text w (int_sum w) (square_sum w)) same ∙ sym q.printed;
      }

  ensemble-one : (t u : List ℕ) (s v : Status) → AnswersEnsemble size count stream t s → AnswersEnsemble size count stream u v → IsSameReply s v t u
  ensemble-one t u s v (EnsembleUnfit r bad line) (EnsembleUnfit q bad2 line2) =
      refused-same r q t u s v (unfit-one (drawn_lattice Cylinder size stream) r q bad bad2) line line2
  ensemble-one t u s v (EnsembleUnfit r bad line) (EnsembleFound fit prints) = absurd (fit_not_unfit (drawn_lattice Cylinder size stream) fit r bad)
  ensemble-one t u s v (EnsembleFound fit prints) (EnsembleUnfit r bad line) = absurd (fit_not_unfit (drawn_lattice Cylinder size stream) fit r bad)
  ensemble-one t u s v (EnsembleFound fit prints) (EnsembleFound fit2 prints2) = ensemble-same t u s v prints prints2

-- the sums of a width
width-same : (w v : Width) → w.cols ≡ v.cols → w.sum ≡ v.sum → w.squares ≡ v.squares → w ≡ v
width-same w v a b c =
    ap₂ (λ (x : ℕ) (y : ℤ). record { cols = x; sum = y; squares = w.squares }) a b
    ∙ ap (λ (z : ℤ). record { cols = v.cols; sum = v.sum; squares = z }) c

width-one : (rows cols count : ℕ) (stream : ℕ → List ℤ) (w v : Width) → IsWidth rows cols count stream w →
    IsWidth rows cols count stream v → w ≡ v
width-one rows cols count stream w v p q =
    let same : p.walls ≡ q.walls = walls-one rows cols count (stream (count * draw_count rows cols)) p.walls q.walls p.are q.are in
    width-same w v (p.columns ∙ sym q.columns) (p.summed ∙ ap int_sum same ∙ sym q.summed) (p.squared ∙ ap square_sum same ∙ sym q.squared)

abbrev no_width : Width
no_width = record { cols = 0; sum = pos 0; squares = pos 0 }

widths-same : (rows count : ℕ) (stream : ℕ → List ℤ) (number : ℕ) (xs ys : List Width) → AreWidths rows count stream number xs
    → AreWidths rows count stream number ys → xs ≡ ys
widths-same rows count stream number xs ys p q =
    same_lists xs ys (p.counted ∙ sym q.counted)
    (λ k d l.
    let inside : k < number = omega (arith, l, p.counted) in
    get_or_default xs k d no_width l
    ∙ width-one rows (3 + k) count stream (get_or xs k no_width) (get_or ys k no_width) (p.each k inside) (q.each k inside)
    ∙ sym (get_or_default ys k d no_width (omega (arith, l, p.counted, q.counted))))

module _ (size : Size) (count : ℕ) (stream : ℕ → List ℤ) where
  -- the least width that is refused is one
  unfit_width-one : (r s : Refusal) → IsUnfitWidth size stream r → IsUnfitWidth size stream s → r ≡ s
  unfit_width-one r s p q = elim (cases_order p.cols q.cols) [
    | inl same ↦ unfit-one (drawn_lattice Cylinder (with_cols size q.cols) stream) r s
        (subst (λ (c : ℕ). IsUnfit (drawn_lattice Cylinder (with_cols size c) stream) r) same p.unfit) q.unfit
    | inr (inl less) ↦ absurd (fit_not_unfit (drawn_lattice Cylinder (with_cols size p.cols) stream) (q.narrower p.cols p.closes less) r p.unfit)
    | inr (inr more) ↦ absurd (fit_not_unfit (drawn_lattice Cylinder (with_cols size q.cols) stream) (p.narrower q.cols q.closes more) s q.unfit)
  ]

  widths-text : (t u : List ℕ) (s v : Status) → PrintsWidths size count stream t s → PrintsWidths size count stream u v → IsSameReply s v t u
  widths-text t u s v p q =
      let same : p.widths ≡ q.widths = widths-same size.rows count stream _ p.widths q.widths p.exact q.exact in
      record {
        ended = p.done ∙ sym q.done;
        printed = p.printed
            ∙ ap (λ (ws : List Width). widths_text (map (λ w. w.cols) ws) (map (λ w. w.sum) ws) (map (λ w. w.squares) ws)) same
            ∙ sym q.printed;
      }

  widths-one : (t u : List ℕ) (s v : Status) → AnswersWidths size count stream t s → AnswersWidths size count stream u v → IsSameReply s v t u
  widths-one t u s v (WidthUnfit r bad line) (WidthUnfit q bad2 line2) = refused-same r q t u s v (unfit_width-one r q bad bad2) line line2
  widths-one t u s v (WidthUnfit r bad line) (WidthsFound fit prints) = absurd (fit_not_unfit _ (fit bad.cols bad.closes bad.within) r bad.unfit)
  widths-one t u s v (WidthsFound fit prints) (WidthUnfit r bad line) = absurd (fit_not_unfit _ (fit bad.cols bad.closes bad.within) r bad.unfit)
  widths-one t u s v (WidthsFound fit prints) (WidthsFound fit2 prints2) = widths-text t u s v prints prints2

-- each command that draws
draws-one : (drawing : Drawing) (stream : ℕ → ℕ → List ℤ) (t u : List ℕ) (s v : Status) → AnswersDraws drawing stream t s
    → AnswersDraws drawing stream u v → IsSameReply s v t u
draws-one (Gen seed kind size) stream t u s v p q = record { ended = p.done ∙ sym q.done; printed = p.printed ∙ sym q.printed }
draws-one (Sample seed size) stream t u s v p q = sample-one (drawn_lattice Square size (stream seed)) t u s v p q
draws-one (Ensemble seed size count) stream t u s v p q = ensemble-one size count (stream seed) t u s v p q
draws-one (Widths seed size count) stream t u s v p q = widths-one size count (stream seed) t u s v p q

pub law-one : (drawing : Drawing) (law : Option Law) (t u : List ℕ) (s v : Status) → AnswersLaw drawing law t s → AnswersLaw drawing law u v
    → IsSameReply s v t u
law-one drawing None t u s v p q = refused-same UnknownLaw UnknownLaw t u s v refl p q
law-one drawing (Some law) t u s v p q = draws-one drawing law.stream t u s v p q
