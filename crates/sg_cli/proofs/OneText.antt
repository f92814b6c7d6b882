-- Where a reply leaves nothing free: studies that find numbers alone, verdicts, and commands that draw.
use Rattle.std.proofs.Common.{◌≡◌, inl, inr, ℕ, Option, Some, List, [], ◌∷◌, length, map, refl, sym, ap, subst, ◌∙◌}
use Rattle.std.proofs.lemmas.Bool.{cases_lt}
use Rattle.sg_base.specs.Limits.{input_limit}
use Rattle.sg_model.specs.declared.refusal.Refusal.{Refusal}
use Rattle.sg_model.specs.declared.refusal.Refusal.TheVariants.{NoSeam, TooLong}
use Rattle.sg_model.specs.Ising.{Ising}
use Rattle.sg_model.specs.WellFormed.{IsInstance}
use Rattle.sg_wall.proofs.OneWall.{wall-one}
use Rattle.sg_bonds.proofs.OneCost.{clusters-one, costs-one}
use Rattle.sg_ranges.proofs.MovedCouplings.{turns-one}
use Rattle.sg_check.specs.declared.packing.ResultText.{ResultText}
use Rattle.sg_check.proofs.OneVerdict.{one_verdict}
use Rattle.sg_input.proofs.OneInput.{text-given}
use Rattle.sg_laws.specs.Named.{Law, first_named}
use Rattle.sg_report.specs.Ranges.{ranges_text}
use Rattle.sg_report.specs.Text.{bonds_text, clusters_text, verdict_text}
use Rattle.sg_words.specs.Command.{command_of, law_word}
use Rattle.sg_words.specs.declared.command.Command.{Command}
use Rattle.sg_words.specs.declared.command.Command.TheVariants.{Draw}
use Rattle.sg_words.specs.declared.command.Drawing.{Drawing}
use Rattle.sg_words.specs.declared.command.Reading.{Reading}
use Rattle.sg_words.specs.declared.command.Reading.TheVariants as reading
use Rattle.sg_words.specs.declared.command.Study.{Study}
use Rattle.sg_words.specs.declared.command.Study.TheVariants.{Energy, Ground, Wall, Bonds, Clusters, Report, Ranges, Maxcut}
use Rattle.sg_report.specs.Refused.{IsRefused}
use Rattle.sg_report.specs.Same.{IsSameReply}
use Rattle.sg_report.specs.declared.status.Status.{Status}
use Rattle.sg_draws.proofs.OneReply.{law-one}
use Rattle.sg_cli.specs.Served.{AnswersFit, AnswersInput, AnswersText, AnswersWall, PrintsVerdict, PrintsWall, Served, ServedBy}
use Rattle.sg_cli.specs.Served.{FaultNamed, Judged, ProofFaultNamed, Studied}
use Rattle.sg_cli.specs.Settled.{FindsNumbers, HasOneText}
use Rattle.sg_cli.proofs.Settled.{check-settled, study-settled}

-- the line of a refusal
line-text : (refusal : Refusal) (t u : List ℕ) (s v : Status) → IsRefused refusal t s → IsRefused refusal u v → t ≡ u
line-text refusal t u s v p q = p.printed ∙ sym q.printed

-- the energies of a wall
wall-printed : (inst : Ising) (t u : List ℕ) (s v : Status) → PrintsWall inst t s → PrintsWall inst u v → t ≡ u
wall-printed inst t u s v p q =
    let same = wall-one inst p.periodic p.antiperiodic p.difference q.periodic q.antiperiodic q.difference p.wall q.wall in
    let first : p.periodic ≡ q.periodic = same.0 in
    let second : p.antiperiodic ≡ q.antiperiodic = same.1 in
    let third : p.difference ≡ q.difference = same.2 in
    p.printed ∙ rw (first, second, third) (sym q.printed)

wall-text : (inst : Ising) (t u : List ℕ) (s v : Status) → AnswersWall inst t s → AnswersWall inst u v → t ≡ u
wall-text inst t u s v p q = by_seam inst.seam refl
  where
    by_seam : (seam : List ℕ) → inst.seam ≡ seam → t ≡ u
    by_seam [] none = line-text NoSeam t u s v (p.without_seam none) (q.without_seam none)
    by_seam (x ∷ xs) some =
        let given : inst.seam ≡ [] → ⊥ = λ none. let e : x ∷ xs ≡ [] = sym some ∙ none in cc e in
        wall-printed inst t u s v (p.with_seam given) (q.with_seam given)

-- a study that finds numbers alone
fit-text : (study : Study) (inst : Ising) (t u : List ℕ) (s v : Status) → IsInstance inst → FindsNumbers study → AnswersFit study inst t s
    → AnswersFit study inst u v → t ≡ u
fit-text Wall inst t u s v good numbers p q = wall-text inst t u s v p q
fit-text Bonds inst t u s v good numbers p q = p.printed ∙ ap bonds_text (costs-one inst p.costs q.costs p.exact q.exact) ∙ sym q.printed
fit-text Clusters inst t u s v good numbers p q = p.printed ∙ ap clusters_text (clusters-one inst p.names q.names p.exact q.exact) ∙ sym q.printed
fit-text Ranges inst t u s v good numbers p q =
    p.printed ∙ ap (ranges_text (map (λ b. b.j) inst.bonds)) (turns-one inst p.turns q.turns good p.exact q.exact) ∙ sym q.printed
fit-text Energy inst t u s v good numbers p q = absurd numbers
fit-text Ground inst t u s v good numbers p q = absurd numbers
fit-text Report inst t u s v good numbers p q = absurd numbers
fit-text Maxcut inst t u s v good numbers p q = absurd numbers

-- a stated proof has one verdict
verdict-printed : (inst : Ising) (stated : ResultText) (t u : List ℕ) (s v : Status) → PrintsVerdict inst stated t s →
    PrintsVerdict inst stated u v → t ≡ u
verdict-printed inst stated t u s v p q =
    p.printed ∙ ap verdict_text (one_verdict inst stated p.judged q.judged p.found q.found) ∙ sym q.printed

-- a text
text-printed : (reading : Reading) (bytes t u : List ℕ) (s v : Status) → HasOneText reading →
    AnswersText reading bytes t s → AnswersText reading bytes u v
    → t ≡ u
text-printed (reading.Study study) bytes t u s v one (FaultNamed refusal bad line) q =
    line-text refusal t u s v line ((study-settled study bytes u v q).refused refusal bad)
text-printed (reading.Study study) bytes t u s v one (Studied inst given answers) q =
    fit-text study inst t u s v (text-given bytes inst given.gives).instance one answers ((study-settled study bytes u v q).fit inst given)
text-printed reading.Check bytes t u s v one (ProofFaultNamed refusal bad line) q =
    line-text refusal t u s v line ((check-settled bytes u v q).refused refusal bad)
text-printed reading.Check bytes t u s v one (Judged inst stated given prints) q =
    verdict-printed inst stated t u s v prints ((check-settled bytes u v q).judged inst stated given)
text-printed (reading.Graph task) bytes t u s v one p q = absurd one

-- one text for an input
pub input-text : (reading : Reading) (bytes t u : List ℕ) (s v : Status) → HasOneText reading → AnswersInput reading bytes t s
    → AnswersInput reading bytes u v → t ≡ u
input-text reading bytes t u s v one p q = elim (cases_lt input_limit (length bytes)) [
  | inl long ↦ line-text (TooLong input_limit) t u s v (p.too_long long) (q.too_long long)
  | inr short ↦ text-printed reading bytes t u s v one (p.short short) (q.short short)
]

-- one reply to words that draw, whatever the input
pub words-one : (drawing : Drawing) (words : List (List ℕ)) (laws : List Law) (bytes other t u : List ℕ) (s v : Status)
    → command_of words ≡ Some (Draw drawing) → Served words laws bytes t s → Served words laws other u v → IsSameReply s v t u
words-one drawing words laws bytes other t u s v named p q =
    law-one drawing (first_named (law_word words) laws) t u s v
    (subst (λ (k : Option Command). ServedBy k (law_word words) laws bytes t s) named p)
    (subst (λ (k : Option Command). ServedBy k (law_word words) laws other u v) named q)
