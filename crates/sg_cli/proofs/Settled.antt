-- What is answered to an input is settled by what the input gives or by what refuses it.
use Rattle.std.proofs.Common.{◌≡◌, inl, inr, ℕ, Option, Some, List, [], ◌∷◌, length, refl, sym, ap, subst, ◌∙◌}
use Rattle.std.proofs.lemmas.Bool.{cases_lt}
use Rattle.sg_base.specs.Limits.{input_limit}
use Rattle.sg_model.specs.declared.refusal.Refusal.{Refusal}
use Rattle.sg_model.specs.declared.refusal.Refusal.TheVariants.{NoSeam, TooLong}
use Rattle.sg_model.specs.Ising.{Ising}
use Rattle.sg_check.specs.declared.packing.ResultText.{ResultText}
use Rattle.sg_check.specs.declared.verdict.Verdict.{Verdict}
use Rattle.sg_check.specs.declared.verdict.Verdict.TheVariants as verdict
use Rattle.sg_check.proofs.OneVerdict.{one_verdict}
use Rattle.sg_graph.specs.Web.{Graph}
use Rattle.sg_graph_text.proofs.OneNetwork.{network-one_answer}
use Rattle.sg_input.proofs.OneInput.{input-one_answer, proof-one_answer}
use Rattle.sg_words.specs.declared.command.GraphTask.{GraphTask}
use Rattle.sg_words.specs.declared.command.GraphTask.TheVariants.{TJoin, Postman}
use Rattle.sg_words.specs.declared.command.Reading.{Reading}
use Rattle.sg_words.specs.declared.command.Reading.TheVariants as reading
use Rattle.sg_words.specs.declared.command.Study.{Study}
use Rattle.sg_words.specs.declared.command.Study.TheVariants.{Energy, Ground, Wall, Bonds, Clusters, Report, Ranges, Maxcut}
use Rattle.sg_words.specs.declared.command.Command.{Command}
use Rattle.sg_words.specs.declared.command.Command.TheVariants.{Read}
use Rattle.sg_words.specs.Command.{command_of, law_word}
use Rattle.sg_laws.specs.Named.{Law}
use Rattle.sg_io.specs.Devices.{AgreesWith}
use Rattle.sg_report.specs.Refused.{IsRefused}
use Rattle.sg_report.specs.declared.status.Status.{Status}
use Rattle.sg_report.specs.declared.status.Status.TheVariants.{Done, Refused}
use Rattle.sg_cli.specs.Graphs.{AnswersTask, takes_terms}
use Rattle.sg_cli.specs.Served.{AnswersCheck, AnswersFit, AnswersGraph, AnswersInput, AnswersStudy, AnswersText, PrintsVerdict, ServedBy, status_by}
use Rattle.sg_cli.specs.Served.{FaultNamed, GraphFaultNamed, GraphSolved, Judged, ProofFaultNamed, Studied}
use Rattle.sg_cli.specs.Promises.{AnswersWhole}
use Rattle.sg_cli.specs.Settled.{CanBeStudied, HasGot, IsSameKind, SettlesCheck, SettlesGraph, SettlesInput, SettlesStudy, SettlesText}

-- a study
pub study-settled : (study : Study) (bytes text : List ℕ) (status : Status) → AnswersStudy study bytes text status → SettlesStudy study bytes text status
study-settled study bytes text status (FaultNamed refusal bad line) = record {
  fit = λ inst given. absurd ((input-one_answer bytes).apart inst refusal given bad);
  refused = λ other also. subst (λ (r : Refusal). IsRefused r text status) ((input-one_answer bytes).named refusal other bad also) line;
}
study-settled study bytes text status (Studied inst given answers) = record {
  fit = λ other also. subst (λ (i : Ising). AnswersFit study i text status) ((input-one_answer bytes).one inst other given also) answers;
  refused = λ refusal bad. absurd ((input-one_answer bytes).apart inst refusal given bad);
}

-- a proof
pub check-settled : (bytes text : List ℕ) (status : Status) → AnswersCheck bytes text status → SettlesCheck bytes text status
check-settled bytes text status (ProofFaultNamed refusal bad line) = record {
  judged = λ inst stated given. absurd ((proof-one_answer bytes).apart (inst, stated) refusal given bad);
  refused = λ other also. subst (λ (r : Refusal). IsRefused r text status) ((proof-one_answer bytes).named refusal other bad also) line;
}
check-settled bytes text status (Judged inst stated given prints) = record {
  judged = λ other more also. subst (λ (p : Ising × ResultText). PrintsVerdict p.0 p.1 text status)
      ((proof-one_answer bytes).one (inst, stated) (other, more) given also) prints;
  refused = λ refusal bad. absurd ((proof-one_answer bytes).apart (inst, stated) refusal given bad);
}

-- a graph
pub graph-settled : (task : GraphTask) (bytes text : List ℕ) (status : Status) → AnswersGraph task bytes text status
    → SettlesGraph task bytes text status
graph-settled task bytes text status (GraphFaultNamed refusal bad line) = record {
  solved = λ g terminals given. absurd ((network-one_answer (takes_terms task) bytes).apart (g, terminals) refusal given bad);
  refused = λ other also. subst (λ (r : Refusal). IsRefused r text status)
      ((network-one_answer (takes_terms task) bytes).named refusal other bad also) line;
}
graph-settled task bytes text status (GraphSolved g terminals given answers) = record {
  solved = λ h more also. subst (λ (p : Graph × List ℕ). AnswersTask task p.0 p.1 text status)
      ((network-one_answer (takes_terms task) bytes).one (g, terminals) (h, more) given also) answers;
  refused = λ refusal bad. absurd ((network-one_answer (takes_terms task) bytes).apart (g, terminals) refusal given bad);
}

-- any command that reads
pub text-settled : (reading : Reading) (bytes text : List ℕ) (status : Status) → AnswersText reading bytes text status →
    SettlesText reading bytes text status
text-settled (reading.Study study) bytes text status answers = study-settled study bytes text status answers
text-settled reading.Check bytes text status answers = check-settled bytes text status answers
text-settled (reading.Graph task) bytes text status answers = graph-settled task bytes text status answers

pub input-settled : (reading : Reading) (bytes text : List ℕ) (status : Status) → AnswersInput reading bytes text status
    → SettlesInput reading bytes text status
input-settled reading bytes text status answers = record {
  too_long = answers.too_long;
  short = λ short. text-settled reading bytes text status (answers.short short);
}

-- what a study is of is answered with Done
pub fit-done : (study : Study) (inst : Ising) (text : List ℕ) (status : Status) → AnswersFit study inst text status → CanBeStudied study inst
    → status ≡ Done
fit-done Energy inst text status answers can = answers.done
fit-done Ground inst text status answers can = answers.done
fit-done Wall inst text status answers can = (answers.with_seam can).done
fit-done Bonds inst text status answers can = answers.done
fit-done Clusters inst text status answers can = answers.done
fit-done Report inst text status answers can = answers.done
fit-done Ranges inst text status answers can = answers.done
fit-done Maxcut inst text status answers can = answers.done

-- what a source that tells its bytes is answered
pub told-settled : (words : List (List ℕ)) (laws : List Law) (status : Status) (left before after : Option (List ℕ)) (bytes : List ℕ) (reading : Reading)
    → AnswersWhole words laws status left before after → left ≡ Some bytes → command_of words ≡ Some (Read reading)
    → HasGot (λ text. SettlesInput reading bytes text status) before after
told-settled words laws status left before after bytes reading whole told named = record {
  text = whole.text;
  holds = input-settled reading bytes whole.text status (subst (λ (b : List ℕ). AnswersInput reading b whole.text status) same asked);
  written = whole.written;
}
  where
    same : whole.served.bytes ≡ bytes
    same = subst (λ (l : Option (List ℕ)). AgreesWith l whole.served.bytes) told whole.served.told

    asked : AnswersInput reading whole.served.bytes whole.text status
    asked = subst (λ (k : Option Command). ServedBy k (law_word words) laws whole.served.bytes whole.text status) named whole.served.served

-- replies that are both done, or both the line of one refusal, are of one kind
done-kind : (s v : Status) (t u : List ℕ) → s ≡ Done → v ≡ Done → IsSameKind s v t u
done-kind s v t u p q = record { ended = p ∙ sym q; refused = λ bad. let e : Done ≡ Refused = sym p ∙ bad in absurd (cc e) }

line-kind : (refusal : Refusal) (s v : Status) (t u : List ℕ) → IsRefused refusal t s → IsRefused refusal u v → IsSameKind s v t u
line-kind refusal s v t u p q = record { ended = p.ended ∙ sym q.ended; refused = λ _. p.printed ∙ sym q.printed }

-- a fit instance
fit-kind : (study : Study) (inst : Ising) (s v : Status) (t u : List ℕ) → AnswersFit study inst t s → AnswersFit study inst u v → IsSameKind s v t u
fit-kind Energy inst s v t u p q = done-kind s v t u p.done q.done
fit-kind Ground inst s v t u p q = done-kind s v t u p.done q.done
fit-kind Wall inst s v t u p q = by_seam inst.seam refl
  where
    by_seam : (seam : List ℕ) → inst.seam ≡ seam → IsSameKind s v t u
    by_seam [] none = line-kind NoSeam s v t u (p.without_seam none) (q.without_seam none)
    by_seam (x ∷ xs) some =
        let given : inst.seam ≡ [] → ⊥ = λ none. let e : x ∷ xs ≡ [] = sym some ∙ none in cc e in
        done-kind s v t u (p.with_seam given).done (q.with_seam given).done
fit-kind Bonds inst s v t u p q = done-kind s v t u p.done q.done
fit-kind Clusters inst s v t u p q = done-kind s v t u p.done q.done
fit-kind Report inst s v t u p q = done-kind s v t u p.done q.done
fit-kind Ranges inst s v t u p q = done-kind s v t u p.done q.done
fit-kind Maxcut inst s v t u p q = done-kind s v t u p.done q.done

-- verdicts on one proof
verdict-answers : (v : Verdict) → status_by v ≡ Refused → ⊥
verdict-answers verdict.Yes e = cc e
verdict-answers _ e = cc e

verdict-kind : (inst : Ising) (stated : ResultText) (s v : Status) (t u : List ℕ) → PrintsVerdict inst stated t s → PrintsVerdict inst stated u v
    → IsSameKind s v t u
verdict-kind inst stated s v t u p q = record {
  ended = p.ended ∙ ap status_by (one_verdict inst stated p.judged q.judged p.found q.found) ∙ sym q.ended;
  refused = λ bad. absurd (verdict-answers p.judged (sym p.ended ∙ bad));
}

-- a graph
task-kind : (task : GraphTask) (g : Graph) (terminals : List ℕ) (s v : Status) (t u : List ℕ) → AnswersTask task g terminals t s
    → AnswersTask task g terminals u v → IsSameKind s v t u
task-kind TJoin g terminals s v t u p q = done-kind s v t u p.done q.done
task-kind Postman g terminals s v t u p q = done-kind s v t u p.done q.done

-- a text
text-kind : (reading : Reading) (bytes : List ℕ) (s v : Status) (t u : List ℕ) → AnswersText reading bytes t s → AnswersText reading bytes u v
    → IsSameKind s v t u
text-kind (reading.Study study) bytes s v t u (FaultNamed refusal bad line) q =
    line-kind refusal s v t u line ((study-settled study bytes u v q).refused refusal bad)
text-kind (reading.Study study) bytes s v t u (Studied inst given answers) q =
    fit-kind study inst s v t u answers ((study-settled study bytes u v q).fit inst given)
text-kind reading.Check bytes s v t u (ProofFaultNamed refusal bad line) q =
    line-kind refusal s v t u line ((check-settled bytes u v q).refused refusal bad)
text-kind reading.Check bytes s v t u (Judged inst stated given prints) q =
    verdict-kind inst stated s v t u prints ((check-settled bytes u v q).judged inst stated given)
text-kind (reading.Graph task) bytes s v t u (GraphFaultNamed refusal bad line) q =
    line-kind refusal s v t u line ((graph-settled task bytes u v q).refused refusal bad)
text-kind (reading.Graph task) bytes s v t u (GraphSolved g terminals given answers) q =
    task-kind task g terminals s v t u answers ((graph-settled task bytes u v q).solved g terminals given)

-- one kind of reply to an input
pub input-kind : (reading : Reading) (bytes : List ℕ) (s v : Status) (t u : List ℕ) → AnswersInput reading bytes t s → AnswersInput reading bytes u v
    → IsSameKind s v t u
input-kind reading bytes s v t u p q = elim (cases_lt input_limit (length bytes)) [
  | inl long ↦ line-kind (TooLong input_limit) s v t u (p.too_long long) (q.too_long long)
  | inr short ↦ text-kind reading bytes s v t u (p.short short) (q.short short)
]
