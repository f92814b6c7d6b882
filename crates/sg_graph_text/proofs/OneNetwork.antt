-- A text gives one connected graph at most or has one refusal at most, and never both.
use Rattle.std.proofs.Common.{◌≡◌, inl, inr, ℕ, ◌≤◌, Bool, pos, List, [], sym, ap, subst, ◌∙◌, arith}
use Rattle.std.proofs.lemmas.Bool.{cases_order}
use Rattle.sg_base.specs.Limits.{sum_limit}
use Rattle.sg_model.specs.declared.refusal.Refusal.{Refusal}
use Rattle.sg_model.specs.declared.refusal.Refusal.TheVariants.{NotJoined, SumTooLarge}
use Rattle.sg_model.specs.OneAnswer.{HasOneAnswer}
use Rattle.sg_graph.specs.Walk.{IsConnectedWeb, IsFirstUnreached}
use Rattle.sg_graph.specs.Web.{Graph, total_weight}
use Rattle.sg_reader.specs.Kept.{kept_of}
use Rattle.sg_reader.specs.Ended.{RefusesAlone}
use Rattle.sg_reader.proofs.OneEnd.{alone-one_answer, pair-same, records-one_answer}
use Rattle.sg_graph_text.specs.declared.graph.GraphText.{GraphText}
use Rattle.sg_graph_text.specs.Graph.{ReadsGraph, RefusesGraph, graph_fault, graph_of}
use Rattle.sg_graph_text.specs.Network.{AtReach, AtRecords, AtWeight, GivesNetwork, IsTooHeavy, IsUnjoined, RefusesNetwork, graph_in, with_terminals}

-- one node is the first that is not reached
first-unreached : (g : Graph) (x y : ℕ) → IsFirstUnreached g x → IsFirstUnreached g y → x ≡ y
first-unreached g x y p q = elim (cases_order x y) [
  | inl same ↦ same
  | inr (inl less) ↦ absurd (p.unreached (q.before x less))
  | inr (inr more) ↦ absurd (q.unreached (p.before y more))
]

-- a connected graph has none
connected-whole : (g : Graph) (r : Refusal) → IsConnectedWeb g → IsUnjoined g r → ⊥
connected-whole g r whole bad = bad.first.unreached (whole bad.node bad.first.node)

-- a graph within the limit of weight is not too heavy
light-none : (g : Graph) (r : Refusal) → total_weight g ≤ sum_limit → IsTooHeavy g r → ⊥
light-none g r light bad = omega (arith, light, bad.heavy)

module _ (terms : Bool) (bytes : List ℕ) where
  texts-one : HasOneAnswer (λ text. ReadsGraph terms (kept_of bytes) text [])
      (RefusesAlone (ReadsGraph terms (kept_of bytes)) (RefusesGraph terms (kept_of bytes)))
  texts-one = alone-one_answer (ReadsGraph terms (kept_of bytes)) (RefusesGraph terms (kept_of bytes))
      (records-one_answer (graph_fault terms) graph_of (kept_of bytes))

  -- a connected graph with its terminals, or the refusal
  pub network-one_answer : HasOneAnswer (λ (p : Graph × List ℕ). GivesNetwork terms bytes p.0 p.1) (RefusesNetwork terms bytes)
  network-one_answer = record {
    apart = λ p r given bad. apart p r given bad;
    one = λ p q given other. let same = texts-one.one (with_terminals p.0 p.1) (with_terminals q.0 q.1) given.gives other.gives in
        pair-same p q (ap graph_in same) (ap (λ (t : GraphText). t.terminals) same);
    named = λ r s bad other. named r s bad other;
  }
    where
      graph-same : (p : Graph × List ℕ) (text : GraphText) → GivesNetwork terms bytes p.0 p.1 → ReadsGraph terms (kept_of bytes) text [] → graph_in text ≡ p.0
      graph-same p text given reads = ap graph_in (texts-one.one text (with_terminals p.0 p.1) reads given.gives)

      apart : (p : Graph × List ℕ) (r : Refusal) → GivesNetwork terms bytes p.0 p.1 → RefusesNetwork terms bytes r → ⊥
      apart p r given (AtRecords bad) = texts-one.apart (with_terminals p.0 p.1) r given.gives bad
      apart p r given (AtWeight text reads heavy) = light-none p.0 r given.light (subst (λ (g : Graph). IsTooHeavy g r) (graph-same p text given reads) heavy)
      apart p r given (AtReach text reads light bad) =
          connected-whole p.0 r given.connected (subst (λ (g : Graph). IsUnjoined g r) (graph-same p text given reads) bad)

      text-same : (t u : GraphText) → ReadsGraph terms (kept_of bytes) t [] → ReadsGraph terms (kept_of bytes) u [] → graph_in t ≡ graph_in u
      text-same t u p q = ap graph_in (texts-one.one t u p q)

      named : (r s : Refusal) → RefusesNetwork terms bytes r → RefusesNetwork terms bytes s → r ≡ s
      named r s (AtRecords bad) (AtRecords bad2) = texts-one.named r s bad bad2
      named r s (AtRecords bad) (AtWeight text reads heavy) = absurd (texts-one.apart text r reads bad)
      named r s (AtRecords bad) (AtReach text reads light bad2) = absurd (texts-one.apart text r reads bad)
      named r s (AtWeight text reads heavy) (AtRecords bad) = absurd (texts-one.apart text s reads bad)
      named r s (AtWeight text reads heavy) (AtWeight text2 reads2 heavy2) =
          heavy.named ∙ ap (λ (g : Graph). SumTooLarge (pos (total_weight g))) (text-same text text2 reads reads2) ∙ sym heavy2.named
      named r s (AtWeight text reads heavy) (AtReach text2 reads2 light bad) =
          absurd (light-none (graph_in text2) r light (subst (λ (g : Graph). IsTooHeavy g r) (text-same text text2 reads reads2) heavy))
      named r s (AtReach text reads light bad) (AtRecords bad2) = absurd (texts-one.apart text s reads bad2)
      named r s (AtReach text reads light bad) (AtWeight text2 reads2 heavy) =
          absurd (light-none (graph_in text) s light (subst (λ (g : Graph). IsTooHeavy g s) (text-same text2 text reads2 reads) heavy))
      named r s (AtReach text reads light bad) (AtReach text2 reads2 light2 bad2) =
          let moved : IsUnjoined (graph_in text2) r = subst (λ (g : Graph). IsUnjoined g r) (text-same text text2 reads reads2) bad in
          moved.named ∙ ap NotJoined (first-unreached (graph_in text2) moved.node bad2.node moved.first bad2.first) ∙ sym bad2.named
