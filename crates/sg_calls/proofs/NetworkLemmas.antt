-- From the tests of the numbers of a weighted graph to the graph, and faults by the step that finds them.
use Rattle.std.proofs.Common.{◌≡◌, inl, inr, ℕ, ◌+◌, ◌<◌, ◌≤◌, ◌≤ℤ◌, ℤ, pos, negsuc, zero, suc, true, Option, None, Some, arith, List, All, ap, length, map, ◌∙◌, refl}
use Rattle.std.specs.Prelude.{find, int_le, not}
use Rattle.std.specs.List.{range_with_len}
use Rattle.std.proofs.lemmas.Bool.{false≢true, ltb-true, cases_eq}
use Rattle.std.proofs.lemmas.Int.{ints}
use Rattle.sg_model.specs.declared.refusal.Refusal.{Refusal}
use Rattle.sg_graph.specs.Web.{IsEdge}
use Rattle.sg_graph.specs.declared.web.Edge.{Edge}
use Rattle.sg_draft.specs.Tests.{first_of}
use Rattle.sg_draft.proofs.Drafts.{both, last-test}
use Rattle.sg_calls.proofs.FirstLemmas.{all-made}
use Rattle.sg_calls.specs.Networks.{edge_by, edges_by, joins_nodes, network_fault, web_fault, WebNumbers}

not_negative : (w : ℤ) → int_le (pos 0) w ≡ true → pos 0 ≤ℤ w
not_negative (pos n) pass = omega (arith, ints)
not_negative (negsuc n) pass = absurd (false≢true pass)

-- an edge that passes its test joins two of the nodes
edge-of : (n : ℕ) (edge : Edge) → joins_nodes n edge ≡ true → IsEdge n edge
edge-of n edge pass =
    let first = both _ _ pass in
    let second = both _ _ first.1 in
    record { first_end = ltb-true edge.a n first.0; second_end = ltb-true edge.b n second.0; not_negative = not_negative edge.w second.1 }

-- edges none of which is wrong are edges of the graph
pub edges-joined : (n : ℕ) (ends : List ℕ) (weights : List ℤ)
    → find (λ k. not (joins_nodes n (edge_by ends weights k))) (range_with_len 0 (length weights)) ≡ None → All (IsEdge n) (edges_by ends weights)
edges-joined n ends weights none =
    all-made (IsEdge n) (joins_nodes n) (edge-of n) (edge_by ends weights) (length weights) (record { a = 0; b = 0; w = pos 0 }) none

module _ (g : WebNumbers) (test : Option Refusal) where
  -- a test of the terminals, behind numbers that pass
  behind : web_fault g ≡ None → network_fault g test ≡ test
  behind pass = last-test (web_fault g) test pass

  pub all-pass : web_fault g ≡ None → test ≡ None → network_fault g test ≡ None
  all-pass pass good = behind pass ∙ good

-- tests over a range: the first that fails, or none
module _ (test : ℕ → Option Refusal) where
  pub range-fails : (a n k : ℕ) (x : Refusal) → a ≤ k → k < a + n → ((i : ℕ) → a ≤ i → i < k → test i ≡ None) → test k ≡ Some x
      → first_of (map test (range_with_len a n)) ≡ Some x
  range-fails a zero k x low high earlier bad = absurd (omega (arith, low, high))
  range-fails a (suc n) k x low high earlier bad = elim (cases_eq a k) [
    | inl same ↦ rw (ap test same ∙ bad) refl
    | inr other ↦
        let less : a < k = omega (arith, low, other) in
        rw (earlier a (omega arith) less)
        (range-fails (a + 1) n k x (omega (arith, less)) (omega (arith, high)) (λ i l u. earlier i (omega (arith, l)) u) bad)
  ]

  pub range-passes : (a n : ℕ) → ((i : ℕ) → a ≤ i → i < a + n → test i ≡ None) → first_of (map test (range_with_len a n)) ≡ None
  range-passes a zero all = refl
  range-passes a (suc n) all =
      rw (all a (omega arith) (omega arith)) (range-passes (a + 1) n (λ i l u. all i (omega (arith, l)) (omega (arith, u))))
