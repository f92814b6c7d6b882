-- The edges at the node where one stands, by its list; and the places in the lists before which no copy is left.
use Rattle.std.proofs.Common.{◌≡◌, ◌∙◌, sym, ap, subst, refl, ℕ, zero, suc, ◌<◌, ◌≤◌, List, length, replicate, slice_index, arith, All, Contains}
use Rattle.std.proofs.lemmas.List.{get_or_read, length-replicate}
use Rattle.sg_graph.specs.Incidence.{AreIncident, EndsAt, list_at}
use Rattle.sg_graph.specs.Walk.{other_end}
use Rattle.sg_graph.specs.Web.{Graph, edge_at}
use Rattle.sg_graph.proofs.Incidences.{incident_ends, incident_leads}
use Rattle.sg_graph.proofs.Walks.{leads_other}
use Rattle.sg_postman.specs.Tracing.{AreTried, IsUsedUp, left_of}

module _ (g : Graph) (lists : List (List ℕ)) (incident : AreIncident g lists) (x : ℕ) (low : x < g.nodes) where
  -- each edge of a node's list ends there
  pub all_end : All (EndsAt g x) (list_at lists x)
  all_end = incident_ends g lists incident x low (list_at lists x) refl

  -- where no edge of the list has a copy left, the node is spent
  pub spent_at : (left : List ℕ) → ((k : ℕ) → k < length (list_at lists x) → left_of left (slice_index (list_at lists x) k) ≡ 0) → IsUsedUp g left x
  spent_at left none e ends =
      let found : Contains (list_at lists x) e =
      incident_leads g lists incident x low (list_at lists x) refl e (other_end x (edge_at g e)) (leads_other g e x ends) in
      let at : slice_index (list_at lists x) found.0 ≡ e = sym (get_or_read (list_at lists x) found.0 e found.1 (sym found.2) 0) in
      subst (λ k. left_of left k ≡ 0) at (none found.0 found.1)

zeros : (n x : ℕ) → slice_index (replicate n 0) x ≡ 0
zeros zero x = refl
zeros (suc n) zero = refl
zeros (suc n) (suc x) = zeros n x

module _ (lists : List (List ℕ)) where
  -- at the start no edge was tried
  pub tried_none : (left tried : List ℕ) (n : ℕ) → tried ≡ replicate n 0 → length lists ≡ n → AreTried lists left tried
  tried_none left tried n is lists_count = record {
    count = ap length is ∙ length-replicate n 0 ∙ sym lists_count;
    spent = λ x k l b. absurd (before x k (subst (λ ts. k < slice_index ts x) is b));
  }
    where
      before : (x k : ℕ) → k < slice_index (replicate n 0) x → ⊥
      before x k b = omega (arith, zeros n x, b)

  -- what is spent stays so
  pub tried_less : (old new tried : List ℕ) → ((e : ℕ) → left_of new e ≤ left_of old e) → AreTried lists old tried → AreTried lists new tried
  tried_less old new tried less t = record {
    count = t.count;
    spent = λ x k l b. omega (arith, t.spent x k l b, less (slice_index (list_at lists x) k));
  }
