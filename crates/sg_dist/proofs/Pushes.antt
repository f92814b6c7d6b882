-- One edge more, in the terms of the code.
use Rattle.std.proofs.Common.{◌≡◌, ℕ, ◌+◌, ◌<◌, ◌≤◌, ◌∷◌, true, false, All, List, take, sym, ap, subst, arith, length, get_or, pos, unsigned_abs}
use Rattle.std.specs.List.Sorted.{IsPermutation}
use Rattle.std.specs.declared.cmp.Reverse.{Reverse}
use Rattle.std.proofs.lemmas.List.{take_more}
use Rattle.std.proofs.lemmas.List.Sorted.{IsPermutation-map}
use Rattle.sg_graph.specs.declared.web.Edge.{Edge}
use Rattle.sg_graph.specs.Web.{Graph, edge_weight, total_weight}
use Rattle.sg_graph.specs.Walk.{Leads, other_end}
use Rattle.sg_graph.specs.Incidence.{AreIncident, EndsAt, list_at}
use Rattle.sg_graph.specs.Table.{Routes, is_reached, length_to}
use Rattle.sg_graph.proofs.Incidences.{incident_ends}
use Rattle.sg_graph.proofs.Tables.{reached_low}
use Rattle.sg_graph.proofs.Walks.{leads_other}
use Rattle.sg_dist.specs.declared.candidate.Candidate.{Candidate}
use Rattle.sg_dist.specs.Search.{Spreads, candidate_over, candidates}
use Rattle.sg_dist.proofs.Steps.{Spreads-known, Spreads-more, outward}

module _ {g : Graph} {lists : List (List ℕ)} {t : Routes} {heap : List Candidate} {node : ℕ} {done : List ℕ} (incident : AreIncident g lists)
    (s : Spreads g t heap node done) where
  -- the edges in the list of the latest node end there
  pub ends_of : (list : List ℕ) → list ≡ list_at lists node → All (EndsAt g node) list
  ends_of = incident_ends g lists incident node (omega (arith, reached_low t node s.here, s.finds.count))

module _ (g : Graph) (t : Routes) (node : ℕ) (list : List ℕ) (i other : ℕ) (edges : List Edge) (low : i < length list) (same : edges ≡ g.edges)
    (ends : EndsAt g node (get_or list i 0)) (is : other ≡ other_end node (get_or edges (get_or list i 0) (record { a = 0; b = 0; w = pos 0 }))) where
  abbrev pub this : ℕ
  this = get_or list i 0

  -- the edge leads to the other end
  pub leads_to : Leads g this node other
  leads_to = grind (arith, leads_other)

  -- the weight in the code is that of the edge
  pub weight_is : unsigned_abs (get_or edges this (record { a = 0; b = 0; w = pos 0 })).w ≡ edge_weight g this
  weight_is = ap (λ (es : List Edge). unsigned_abs (get_or es this (record { a = 0; b = 0; w = pos 0 })).w) same

  -- the sum fits
  pub sum_small : (heap : List Candidate) (done : List ℕ) → Spreads g t heap node done → is_reached t other ≡ false
      → length_to t node + edge_weight g this ≤ total_weight g
  sum_small heap done s new = outward g t this node other s.finds s.here leads_to new

  -- an edge to a node that is found wants no candidate
  pub Spreads-next_known : (heap : List Candidate) → is_reached t other ≡ true → Spreads g t heap node (take i list) →
      Spreads g t heap node (take (i + 1) list)
  Spreads-next_known heap found s = subst (Spreads g t heap node) (sym (take_more list i 0 low)) (Spreads-known s leads_to found)

  -- an edge to a node that is not found gets one
  pub Spreads-next_new : (old new : List (Reverse Candidate)) (d w : ℕ) → d ≡ length_to t node
      → w ≡ unsigned_abs (get_or edges this (record { a = 0; b = 0; w = pos 0 })).w
      → IsPermutation (record { 0 = record { distance = d + w; node = other; edge = this } } ∷ old) new
      → Spreads g t (candidates old) node (take i list) → Spreads g t (candidates new) node (take (i + 1) list)
  Spreads-next_new old new d w far weight perm s =
      let moved : IsPermutation (made (d + w) ∷ candidates old) (candidates new) = IsPermutation-map (λ (x : Reverse Candidate). x.0)
      (record { 0 = record { distance = d + w; node = other; edge = this } } ∷ old) new perm in
      let over : made (d + w) ≡ candidate_over g t node this other = ap made
      (let q : d + w ≡ length_to t node + edge_weight g this = omega (arith, far, weight, weight_is) in q) in
      subst (Spreads g t (candidates new) node) (sym (take_more list i 0 low))
      (Spreads-more s leads_to (candidates new)
      (subst (λ c. IsPermutation (c ∷ candidates old) (candidates new)) over moved))
    where
      made : ℕ → Candidate
      made n = record { distance = n; node = other; edge = this }
