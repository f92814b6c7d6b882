-- Out of the nodes found each walk passes a candidate: so the least candidate of a node that is not found is its
-- distance, and where no candidate is left all that can be reached is found.
use Rattle.std.proofs.Common.{inl, inr, ◌≡◌, ℕ, ◌+◌, ◌≤◌, true, false, List, [], ◌∷◌, ◌++◌, All, sym, ◌∙◌, ap, arith}
use Rattle.std.proofs.lemmas.Bool.{cases_Bool, false≢true}
use Rattle.std.proofs.lemmas.List.Elements.{All-contains}
use Rattle.std.proofs.lemmas.List.Sums.{sum_by-cons, sum_by-append}
use Rattle.sg_graph.specs.Web.{Graph, edge_weight, weight_of}
use Rattle.sg_graph.specs.Walk.{IsDistance, IsWebWalk}
use Rattle.sg_graph.specs.Table.{Routes, is_reached, length_to}
use Rattle.sg_graph.proofs.Walks.{distance-edge, walk-append, walk-one}
use Rattle.sg_dist.specs.declared.candidate.Candidate.{Candidate}
use Rattle.sg_dist.specs.Search.{IsCandidate, Searches, candidate_over}

module _ {g : Graph} {t : Routes} {heap : List Candidate} (s : Searches g t heap) where
  -- a walk from a node found to one that is not weighs at least as much as some candidate
  walk_bound : (d : ℕ) → All (λ c. d ≤ c.distance) heap → (es : List ℕ) (v u : ℕ) → is_reached t v ≡ true → is_reached t u ≡ false →
      IsWebWalk g v es u
      → d ≤ length_to t v + weight_of g es
  walk_bound d least [] v u found new w = absurd (false≢true (sym new ∙ ap (is_reached t) (sym w) ∙ found))
  walk_bound d least (e ∷ es) v u found new w = elim (cases_Bool (is_reached t w.0)) [
    | inl on ↦
        let step : length_to t w.0 ≤ length_to t v + edge_weight g e = distance-edge g t.source v w.0 e (length_to t v) (length_to t w.0) w.1
        (s.finds.right v found) (s.finds.right w.0 on) in
        omega (arith, sum_by-cons (edge_weight g) e es, walk_bound d least es w.0 u on new w.2)
    | inr out ↦
        let c : d ≤ length_to t v + edge_weight g e = All-contains (λ c. d ≤ c.distance) heap (candidate_over g t v e w.0) least
        (s.frontier v e found w.0 w.1 out) in
        omega (arith, sum_by-cons (edge_weight g) e es)
  ]

  -- the walk of a candidate
  candidate_walk : (c : Candidate) → IsCandidate g t c → (es : List ℕ) × IsWebWalk g t.source es c.node × (weight_of g es ≡ c.distance)
  candidate_walk c is =
      let way = (s.finds.right is.from is.reached).reached in (
        way.0 ++ c.edge ∷ [],
        walk-append g way.0 (c.edge ∷ []) t.source is.from c.node way.1 (walk-one g c.edge is.from c.node is.leads),
        omega (arith, way.2, is.distance, sum_by-append (edge_weight g) way.0 (c.edge ∷ []), sum_by-cons (edge_weight g) c.edge []),
      )

  -- a node that is not found, of the least candidate, has that candidate's distance
  pub least_candidate : (c : Candidate) → IsCandidate g t c → All (λ b. c.distance ≤ b.distance) heap → is_reached t c.node ≡ false
      → IsDistance g t.source c.node c.distance
  least_candidate c is least new = record {
    reached = candidate_walk c is;
    least = λ es w. (let h = walk_bound c.distance least es t.source c.node s.finds.home new w in omega (arith, h, s.finds.home_distance));
  }

-- where no candidate is left, no walk leads out of the nodes found
pub closed : (g : Graph) (t : Routes) → Searches g t [] → (es : List ℕ) (v u : ℕ) → is_reached t v ≡ true → IsWebWalk g v es u →
    is_reached t u ≡ true
closed g t s [] v u found w = ap (is_reached t) (sym w) ∙ found
closed g t s (e ∷ es) v u found w = elim (cases_Bool (is_reached t w.0)) [
  | inl on ↦ closed g t s es w.0 u on w.2
  | inr out ↦ (let c = s.frontier v e found w.0 w.1 out in absurd (omega arith))
]
