-- One candidate popped, in the terms of the code.
use Rattle.std.proofs.Common.{◌≡◌, ◌≢◌, ℕ, ◌+◌, ◌-◌, ◌*◌, ◌<◌, ◌≤◌, ◌^◌, ◌∷◌, [], true, false, List, All, refl, sym, ◌∙◌, ap, arith, pos, ℤ, Option, is_some}
use Rattle.std.proofs.Common.{to_z, w64, Ordering, IsPermutation, is_lt}
use Rattle.std.specs.declared.cmp.Reverse.{Reverse}
use Rattle.std.specs.BinaryHeap.{IsUpperBound}
use Rattle.std.specs.Ordering.{ordering_then}
use Rattle.std.proofs.lemmas.Int.{to_z_pos}
use Rattle.std.proofs.lemmas.List.Sums.{count_by-le-length}
use Rattle.std.proofs.lemmas.List.Elements.{All-nil}
use Rattle.std.proofs.lemmas.List.Sorted.{IsPermutation-map, le_from_greatest}
use Rattle.sg_graph.specs.Web.{Graph, IsWeb}
use Rattle.sg_graph.specs.Table.{Route, Routes, is_reached, length_to, with_route}
use Rattle.sg_graph.proofs.Walks.{leads_low}
use Rattle.sg_dist.specs.declared.candidate.Candidate.{Candidate}
use Rattle.sg_dist.specs.Order.{nearest_last}
use Rattle.sg_dist.specs.Search.{IsCandidate, Searches, Spreads, candidates, reached_count}
use Rattle.sg_dist.proofs.Steps.{Searches-skip, Spreads-found, candidate_small, new_length, one_more, taken}

-- what comes first decides unless it is `Equal`
first_not_less : (a b : Ordering) → is_lt (ordering_then a b) ≡ false → is_lt a ≡ false
first_not_less a b h1 = grind arith

-- the greatest element of the heap has the least distance
nearest : (x : Reverse Candidate) (ys : List (Reverse Candidate)) → IsUpperBound nearest_last x ys → All (λ c. x.0.distance ≤ c.distance) (candidates ys)
nearest x [] h = All-nil (λ (c : Candidate). x.0.distance ≤ c.distance)
nearest x (y ∷ ys) h = grind (arith, nearest x ys h.1, le_from_greatest, first_not_less)

-- the measure falls: a node more is found, and its edges give at most m candidates
pub work_falls : (n r r' m h p h' : ℕ) → r' ≡ r + 1 → r' ≤ n → p + 1 ≡ h → h' ≤ p + m → (n - r') * (m + 1) + h' < (n - r) * (m + 1) + h
work_falls n r r' m h p h' more most pop push = grind arith

-- as a signed number the distance is the same
cast_same : (n : ℕ) → n ≤ 2 ^ 60 → to_z w64 n ≡ pos n
cast_same n small = to_z_pos w64 n (omega arith)

module _ {g : Graph} {t : Routes} {old new : List (Reverse Candidate)} {x : Reverse Candidate} (web : IsWeb g) (s : Searches g t (candidates old))
    (perm : IsPermutation old (x ∷ new)) where
  perm' : IsPermutation (candidates old) (x.0 ∷ candidates new)
  perm' = IsPermutation-map (λ (y : Reverse Candidate). y.0) old (x ∷ new) perm

  is : IsCandidate g t x.0
  is = taken s perm' (IsCandidate g t) s.waiting.candidates

  -- the popped candidate leads to a node
  pub popped_low : x.0.node < g.nodes
  popped_low = (let l = leads_low g x.0.edge is.from x.0.node web is.leads in l.1)

  -- its edge has a number that a table holds
  pub popped_edge : x.0.edge < 2 ^ 24
  popped_edge = omega (arith, is.leads.below, web.few_edges)

  -- the node was found meanwhile
  pub Searches-dropped : is_reached t x.0.node ≡ true → Searches g t (candidates new)
  Searches-dropped known = Searches-skip s perm' known

  -- the node is found now
  module _ (fresh : is_reached t x.0.node ≡ false) where
    -- the distance of a popped candidate whose node is new is at most 2^60
    pub popped_small : x.0.distance ≤ 2 ^ 60
    popped_small = omega (arith, candidate_small g t x.0 s.finds is fresh, web.light)

    -- such a node is not the source
    pub popped_not_source : x.0.node ≢ t.source
    popped_not_source e = absurd (let h : false ≡ true = sym fresh ∙ ap (is_reached t) e ∙ s.finds.home in cc)

    module _ (top : IsUpperBound nearest_last x new) {next : Routes} (set : next ≡ with_route t x.0.node (to_z w64 x.0.distance) x.0.edge) where
      set' : next ≡ with_route t x.0.node (pos x.0.distance) x.0.edge
      set' = set ∙ ap (λ (z : ℤ). with_route t x.0.node z x.0.edge) (cast_same x.0.distance popped_small)

      least : All (λ b. x.0.distance ≤ b.distance) (candidates new)
      least = nearest x new top

      -- the node of the least candidate is found, and none of its edges is spread yet
      pub Spreads-popped : Spreads g next (candidates new) x.0.node []
      Spreads-popped = rw set' (Spreads-found s perm' web least fresh)

      -- its distance in the table is that of the candidate
      pub popped_distance : x.0.distance ≡ length_to next x.0.node
      popped_distance = sym (ap (λ (u : Routes). length_to u x.0.node) set' ∙ new_length s perm' web least fresh x.0.node refl)

      -- one node more is found
      pub popped_count : reached_count next ≡ reached_count t + 1
      popped_count = ap reached_count set' ∙ one_more s perm' web least fresh

      -- the source stays
      pub popped_source : next.source ≡ t.source
      popped_source = ap (λ (u : Routes). u.source) set

      -- no more nodes are found than there are
      pub popped_most : reached_count next ≤ g.nodes
      popped_most = omega (arith, count_by-le-length (λ (r : Option Route). is_some r) next.to, (let f = Spreads-popped in f.finds.count))
