-- A join of half the weight of the duals at most, and cuts that pack and weigh as much as the duals: the join is least.
use Rattle.std.proofs.Common.{◌≡◌, ℕ, ◌*◌, ◌≤◌, List, [], ◌∷◌, refl, arith, sum_by}
use Rattle.std.proofs.lemmas.List.Elements.{All-head}
use Rattle.sg_graph.specs.declared.cut.Cut.{Cut}
use Rattle.sg_graph.specs.Web.{Graph, IsWeb, weight_of}
use Rattle.sg_graph.specs.Join.{AreTerminals, IsJoin, IsLeastJoin}
use Rattle.sg_graph.specs.OddCut.{CutsPack, IsOddCut, odd_cut_weight}
use Rattle.sg_graph.proofs.Joins.{cuts_bound_join, least_by_cuts}

module _ (g : Graph) (terminals edges : List ℕ) (cuts : List Cut) (duals : ℕ) (web : IsWeb g) (are : AreTerminals g terminals)
    (join : IsJoin g terminals edges) (light : 2 * weight_of g edges ≤ duals) (packed : CutsPack g terminals cuts)
    (total : sum_by odd_cut_weight cuts ≡ duals) where
  -- the cuts weigh twice what the join weighs
  pub cuts_weigh_twice : sum_by odd_cut_weight cuts ≡ 2 * weight_of g edges
  cuts_weigh_twice = omega (arith, light, total, cuts_bound_join g terminals are web.joined edges cuts join packed)

  -- the join is least
  pub IsLeastJoin-cuts : IsLeastJoin g terminals edges
  IsLeastJoin-cuts = least_by_cuts g terminals are web.joined edges cuts join packed (omega (arith, light, total))

-- without terminals there is no odd cut
pub CutsPack-bare : (g : Graph) (cuts : List Cut) → CutsPack g [] cuts → cuts ≡ []
CutsPack-bare g [] packed = refl
CutsPack-bare g (c ∷ cuts) packed = absurd (let cut = All-head (λ c. IsOddCut g [] c.edges) c cuts packed.odd_cuts in let odd = cut.odd in omega arith)
