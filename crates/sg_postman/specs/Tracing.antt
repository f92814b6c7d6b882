-- A closed trail in the making (Hierholzer 1873): the copies of the edges that are left, a trail out from node 0, and
-- the trail that is done.
use Rattle.std.specs.Prelude.{◌≡◌, ℕ, ◌+◌, ◌-◌, slice_set, sum, ◌*◌, ◌%◌, ◌<◌, ◌==◌, cond, List, [], ◌∷◌, length, slice_index}
use Rattle.sg_base.specs.Sums.{sum_below}
use Rattle.sg_graph.specs.Incidence.{EndsAt, list_at}
use Rattle.sg_graph.specs.Walk.{other_end}
use Rattle.sg_graph.specs.Web.{Graph, edge_at, edge_count, ends_at}
use Rattle.sg_postman.specs.declared.steps.Step.{Step}
use Rattle.sg_postman.specs.Tour.{AreSteps, end_of, uses_of}

-- steps from node 0 back to it that use each copy of each edge once
pub record IsEulerTour (g : Graph) (copies : ℕ → ℕ) (ss : List Step) : Type 0 where
  pub trail : AreSteps g 0 ss
  pub closed : end_of 0 ss ≡ 0
  pub each : (e : ℕ) → e < edge_count g → uses_of e ss ≡ copies e

-- the copies of edge e that are left
abbrev pub left_of : List ℕ → ℕ → ℕ
left_of left e = slice_index left e

-- no copy is left of an edge that ends at x
abbrev pub IsUsedUp : Graph → List ℕ → ℕ → Type 0
IsUsedUp g left x = (e : ℕ) → EndsAt g x e → left_of left e ≡ 0

-- the nodes that the steps leave are spent
abbrev pub AreUsedUp : Graph → List ℕ → ℕ → List Step → Type 0
AreUsedUp g left x [] = Unit {0}
AreUsedUp g left x (s ∷ ss) = IsUsedUp g left x × AreUsedUp g left s.to ss

-- for each node a place in its list such that no copy is left of the edges before it
pub record AreTried (lists : List (List ℕ)) (left tried : List ℕ) : Type 0 where
  pub count : length tried ≡ length lists
  pub spent : (x k : ℕ) → x < length lists → k < slice_index tried x
      → left_of left (slice_index (list_at lists x) k) ≡ 0

-- the ends at x of all copies that are left
abbrev pub open_ends : Graph → List ℕ → ℕ → ℕ
open_ends g left x = sum_below (λ e. left_of left e * ends_at g x e) (edge_count g)

-- 1 at the node, and 0 elsewhere
abbrev pub at_node : ℕ → ℕ → ℕ
at_node y x = cond (y == x) 1 0

-- `out` leads from node 0 to its end, and `back`, which is done, from node 0 over spent nodes
pub record IsTracing (g : Graph) (copies : ℕ → ℕ) (left : List ℕ) (out back : List Step) : Type 0 where
  pub count : length left ≡ edge_count g
  pub out_trail : AreSteps g 0 out
  pub back_trail : AreSteps g 0 back
  pub copies_are : (e : ℕ) → e < edge_count g → left_of left e + uses_of e out + uses_of e back ≡ copies e
  pub even : (x : ℕ) → x < g.nodes → (open_ends g left x + at_node (end_of 0 out) x + at_node (end_of 0 back) x) % 2 ≡ 0
  pub spent : AreUsedUp g left 0 back

-- one copy of e less
abbrev pub one_less : List ℕ → ℕ → List ℕ
one_less left e = slice_set left e (left_of left e - 1)

-- the step along an edge from the present node
abbrev pub onward : Graph → List Step → ℕ → Step
onward g out e = record { edge = e; to = other_end (end_of 0 out) (edge_at g e) }

-- two for each copy left, for the ways out and back, and one for each step out
abbrev pub to_go : List ℕ → List Step → ℕ
to_go left out = 2 * sum left + length out
