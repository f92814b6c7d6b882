-- The laws of walks: appended, turned round; and what distances say over an edge and over two ways that meet.
use Rattle.std.proofs.Common.{◌≡◌, ℕ, ◌+◌, ◌<◌, ◌≤◌, List, [], ◌∷◌, ◌++◌, refl, sym, subst, arith}
use Rattle.std.proofs.lemmas.List.Sums.{sum_by-append, sum_by-cons}
use Rattle.sg_graph.specs.Web.{Graph, IsWeb, edge_at, edge_weight, weight_of}
use Rattle.sg_graph.specs.Walk.{Leads, IsWebWalk, IsDistance, other_end}
use Rattle.sg_graph.specs.Incidence.{EndsAt}

module _ (g : Graph) where
  -- two walks that meet make one
  pub walk-append : (es fs : List ℕ) (x y z : ℕ) → IsWebWalk g x es y → IsWebWalk g y fs z → IsWebWalk g x (es ++ fs) z
  walk-append [] fs x y z w v = subst (λ n. IsWebWalk g n fs z) (sym w) v
  walk-append (e ∷ es) fs x y z w v = (w.0, w.1, walk-append es fs w.0 y z w.2 v)

  -- an edge leads both ways
  pub turned : (e x y : ℕ) → Leads g e x y → Leads g e y x
  turned e x y h = grind arith

  -- a single edge is a walk
  pub walk-one : (e x y : ℕ) → Leads g e x y → IsWebWalk g x (e ∷ []) y
  walk-one e x y h = (y, h, refl)

  -- each walk leads back with the same weight
  pub walk-back : (es : List ℕ) (x y : ℕ) → IsWebWalk g x es y → (fs : List ℕ) × IsWebWalk g y fs x × (weight_of g fs ≡ weight_of g es)
  walk-back [] x y w = ([], sym w, refl)
  walk-back (e ∷ es) x y w =
      let r : (fs : List ℕ) × IsWebWalk g y fs w.0 × (weight_of g fs ≡ weight_of g es) = walk-back es w.0 y w.2 in (
        r.0 ++ e ∷ [],
        walk-append r.0 (e ∷ []) y w.0 x r.1 (walk-one e w.0 x (turned e x w.0 w.1)),
        omega (arith, r.2, sum_by-append (edge_weight g) r.0 (e ∷ []), sum_by-cons (edge_weight g) e es),
      )

  -- a node is at distance 0 from itself
  pub distance-itself : (x d : ℕ) → IsDistance g x x d → d ≡ 0
  distance-itself x d h = omega (arith, h.least [] refl)

  -- two ways to one node join their ends
  pub distance-joined : (t u x d p q : ℕ) → IsDistance g t u d → IsDistance g t x p → IsDistance g u x q → d ≤ p + q
  distance-joined t u x d p q h a b =
      let r = walk-back b.reached.0 u x b.reached.1 in
      omega (
        arith,
        h.least (a.reached.0 ++ r.0) (walk-append a.reached.0 r.0 t x u a.reached.1 r.1),
        sum_by-append (edge_weight g) a.reached.0 r.0,
        a.reached.2,
        b.reached.2,
        r.2,
      )

  -- over an edge the distance grows by no more than its weight
  pub distance-edge : (t x y e p q : ℕ) → Leads g e x y → IsDistance g t x p → IsDistance g t y q → q ≤ p + edge_weight g e
  distance-edge t x y e p q l a b =
      omega (
        arith,
        b.least (a.reached.0 ++ e ∷ []) (walk-append a.reached.0 (e ∷ []) t x y a.reached.1 (walk-one e x y l)),
        sum_by-append (edge_weight g) a.reached.0 (e ∷ []),
        a.reached.2,
      )

  -- a way over an edge is no shorter than the distance
  pub distance-over : (t u x y e d p q : ℕ) → Leads g e x y → IsDistance g t u d → IsDistance g t x p → IsDistance g u y q →
      d ≤ p + edge_weight g e + q
  distance-over t u x y e d p q l h a b =
      let r = walk-back b.reached.0 u y b.reached.1 in
      omega (
        arith,
        h.least (a.reached.0 ++ (e ∷ r.0)) (walk-append a.reached.0 (e ∷ r.0) t x u a.reached.1 (y, l, r.1)),
        sum_by-append (edge_weight g) a.reached.0 (e ∷ r.0),
        sum_by-cons (edge_weight g) e r.0,
        a.reached.2,
        b.reached.2,
        r.2,
      )

  -- an edge leads from each of its ends to the other, and nowhere else
  pub leads_other : (e x : ℕ) → EndsAt g x e → Leads g e x (other_end x (edge_at g e))
  leads_other e x h = grind arith

  -- an edge leads to its other end alone
  pub other_only : (e x y : ℕ) → Leads g e x y → y ≡ other_end x (edge_at g e)
  other_only e x y l = grind arith

  -- an edge leads between nodes
  pub leads_low : (e x y : ℕ) → IsWeb g → Leads g e x y → (x < g.nodes) × (y < g.nodes)
  leads_low e x y web l = grind arith
