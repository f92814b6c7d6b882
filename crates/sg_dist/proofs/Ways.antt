-- The way back from a node to the source: it is the only one, it weighs the distance, and no edge stands in it twice.
use Rattle.std.proofs.Common.{inl, inr, ◌≡◌, ◌≢◌, ◌⊎◌, ℕ, zero, suc, ◌+◌, ◌<◌, true, Some, List, [], ◌∷◌, ◌++◌, reverse, refl, sym, ◌∙◌, ap, subst, arith, length, get_or}
use Rattle.std.specs.List.{AllPairs}
use Rattle.std.proofs.lemmas.List.{get_or-reverse, length-reverse, length_push, reverse-append}
use Rattle.std.proofs.lemmas.List.Elements.{All-from_get_or}
use Rattle.std.proofs.lemmas.List.Kept.{AllPairs-cons}
use Rattle.std.proofs.lemmas.List.Sorted.{IsPermutation-reverse, sum_by-IsPermutation}
use Rattle.std.proofs.lemmas.List.Sums.{sum_by-cons}
use Rattle.sg_graph.specs.Web.{Graph, edge_at, edge_weight, weight_of}
use Rattle.sg_graph.specs.Walk.{IsWebWalk, Leads, other_end}
use Rattle.sg_graph.specs.Table.{IsTableOf, IsWayBack, Routes, is_reached, length_to, parent_at}
use Rattle.sg_graph.proofs.Walks.{distance-itself, other_only, turned, walk-append, walk-one}
use Rattle.sg_graph.proofs.Tables.{parent_reached, reached_low}
use Rattle.sg_graph.proofs.TableLaws.{distance_is}

module _ (g : Graph) (t : Routes) where
  some_same : (e f : ℕ) → Some e ≡ Some f → e ≡ f
  some_same e f h = cc

  -- a step of the way leads to the other end of the parent
  step_to : (e x z : ℕ) → Leads g e z x → z ≡ other_end x (edge_at g e)
  step_to e x z l = other_only g e x z (turned g e z x l)

  -- a way back gets longer by the parent edge at its end
  pub way-append : (es : List ℕ) (x y z e : ℕ) → IsWayBack g t x es y → parent_at t y ≡ Some e → Leads g e z y →
      IsWayBack g t x (es ++ e ∷ []) z
  way-append [] x y z e w p l = (z, ap (parent_at t) w ∙ p, subst (λ n. Leads g e z n) (sym w) l, refl)
  way-append (f ∷ es) x y z e w p l = (w.0, w.1, w.2, way-append es w.0 y z e w.3 p l)

  -- two ways back to the source are one
  way_unique : (es fs : List ℕ) (x : ℕ) → IsWayBack g t x es t.source → IsWayBack g t x fs t.source → length es ≡ length fs
  way_unique [] [] x w v = refl
  way_unique [] (f ∷ fs) x w v = absurd (let p = parent_reached t x f v.1 in p.0 w)
  way_unique (e ∷ es) [] x w v = absurd (let p = parent_reached t x e w.1 in p.0 v)
  way_unique (e ∷ es) (f ∷ fs) x w v = grind (arith, way_unique es fs v.0, some_same, step_to)

  -- an edge of the way is the parent edge of a node on it
  edge_on : (es : List ℕ) (x k : ℕ) → k < length es → IsWayBack g t x es t.source
      → (u v : ℕ) × (bs : List ℕ) × Leads g (get_or es k 0) v u × IsWayBack g t u (get_or es k 0 ∷ bs) t.source × IsWayBack g t v bs t.source ×
      (length bs < length es)
  edge_on [] x k l w = absurd (omega arith)
  edge_on (e ∷ es) x zero l w = (x, w.0, es, w.2, w, w.3, omega arith)
  edge_on (e ∷ es) x (suc k) l w = grind (arith, edge_on es w.0 k)

  -- an end of an edge is one of its ends
  one_of : (e z x v u : ℕ) → Leads g e z x → Leads g e v u → (x ≡ u) ⊎ (x ≡ v)
  one_of e z x v u l m = grind (arith, l.ways, m.ways)

  -- the first edge does not come again
  first_once : (e : ℕ) (es : List ℕ) (x k : ℕ) → k < length es → IsWayBack g t x (e ∷ es) t.source → e ≢ get_or es k 0
  first_once e es x k l w same =
      let r = edge_on es w.0 k l w.3 in
      let again : Leads g (get_or es k 0) w.0 x = subst (λ f. Leads g f w.0 x) same w.2 in
      absurd (elim (one_of (get_or es k 0) w.0 x r.1 r.0 again r.3) [
        | inl here ↦ (let q = way_unique (e ∷ es) (get_or es k 0 ∷ r.2) x w
            (subst (λ n. IsWayBack g t n (get_or es k 0 ∷ r.2) t.source) (sym here) r.4) in omega (arith, q, r.6))
        | inr there ↦ (let q = way_unique (e ∷ es) r.2 x w (subst (λ n. IsWayBack g t n r.2 t.source) (sym there) r.5) in omega (arith, q, r.6))
      ])

  -- a way back to the source has no edge twice
  pub way_once : (es : List ℕ) (x : ℕ) → IsWayBack g t x es t.source → AllPairs (λ e f. e ≢ f) es
  way_once [] x w = λ i j d l m. absurd (omega arith)
  way_once (e ∷ es) x w =
      AllPairs-cons (λ a b. a ≢ b) e es (All-from_get_or (λ f. e ≢ f) es 0 (λ k l. first_once e es x k l w)) (way_once es w.0 w.3)

  -- turned round it is a walk from the source
  pub way_walk : (es : List ℕ) (x y : ℕ) → IsWayBack g t x es y → IsWebWalk g y (reverse es) x
  way_walk [] x y w = sym w
  way_walk (e ∷ es) x y w =
      subst (λ fs. IsWebWalk g y fs x) (sym (reverse-append (e ∷ []) es))
      (walk-append g (reverse es) (e ∷ []) y w.0 x (way_walk es w.0 y w.3) (walk-one g e w.0 x w.2))

  -- a list turned round weighs the same
  pub way_weight : (es : List ℕ) → weight_of g (reverse es) ≡ weight_of g es
  way_weight es = sum_by-IsPermutation (edge_weight g) es (reverse es) (IsPermutation-reverse es)

-- no entry twice, also from behind
pub once_reversed : (es : List ℕ) → AllPairs (λ e f. e ≢ f) es → AllPairs (λ e f. e ≢ f) (reverse es)
once_reversed es once i j d l m same = grind (arith, length-reverse, get_or-reverse)

-- a way in progress: the edges so far lead to `at`, and the rest of the way is there
pub record Follows (g : Graph) (t : Routes) (to : ℕ) (edges : List ℕ) (at : ℕ) : Type 0 where
  pub so_far : IsWayBack g t to edges at
  pub reached : is_reached t at ≡ true
  pub left : (es : List ℕ) × IsWayBack g t at es t.source × (length edges + length es < g.nodes)

module _ (g : Graph) (t : Routes) (is : IsTableOf g t) where
  low : (x : ℕ) → is_reached t x ≡ true → x < g.nodes
  low x h = omega (arith, reached_low t x h, is.nodes)

  next_reached : (e x z : ℕ) → is_reached t x ≡ true → parent_at t x ≡ Some e → Leads g e z x
      → (is_reached t z ≡ true) × (length_to t z + edge_weight g e ≡ length_to t x)
  next_reached e x z h p l =
      let near = is.parents x e (low x h) p in
      let same : z ≡ near.from = step_to g t e x z l ∙ sym (step_to g t e x near.from near.leads) in
      (ap (is_reached t) same ∙ near.reached, omega (arith, ap (length_to t) same, near.distance))

  -- the way weighs what the distance falls by
  way_falls : (es : List ℕ) (x y : ℕ) → is_reached t x ≡ true → IsWayBack g t x es y
      → (is_reached t y ≡ true) × (length_to t y + weight_of g es ≡ length_to t x)
  way_falls [] x y h w = (ap (is_reached t) (sym w) ∙ h, omega (arith, ap (length_to t) w))
  way_falls (e ∷ es) x y h w =
      let on = next_reached e x w.0 h w.1 w.2 in
      let rest = way_falls es w.0 y on.0 w.3 in
      (rest.0, omega (arith, rest.1, on.1, sum_by-cons (edge_weight g) e es))

  -- the way back to the source weighs the distance
  pub way_distance : (es : List ℕ) (x : ℕ) → is_reached t x ≡ true → IsWayBack g t x es t.source → weight_of g es ≡ length_to t x
  way_distance es x h w =
      let falls = way_falls es x t.source h w in
      omega (arith, falls.1, distance-itself g t.source (length_to t t.source) (distance_is g t is t.source (low t.source falls.0) falls.0))

  -- the next parent
  module _ (to at e : ℕ) (edges : List ℕ) (f : Follows g t to edges at) (parent : parent_at t at ≡ Some e) where
    first_left : (es : List ℕ) → IsWayBack g t at es t.source → length edges + length es < g.nodes
        → (z : ℕ) × (fs : List ℕ) × Leads g e z at × IsWayBack g t z fs t.source × (length edges + 1 + length fs < g.nodes)
    first_left [] w l = absurd (let p = parent_reached t at e parent in p.0 w)
    first_left (k ∷ es) w l = (w.0, es, subst (λ j. Leads g j w.0 at) (some_same g t k e (sym w.1 ∙ parent)) w.2, w.3, omega arith)

    -- the parent edge leads on to some node
    pub next_edge : (z : ℕ) × Leads g e z at
    next_edge = (let r = first_left f.left.0 f.left.1 f.left.2 in (r.0, r.2))

    -- the way back follows one parent edge more
    pub Follows-next : (edges' : List ℕ) (next : ℕ) → edges' ≡ edges ++ e ∷ [] → next ≡ other_end at (edge_at g e) → Follows g t to edges' next
    Follows-next edges' next grown is_other =
        let r = first_left f.left.0 f.left.1 f.left.2 in
        let same : r.0 ≡ next = step_to g t e at r.0 r.2 ∙ sym is_other in
        let more : length edges' ≡ length edges + 1 = ap length grown ∙ push edges e in
        record {
          so_far = subst (λ es. IsWayBack g t to es next) (sym grown) (way-append g t edges to at next e f.so_far parent
              (subst (λ n. Leads g e n at) same r.2));
          reached = ap (is_reached t) (sym same) ∙ (next_reached e at r.0 f.reached parent r.2).0;
          left = (r.1, subst (λ n. IsWayBack g t n r.1 t.source) same r.3, omega (arith, r.4, more));
        }
      where
        push : (xs : List ℕ) (x : ℕ) → length (xs ++ x ∷ []) ≡ length xs + 1
        push xs x = length_push xs x
