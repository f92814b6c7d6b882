-- The laws of tables: what a new table says, and a table in which one node was set.
use Rattle.std.proofs.lemmas.Grind.{common_steps}
use Rattle.std.proofs.Common.{[], ◌∷◌, ap₂, ◌≡◌, ◌≢◌, ◌^◌, ℕ, zero, suc, ◌<◌, ◌≤◌, ℤ, pos, Bool, true, cond, not, eqb, eq-eqb, get_or, is_some, unsigned_abs, Option, None, Some, List, set, replicate, refl, sym, ◌∙◌, ap, subst, arith, length}
use Rattle.std.specs.Option.{option_map_or}
use Rattle.std.proofs.lemmas.Bool.{cases_eq, cases_lt, false≢true, ne_eqb}
use Rattle.std.proofs.lemmas.List.{get_or_past, length-set, length-replicate, get_or-set_same, get_or-set_other}
use Rattle.sg_graph.specs.Slots.{route_of, routes_of, unreached}
use Rattle.sg_graph.specs.Table.{IsTable, Route, Routes, at_home, distance_at, is_reached, length_to, parent_at, route_at, route_edge, with_route}

-- no node reached
pub routes_of-replicate : (n : ℕ) → routes_of (replicate n (pos 0)) (replicate n unreached) ≡ replicate n None
routes_of-replicate zero = refl
routes_of-replicate (suc n) = ap (λ (rs : List (Option Route)). None ∷ rs) (routes_of-replicate n)

-- the routes are as many as the edges that tell them
pub routes_of-length : (ds : List ℤ) (es : List ℕ) → length ds ≡ length es → length (routes_of ds es) ≡ length es
routes_of-length [] [] same = refl
routes_of-length [] (e ∷ es) same = absurd (omega arith)
routes_of-length (d ∷ ds) [] same = absurd (omega arith)
routes_of-length (d ∷ ds) (e ∷ es) same = ap suc (routes_of-length ds es (omega arith))

-- the route at a place
pub routes_of-at : (ds : List ℤ) (es : List ℕ) (x : ℕ) → length ds ≡ length es → x < length es
    → get_or (routes_of ds es) x None ≡ route_of (get_or ds x (pos 0)) (get_or es x 0)
routes_of-at [] [] x same low = absurd (omega arith)
routes_of-at [] (e ∷ es) x same low = absurd (omega arith)
routes_of-at (d ∷ ds) [] x same low = absurd (omega arith)
routes_of-at (d ∷ ds) (e ∷ es) zero same low = refl
routes_of-at (d ∷ ds) (e ∷ es) (suc x) same low = routes_of-at ds es x (omega arith) (omega arith)

-- both lists set at a place
pub routes_of-set : (ds : List ℤ) (es : List ℕ) (x : ℕ) (d : ℤ) (e : ℕ) → length ds ≡ length es
    → routes_of (set ds x d) (set es x e) ≡ set (routes_of ds es) x (route_of d e)
routes_of-set [] [] x d e same = refl
routes_of-set [] (e' ∷ es) x d e same = absurd (omega arith)
routes_of-set (d' ∷ ds) [] x d e same = absurd (omega arith)
routes_of-set (d' ∷ ds) (e' ∷ es) zero d e same = refl
routes_of-set (d' ∷ ds) (e' ∷ es) (suc x) d e same = ap (λ (rs : List (Option Route)). route_of d' e' ∷ rs) (routes_of-set ds es x d e (omega arith))

-- the routes of a new table
abbrev pub first_routes : ℕ → ℕ → List (Option Route)
first_routes n source = set (replicate n None) source (Some at_home)

-- a table of which the source alone is reached is a table
pub IsTable-first : (n source : ℕ) → source < n → n ≤ 2 ^ 24 → IsTable (record { source = source; to = first_routes n source })
IsTable-first n source low few = grind (arith, common_steps, length-replicate, length-set, get_or-set_same)

-- a table stays one when a node other than the source gets a route
pub IsTable-with_route : (t : Routes) (x : ℕ) (d : ℤ) (e : ℕ) → x ≢ t.source → IsTable t → IsTable (with_route t x d e)
IsTable-with_route t x d e ne is = grind (arith, common_steps, length-set, get_or-set_other)

-- both lists set at a place make the table with that route
pub with_route_is : (t : Routes) (source : ℕ) (ds : List ℤ) (es : List ℕ) (x e : ℕ) (d d' : ℤ) → length ds ≡ length es → e < 2 ^ 24
    → record { source = source; to = routes_of ds es } ≡ t → d' ≡ d
    → record { source = source; to = routes_of (set ds x d') (set es x e) } ≡ with_route t x d e
with_route_is t source ds es x e d d' count low is same = grind (arith, routes_of-set)

-- the same, in the two lists of the code
pub IsTable-set : (t : Routes) (source : ℕ) (ds : List ℤ) (es : List ℕ) (x e : ℕ) (d d' : ℤ) → length ds ≡ length es → e < 2 ^ 24
    → record { source = source; to = routes_of ds es } ≡ t → d' ≡ d → x ≢ t.source → IsTable (record { source = source; to = routes_of ds es })
    → IsTable (record { source = source; to = routes_of (set ds x d') (set es x e) })
IsTable-set t source ds es x e d d' count low is same ne table =
    let P : Routes → Type 0 = λ u. IsTable u in
    subst P (sym (with_route_is t source ds es x e d d' count low is same)) (IsTable-with_route t x d e ne (subst P is table))

-- the lists of a new table
pub first_routes_is : (n source : ℕ) (ds : List ℤ) (es : List ℕ) → ds ≡ replicate n (pos 0) → es ≡ replicate n unreached
    → routes_of ds (set es source 0) ≡ first_routes n source
first_routes_is n source ds es is_ds is_es = ap₂ (λ xs ys. routes_of xs (set ys source 0)) is_ds is_es ∙ first_set n source
  where
    first_set : (n source : ℕ) → routes_of (replicate n (pos 0)) (set (replicate n unreached) source 0) ≡ first_routes n source
    first_set zero source = refl
    first_set (suc n) zero = ap (λ (rs : List (Option Route)). Some at_home ∷ rs) (routes_of-replicate n)
    first_set (suc n) (suc source) = ap (λ (rs : List (Option Route)). None ∷ rs) (first_set n source)

-- what is read of a table's lists
module _ (t : Routes) (source : ℕ) (ds : List ℤ) (es : List ℕ) (same : length ds ≡ length es)
    (is : record { source = source; to = routes_of ds es } ≡ t) where
  -- the two lists have an entry for each node
  pub lists_long : length t.to ≡ length es
  lists_long = sym (ap (λ (u : Routes). length u.to) is) ∙ routes_of-length ds es same

  module _ (x : ℕ) (low : x < length t.to) where
    read_route : route_at t x ≡ route_of (get_or ds x (pos 0)) (get_or es x 0)
    read_route = sym (ap (λ (u : Routes). route_at u x) is) ∙ routes_of-at ds es x same (omega (arith, lists_long))

    -- a node is reached where its entry is an edge
    pub read_reached : is_reached t x ≡ not (eqb (get_or es x 0) unreached)
    read_reached = grind (arith, read_route)

    -- the distance of a reached node stands in the list
    pub read_distance : is_reached t x ≡ true → get_or ds x (pos 0) ≡ distance_at t x
    read_distance h = grind (arith, read_route)

    -- the parent of a reached node other than the source is its entry
    pub read_parent : source ≢ x → get_or es x 0 ≢ unreached → Some (get_or es x 0) ≡ parent_at t x
    read_parent not_source ne = grind (arith, common_steps, ne_eqb, read_route)

    -- the source has no parent
    pub no_parent_source : source ≡ x → None ≡ parent_at t x
    no_parent_source h = sym (ap (λ (b : Bool). cond b None (route_edge (route_at t x))) (eq-eqb t.source x (sym (ap (λ (u : Routes). u.source) is) ∙ h)))

    -- a node that is not reached has no parent
    pub no_parent_unreached : get_or es x 0 ≡ unreached → None ≡ parent_at t x
    no_parent_unreached h = grind (arith, read_route)

-- one node is reached, or reached anew, and all else stays
module _ (t : Routes) (x : ℕ) (d : ℤ) (e : ℕ) (low : x < length t.to) where
  abbrev pub made : Route
  made = record { distance = d; edge = e }

  -- the node that was set has its new route
  pub route_here : route_at (with_route t x d e) x ≡ Some made
  route_here = get_or-set_same t.to x (Some made) None low

  -- all other nodes have their old routes
  pub route_there : (y : ℕ) → y ≢ x → route_at (with_route t x d e) y ≡ route_at t y
  route_there y ne = get_or-set_other t.to x y (Some made) None ne

  -- the node that was set is reached
  pub reached_here : is_reached (with_route t x d e) x ≡ true
  reached_here = ap (λ (r : Option Route). is_some r) route_here

  -- another node is reached as before
  pub reached_there : (y : ℕ) → y ≢ x → is_reached (with_route t x d e) y ≡ is_reached t y
  reached_there y ne = ap (λ (r : Option Route). is_some r) (route_there y ne)

  -- what was reached stays reached
  pub reached_kept : (y : ℕ) → is_reached t y ≡ true → is_reached (with_route t x d e) y ≡ true
  reached_kept y h = grind (arith, common_steps, cases_eq, reached_here, reached_there)

  -- the node that was set has its new distance
  pub distance_here : distance_at (with_route t x d e) x ≡ d
  distance_here = ap (λ (r : Option Route). option_map_or (λ (q : Route). q.distance) r (pos 0)) route_here

  -- all other nodes have their old distances
  pub distance_there : (y : ℕ) → y ≢ x → distance_at (with_route t x d e) y ≡ distance_at t y
  distance_there y ne = ap (λ (r : Option Route). option_map_or (λ (q : Route). q.distance) r (pos 0)) (route_there y ne)

  -- the same as a natural number
  pub length_here : length_to (with_route t x d e) x ≡ unsigned_abs d
  length_here = ap unsigned_abs distance_here

  -- all other distances as natural numbers stay
  pub length_there : (y : ℕ) → y ≢ x → length_to (with_route t x d e) y ≡ length_to t y
  length_there y ne = ap unsigned_abs (distance_there y ne)

  -- the node that was set has its new parent
  pub parent_here : x ≢ t.source → parent_at (with_route t x d e) x ≡ Some e
  parent_here ne = grind (arith, route_here)

  -- all other nodes have their old parents
  pub parent_there : (y : ℕ) → y ≢ x → parent_at (with_route t x d e) y ≡ parent_at t y
  parent_there y ne = ap (λ (r : Option Route). cond (eqb t.source y) None (route_edge r)) (route_there y ne)

-- a node with a parent is reached, and is not the source
pub parent_reached : (t : Routes) (x e : ℕ) → parent_at t x ≡ Some e → (x ≢ t.source) × (is_reached t x ≡ true)
parent_reached t x e h = grind arith

-- a node that is reached is one of the table
pub reached_low : (t : Routes) (x : ℕ) → is_reached t x ≡ true → x < length t.to
reached_low t x h = grind (arith, common_steps, cases_lt, false≢true, get_or_past)
