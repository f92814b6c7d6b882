-- A search begins at its source, and ends with a table of the graph.
use Rattle.std.proofs.Common.{◌≡◌, ◌≢◌, ℕ, ◌+◌, ◌<◌, ◌≤◌, pos, true, cond, Option, None, Some, is_some, List, [], replicate, refl, sym, ◌∙◌, ap, subst, arith, length, unsigned_abs, count_by}
use Rattle.std.specs.Option.{option_map_or}
use Rattle.std.specs.declared.cmp.Reverse.{Reverse}
use Rattle.std.proofs.lemmas.Bool.{cases_eq, cases_lt, false≢true}
use Rattle.std.proofs.lemmas.List.{get_or_past, get_or-replicate, get_or-set_other, get_or-set_same, length-replicate, length-set}
use Rattle.std.proofs.lemmas.List.Elements.{All-nil}
use Rattle.std.proofs.lemmas.List.Sums.{count_by-le-length, sum_by-set}
use Rattle.sg_graph.specs.Web.{Graph}
use Rattle.sg_graph.specs.Walk.{IsDistance}
use Rattle.sg_graph.specs.Table.{IsTableOf, Route, Routes, at_home, distance_at, is_reached, length_to, route_at}
use Rattle.sg_graph.proofs.Tables.{first_routes, parent_reached}
use Rattle.sg_dist.specs.declared.candidate.Candidate.{Candidate}
use Rattle.sg_dist.specs.Search.{IsCandidate, Searches, Spreads, candidates, reached_count}
use Rattle.sg_dist.proofs.Leads.{closed}

-- the source alone is found
module _ (g : Graph) (source : ℕ) (low : source < g.nodes) where
  abbrev pub first_table : Routes
  first_table = record { source = source; to = first_routes g.nodes source }

  count : length (first_routes g.nodes source) ≡ g.nodes
  count = length-set (replicate g.nodes None) source (Some at_home) ∙ length-replicate g.nodes None

  route_home : route_at first_table source ≡ Some at_home
  route_home = grind (arith, get_or-set_same, length-replicate)

  none : (x : ℕ) → x ≢ source → route_at first_table x ≡ None
  none x ne = grind (arith, cases_lt x g.nodes, get_or-set_other, get_or-replicate, get_or_past, length-replicate)

  home : is_reached first_table source ≡ true
  home = ap (λ (r : Option Route). is_some r) route_home

  only : (x : ℕ) → is_reached first_table x ≡ true → x ≡ source
  only x h = grind (arith, cases_eq x source, false≢true, is_some, none)

  home_distance : distance_at first_table source ≡ pos 0
  home_distance = ap (λ (r : Option Route). option_map_or (λ (q : Route). q.distance) r (pos 0)) route_home

  no_length : (x : ℕ) → is_reached first_table x ≡ true → length_to first_table x ≡ 0
  no_length x h = ap (length_to first_table) (only x h) ∙ ap unsigned_abs home_distance

  one : 0 < reached_count first_table
  one =
      let n : length (replicate {A = Option Route} g.nodes None) ≡ g.nodes = length-replicate g.nodes None in
      let free : cond {A = ℕ} (is_some (lib_at source)) 1 0 ≡ 0 = ap (λ (r : Option Route). cond (is_some r) 1 0)
      (get_or-replicate g.nodes source None None low) in
      let s : reached_count first_table + cond (is_some (lib_at source)) 1 0 ≡ count_by (λ (r : Option Route). is_some r)
      (replicate g.nodes None) + 1 = sum_by-set (λ (r : Option Route). cond (is_some r) 1 0) (replicate g.nodes None) source (Some at_home) None
      (omega arith) in
      omega arith
    where
      lib_at : ℕ → Option Route
      lib_at x = route_at (record { source = source; to = replicate g.nodes None }) x

  -- at the start the source alone is found, and none of its edges is spread
  pub Spreads-first : Spreads g first_table [] source []
  Spreads-first = record {
    finds = record {
      count = count;
      home = home;
      home_distance = no_length source home;
      signed = λ x h. ap (distance_at first_table) (only x h) ∙ home_distance ∙ sym (ap pos (no_length x h));
      right = λ x h. subst (λ z. IsDistance g source z (length_to first_table x)) (sym (only x h))
          (subst (IsDistance g source source) (sym (no_length x h)) itself);
      light = λ x h. omega (arith, no_length x h);
      parents = λ x e h. (let p = parent_reached first_table x e h in absurd (p.0 (only x p.1)));
      back = λ x h. ([], only x h, one);
    };
    waiting = record { candidates = All-nil (IsCandidate g first_table); order = λ x h. All-nil (λ c. length_to first_table x ≤ c.distance) };
    here = home;
    latest = λ x h. omega (arith, no_length x h);
    frontier = λ v e h but. (let c = but (only v h) in absurd (omega arith));
  }
    where
      itself : IsDistance g source source 0
      itself = record { reached = ([], refl, refl); least = λ es w. omega arith }

-- no candidate is left
pub IsTableOf-end : (g : Graph) (t : Routes) → Searches g t [] → IsTableOf g t
IsTableOf-end g t s =
    grind (
      arith,
      is_some,
      count_by-le-length,
      false≢true,
      closed,
      s.finds.count,
      s.finds.parents,
      s.finds.back,
      s.finds.home,
      s.finds.signed,
      s.finds.right,
    )

-- the first step, in the terms of the code
module _ (g : Graph) (source : ℕ) (low : source < g.nodes) (t : Routes) (is : t ≡ first_table g source low) (items : List (Reverse Candidate))
    (none : items ≡ []) where
  -- the same, in the terms of the code
  pub Spreads-start : Spreads g t (candidates items) source []
  Spreads-start = rw (is, none) (Spreads-first g source low)

  -- the source has the distance 0
  pub start_distance : 0 ≡ length_to t source
  start_distance = let s = Spreads-first g source low in sym (ap (λ (u : Routes). length_to u source) is ∙ s.finds.home_distance)
