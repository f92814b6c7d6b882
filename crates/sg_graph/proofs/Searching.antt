-- A search from node 0, edge by edge and node by node.
use Rattle.std.proofs.lemmas.Grind.{common_steps}
use Rattle.std.proofs.Common.{inl, inr, ⊎_elim, ◌≡◌, ◌≢◌, ℕ, ◌+◌, ◌<◌, ◌≤◌, Bool, true, false, List, [], ◌∷◌, ◌++◌, replicate, set, take, All, Contains, sym, ◌∙◌, ap, subst, arith, length, get_or, pos}
use Rattle.std.proofs.lemmas.Bool.{cases_eq, cases_lt, false≢true, true≢false}
use Rattle.std.proofs.lemmas.List.{length-replicate, length-set, length_push, get_or-set_same, get_or-set_other, get_or_append_left, get_or_past, get_or_default}
use Rattle.std.proofs.lemmas.List.Elements.{All-more, All-push, All-weaker, Contains-append_left, Contains-push}
use Rattle.std.proofs.lemmas.List.Sums.{sum_by-set}
use Rattle.sg_base.proofs.MarkLaws.{none_free}
use Rattle.sg_base.specs.Sets.{holds, is_marked}
use Rattle.sg_graph.specs.declared.web.Edge.{Edge}
use Rattle.sg_graph.specs.Web.{Graph, IsWeb, edge_at}
use Rattle.sg_graph.specs.Walk.{IsConnectedWeb, IsFirstUnreached, IsReached, IsWebWalk, Leads, other_end}
use Rattle.sg_graph.specs.Incidence.{AreIncident, EndsAt, list_at}
use Rattle.sg_base.proofs.RisingLists.{All-holds}
use Rattle.sg_graph.specs.Search.{MarksReached, VisitsEdges, unmarked}
use Rattle.sg_graph.proofs.Walks.{leads_other, other_only, walk-append, walk-one}
use Rattle.sg_graph.proofs.Incidences.{edges_at_leads}

module _ (g : Graph) (node : ℕ) (list : List ℕ) (i : ℕ) (old marks : List Bool) (before found : List ℕ) (low : i < length list)
    (v : VisitsEdges g node (take i list) old marks before found) where
  abbrev pub this : ℕ
  this = get_or list i 0

  abbrev pub far : ℕ
  far = other_end node (edge_at g this)

  -- the far end is marked already
  pub Visits-same : is_marked marks far ≡ true → VisitsEdges g node (take (i + 1) list) old marks before found
  Visits-same marked = record {
    count = v.count;
    kept = v.kept;
    longer = v.longer;
    stays = v.stays;
    sound = v.sound;
    listed = v.listed;
    noted = v.noted;
    spread = All-more (λ e. is_marked marks (other_end node (edge_at g e)) ≡ true) list i 0 low v.spread marked;
    total = v.total;
  }

  -- the far end is new
  module _ (ends : EndsAt g node this) (far_in : far < length marks) (fresh : is_marked marks far ≡ false) where
    abbrev after : List Bool
    after = set marks far true

    at_far : is_marked after far ≡ true
    at_far = get_or-set_same marks far true false far_in

    still : (x : ℕ) → is_marked marks x ≡ true → is_marked after x ≡ true
    still x h = grind (arith, common_steps, cases_eq, at_far, get_or-set_other)

    before_that : (x : ℕ) → x ≢ far → is_marked after x ≡ true → is_marked marks x ≡ true
    before_that x ne h = sym (get_or-set_other marks far x true false ne) ∙ h

    one_less : unmarked after + 1 ≡ unmarked marks
    one_less = grind (arith, common_steps, sum_by-set)

    -- an edge to a node that is not marked marks and notes it
    pub Visits-new : VisitsEdges g node (take (i + 1) list) old after before (found ++ far ∷ [])
    Visits-new = record {
      count = length-set marks far true ∙ v.count;
      kept = λ x h. still x (v.kept x h);
      longer = omega (arith, length_push found far, v.longer);
      stays = λ k l. get_or_append_left found (far ∷ []) 0 k (omega (arith, v.longer)) ∙ v.stays k l;
      sound = λ x h. elim (cases_eq x far) [
        | inl e ↦ inr (this, subst (λ z. Leads g this node z) (sym e) (leads_other g this node ends))
        | inr ne ↦ v.sound x (before_that x ne h)
      ];
      listed = λ x h. elim (cases_eq x far) [
        | inl e ↦ inr (subst (Contains (found ++ far ∷ [])) (sym e) (Contains-push found far))
        | inr ne ↦ ⊎_elim (λ (o : is_marked old x ≡ true). inl o) (λ (c : Contains found x). inr (Contains-append_left found (far ∷ []) x c))
            (v.listed x (before_that x ne h))
      ];
      noted = λ h. All-push (λ x. is_marked after x ≡ true) found far (All-weaker (λ x. is_marked marks x ≡ true)
          (λ x. is_marked after x ≡ true) still found (v.noted h)) at_far;
      spread = All-more (λ e. is_marked after (other_end node (edge_at g e)) ≡ true) list i 0 low
          (All-weaker (λ e. is_marked marks (other_end node (edge_at g e)) ≡ true) (λ e. is_marked after (other_end node (edge_at g e)) ≡ true)
          (λ e h. still (other_end node (edge_at g e)) h) (take i list) v.spread) at_far;
      total = omega (arith, one_less, length_push found far, v.total);
    }

-- the search as far as it has come: the nodes found before `next` are spread
pub record Explores (g : Graph) (marks : List Bool) (found : List ℕ) (next : ℕ) : Type 0 where
  pub count : length marks ≡ g.nodes
  pub sound : (x : ℕ) → is_marked marks x ≡ true → IsReached g 0 x
  pub noted : All (λ x. is_marked marks x ≡ true) found
  pub listed : (x : ℕ) → is_marked marks x ≡ true → Contains found x
  pub first : is_marked marks 0 ≡ true
  pub spread : (k e y : ℕ) → k < next → Leads g e (get_or found k 0) y → is_marked marks y ≡ true
  pub within : next ≤ length found

-- a marked place is one of the list
pub marked_low : (marks : List Bool) (x : ℕ) → is_marked marks x ≡ true → x < length marks
marked_low marks x h = elim (cases_lt x (length marks)) [ inl l ↦ l | inr l ↦ absurd (false≢true (sym (get_or_past marks x false l) ∙ h)) ]

-- node 0 is found, and is not spread yet
pub Explores-first : (g : Graph) (marks : List Bool) (found : List ℕ) → IsWeb g → marks ≡ replicate g.nodes false → found ≡ 0 ∷ [] →
    Explores g (set marks 0 true) found 0
Explores-first g marks found web bare one = rw (bare, one) (grind (arith, common_steps, only, length-set, length-replicate, get_or-set_same, web.has_node))
  where
    only : (x : ℕ) → is_marked (set (replicate g.nodes false) 0 true) x ≡ true → x ≡ 0
    only x marked = grind (arith, cases_eq, false≢true, get_or-set_other, none_free)

-- the next node is spread
pub Explores-more : (g : Graph) (old new : List Bool) (before after : List ℕ) (next node : ℕ) (lists : List (List ℕ)) → AreIncident g lists
    → next < length before → node ≡ get_or before next 0 → Explores g old before next → VisitsEdges g node (list_at lists node) old new before after
    → Explores g new after (next + 1)
Explores-more g old new before after next node lists incident low is s v = record {
  count = v.count ∙ s.count;
  sound = λ x h. elim (v.sound x h) [
    | inl was ↦ s.sound x was
    | inr led ↦ (let way = s.sound node at_node in (way.0 ++ led.0 ∷ [], walk-append g way.0 (led.0 ∷ []) 0 node x way.1 (walk-one g led.0 node x led.1)))
  ];
  noted = v.noted s.noted;
  listed = λ x h. elim (v.listed x h) [ inl was ↦ longer x (s.listed x was) | inr new ↦ new ];
  first = v.kept 0 s.first;
  spread = λ k e y l leads. elim (cases_eq k next) [
    | inl here ↦ spread_here e y (subst (λ n. Leads g e n y) (ap (λ j. get_or after j 0) here ∙ v.stays next low ∙ sym is) leads)
    | inr there ↦ v.kept y (s.spread k e y (omega arith) (subst (λ n. Leads g e n y) (v.stays k (omega arith)) leads))
  ];
  within = omega (arith, v.longer);
}
  where
    at_node : is_marked old node ≡ true
    at_node = ap (is_marked old) is ∙ s.noted next 0 low

    longer : (x : ℕ) → Contains before x → Contains after x
    longer x c = (
      c.0,
      omega arith,
      get_or_default after c.0 x 0 (omega arith) ∙ v.stays c.0 c.1 ∙ sym (get_or_default before c.0 x 0 c.1) ∙ c.2,
    )

    spread_here : (e y : ℕ) → Leads g e node y → is_marked new y ≡ true
    spread_here e y leads =
        let in_list : holds (list_at lists node) e ≡ true = ap (λ es. holds es e)
        (incident.each node (omega (arith, marked_low old node at_node, s.count))) ∙ edges_at_leads g node e y leads in
        let at_e : is_marked new (other_end node (edge_at g e)) ≡ true = All-holds (λ k. is_marked new (other_end node (edge_at g k)) ≡ true)
        (list_at lists node) e v.spread in_list in
        ap (is_marked new) (other_only g e node y leads) ∙ at_e

-- all that were found are spread
pub MarksReached-all : (g : Graph) (marks : List Bool) (found : List ℕ) (next : ℕ) → Explores g marks found next → length found ≤ next →
    MarksReached g marks
MarksReached-all g marks found next s done = record {
  count = s.count;
  right = λ x l. (λ h. s.sound x h, λ way. along way.0 0 x s.first way.1);
}
  where
    along : (es : List ℕ) (x y : ℕ) → is_marked marks x ≡ true → IsWebWalk g x es y → is_marked marks y ≡ true
    along [] x y h w = ap (is_marked marks) (sym w) ∙ h
    along (e ∷ es) x y h w =
        let c : Contains found x = s.listed x h in
        let here : get_or found c.0 0 ≡ x = sym (get_or_default found c.0 x 0 c.1) ∙ c.2 in
        along es w.0 y (s.spread c.0 e w.0 (omega arith) (subst (λ n. Leads g e n w.0) (sym here) w.1)) w.2

-- one edge more, in the code's terms
module _ (g : Graph) (node : ℕ) (list : List ℕ) (i other : ℕ) (edges : List Edge) (old marks : List Bool) (before found : List ℕ)
    (low : i < length list) (same : edges ≡ g.edges) (is : other ≡ other_end node
    (get_or edges (get_or list i 0) (record { a = 0; b = 0; w = pos 0 }))) (v : VisitsEdges g node (take i list) old marks before found) where
  is_far : other ≡ far g node list i old marks before found low v
  is_far = is ∙ ap (λ (es : List Edge). other_end node (get_or es (get_or list i 0) (record { a = 0; b = 0; w = pos 0 }))) same

  -- one edge more, to a node that is marked: nothing changes
  pub Visits-more_same : (new : List Bool) (after : List ℕ) → is_marked marks other ≡ true → new ≡ marks → after ≡ found
      → VisitsEdges g node (take (i + 1) list) old new before after
  Visits-more_same new after h m f = rw (m, f) (Visits-same g node list i old marks before found low v (ap (is_marked marks) (sym is_far) ∙ h))

  -- one edge more, to a node that is not marked: it is marked and noted
  pub Visits-more_new : (new : List Bool) (after : List ℕ) → EndsAt g node (get_or list i 0) → other < length marks → is_marked marks other ≡ false
      → new ≡ set marks other true → after ≡ found ++ other ∷ [] → VisitsEdges g node (take (i + 1) list) old new before after
  Visits-more_new new after ends in' h m f =
      rw (m ∙ ap (λ n. set marks n true) is_far, f ∙ ap (λ n. found ++ n ∷ []) is_far)
      (Visits-new g node list i old marks before found low v ends (subst (λ n. n < length marks) is_far in') (ap (is_marked marks) (sym is_far) ∙ h))

-- where all are marked the graph is connected
pub all_marked : (g : Graph) (marks : List Bool) → MarksReached g marks → ((y : ℕ) → y < g.nodes → is_marked marks y ≡ true) → IsConnectedWeb g
all_marked g marks m all x l = (m.right x l).0 (all x l)

-- the first that is not marked is the first that is not reached
pub first_unmarked : (g : Graph) (marks : List Bool) (x : ℕ) → MarksReached g marks → x < g.nodes → is_marked marks x ≡ false
    → ((y : ℕ) → y < x → is_marked marks y ≡ true) → IsFirstUnreached g x
first_unmarked g marks x m low none all = record {
  node = low;
  unreached = λ r. true≢false (sym ((m.right x low).1 r) ∙ none);
  before = λ y l. (m.right y (omega (arith, l, low))).0 (all y l);
}

-- the other end of an edge is a node
pub other_in : (g : Graph) (node : ℕ) (list : List ℕ) (i other : ℕ) (edges : List Edge) → IsWeb g → edges ≡ g.edges
    → other ≡ other_end node (get_or edges (get_or list i 0) (record { a = 0; b = 0; w = pos 0 })) → EndsAt g node (get_or list i 0) → other < g.nodes
other_in g node list i other edges web same is ends = grind arith
