-- One step of a search: the least candidate is taken, and its node is found already, or is found now and its edges are
-- spread one by one.
use Rattle.std.proofs.Common.{inl, inr, ◌≡◌, ◌≢◌, ◌⊎◌, ℕ, suc, ◌+◌, ◌<◌, ◌≤◌, pos, Bool, true, false, ◌&&◌, cond, Some, is_some, List, [], ◌∷◌, ◌++◌, All}
use Rattle.std.proofs.Common.{Contains, refl, sym, ◌∙◌, ap, subst, arith, length, get_or, IsPermutation, length-set}
use Rattle.std.proofs.lemmas.Bool.{cases_Bool, cases_eq, false≢true}
use Rattle.std.proofs.lemmas.List.Elements.{All-cons, All-head, All-tail, All-weaker, Contains-get_or, Contains-push_cases}
use Rattle.std.proofs.lemmas.List.Sorted.{All-permutation, Contains-permutation}
use Rattle.std.proofs.lemmas.List.Sums.{sum_by-set}
use Rattle.sg_base.proofs.ParityLaws.{and-false}
use Rattle.sg_base.proofs.SumLaws.{sum_by-gain}
use Rattle.sg_graph.specs.declared.web.Edge.{Edge}
use Rattle.sg_graph.specs.Web.{Graph, IsWeb, edge_at, edge_weight, total_weight, weight_at}
use Rattle.sg_graph.specs.Walk.{IsDistance, Leads}
use Rattle.sg_graph.specs.Table.{IsNearer, IsWayBack, Routes, distance_at, is_reached, length_to, parent_at, with_route}
use Rattle.sg_graph.proofs.Walks.{leads_low, other_only, turned}
use Rattle.sg_graph.proofs.Tables.{distance_here, distance_there, length_here, length_there, parent_here, parent_reached, parent_there, reached_here, reached_kept, reached_there}
use Rattle.sg_dist.specs.declared.candidate.Candidate.{Candidate}
use Rattle.sg_dist.specs.Search.{FindsNearest, IsCandidate, Searches, Spreads, candidate_over, inner_at, inner_weight, reached_count}
use Rattle.sg_dist.proofs.Leads.{least_candidate}

-- an edge that leads out of the nodes found is not between them
module _ (g : Graph) (t : Routes) where
  not_inner : (e v u : ℕ) → Leads g e v u → is_reached t u ≡ false → inner_at t (edge_at g e) ≡ 0
  not_inner e v u l new = grind (arith, and-false, l.ways)

  inner-le : (edge : Edge) → inner_at t edge ≤ weight_at edge
  inner-le edge = grind (arith, cases_Bool (is_reached t edge.a && is_reached t edge.b), edge.a, edge.b)

  -- a step out of the nodes found weighs no more than all edges
  pub outward : (e v u : ℕ) → FindsNearest g t → is_reached t v ≡ true → Leads g e v u → is_reached t u ≡ false
      → length_to t v + edge_weight g e ≤ total_weight g
  outward e v u f found l new =
      let none : inner_at t (get_or g.edges e (record { a = 0; b = 0; w = pos 0 })) ≡ 0 = not_inner e v u l new in
      let gain : inner_weight g t + edge_weight g e ≤ total_weight g =
      sum_by-gain (inner_at t) weight_at (edge_weight g e) g.edges e (record { a = 0; b = 0; w = pos 0 }) l.below
      (λ k d q. inner-le (get_or g.edges k d)) (omega arith) in
      omega (arith, f.light v found)

  -- the distance of a candidate whose node is new is at most the weight of all edges
  pub candidate_small : (c : Candidate) → FindsNearest g t → IsCandidate g t c → is_reached t c.node ≡ false → c.distance ≤ total_weight g
  candidate_small c f is new = omega (arith, is.distance, outward c.edge is.from c.node f is.reached is.leads new)

in_rest : (c x : Candidate) (rest : List Candidate) → Contains (c ∷ rest) x → (x ≡ c) ⊎ Contains rest x
in_rest c x rest h1 = grind arith

-- the candidate c is taken from the heap
module _ {g : Graph} {t : Routes} {heap rest : List Candidate} {c : Candidate} (s : Searches g t heap) (perm : IsPermutation heap (c ∷ rest)) where
  left : (x : Candidate) → x.node ≢ c.node → Contains heap x → Contains rest x
  left x ne h = elim (in_rest c x rest (Contains-permutation heap (c ∷ rest) x perm h)) [
    | inl e ↦ absurd (ne (ap (λ (z : Candidate). z.node) e))
    | inr k ↦ k
  ]

  rest_all : (P : Candidate → Type 0) → All P heap → All P rest
  rest_all P h = All-tail P c rest (All-permutation P heap (c ∷ rest) perm h)

  -- what holds of all of the heap holds of the candidate taken
  pub taken : (P : Candidate → Type 0) → All P heap → P c
  taken P h = All-head P c rest (All-permutation P heap (c ∷ rest) perm h)

  -- its node is found already
  pub Searches-skip : is_reached t c.node ≡ true → Searches g t rest
  Searches-skip found = record {
    finds = s.finds;
    waiting = record {
      candidates = rest_all (IsCandidate g t) s.waiting.candidates;
      order = λ x h. rest_all (λ b. length_to t x ≤ b.distance) (s.waiting.order x h);
    };
    frontier = λ v e h u l new. left (candidate_over g t v e u) (λ q. false≢true (sym new ∙ ap (is_reached t) q ∙ found)) (s.frontier v e h u l new);
  }

  -- its node is new, and c is least: the node is found at its distance
  module _ (web : IsWeb g) (least : All (λ b. c.distance ≤ b.distance) rest) (new : is_reached t c.node ≡ false) where
    abbrev pub found : Routes
    found = with_route t c.node (pos c.distance) c.edge

    c_is : IsCandidate g t c
    c_is = taken (IsCandidate g t) s.waiting.candidates

    -- the candidate's node is one of the table
    pub low : c.node < length t.to
    low = let l = leads_low g c.edge c_is.from c.node web c_is.leads in omega (arith, l.1, s.finds.count)

    not_source : c.node ≢ t.source
    not_source e = false≢true (sym new ∙ ap (is_reached t) e ∙ s.finds.home)

    other : (x : ℕ) → is_reached t x ≡ true → x ≢ c.node
    other x h e = false≢true (sym new ∙ ap (is_reached t) (sym e) ∙ h)

    was_found : (x : ℕ) → is_reached found x ≡ true → x ≢ c.node → is_reached t x ≡ true
    was_found x h ne = sym (reached_there t c.node (pos c.distance) c.edge low x ne) ∙ h

    kept : (x : ℕ) → is_reached t x ≡ true → is_reached found x ≡ true
    kept x h = reached_kept t c.node (pos c.distance) c.edge low x h

    same_length : (x : ℕ) → is_reached t x ≡ true → length_to found x ≡ length_to t x
    same_length x h = length_there t c.node (pos c.distance) c.edge low x (other x h)

    -- the node found now has the candidate's distance
    pub new_length : (x : ℕ) → x ≡ c.node → length_to found x ≡ c.distance
    new_length x e = ap (length_to found) e ∙ length_here t c.node (pos c.distance) c.edge low

    least_all : All (λ b. c.distance ≤ b.distance) heap
    least_all k d l = elim (in_rest c (get_or heap k d) rest (Contains-permutation heap (c ∷ rest) (get_or heap k d) perm (Contains-get_or heap k d l))) [
      | inl e ↦ (let q : (get_or heap k d).distance ≡ c.distance = ap (λ (z : Candidate). z.distance) e in omega arith)
      | inr h ↦ (let q : c.distance ≤ (get_or rest h.0 (get_or heap k d)).distance = least h.0 (get_or heap k d) h.1 in subst
          (λ (z : Candidate). c.distance ≤ z.distance) h.2 q)
    ]

    -- one node more is found
    pub one_more : reached_count found ≡ reached_count t + 1
    one_more = grind (arith, sum_by-set, is_some, low)

    -- the edge of the candidate is between nodes found now
    heavier : inner_weight g t + edge_weight g c.edge ≤ inner_weight g found
    heavier =
        let none : inner_at t (get_or g.edges c.edge (record { a = 0; b = 0; w = pos 0 })) ≡ 0 = not_inner g t c.edge c_is.from c.node c_is.leads new in
        let all : inner_at found (get_or g.edges c.edge (record { a = 0; b = 0; w = pos 0 })) ≡ edge_weight g c.edge = elim c_is.leads.ways [
          | inl w ↦ rw (ap (is_reached found) w.0 ∙ kept c_is.from c_is.reached, ap (is_reached found) w.1 ∙ here) refl
          | inr w ↦ rw (ap (is_reached found) w.0 ∙ here, ap (is_reached found) w.1 ∙ kept c_is.from c_is.reached) refl
        ] in
        sum_by-gain (inner_at t) (inner_at found) (edge_weight g c.edge) g.edges c.edge (record { a = 0; b = 0; w = pos 0 }) c_is.leads.below
        (λ k d q. grows (get_or g.edges k d)) (omega arith)
      where
        here : is_reached found c.node ≡ true
        here = reached_here t c.node (pos c.distance) c.edge low

        wider : (p q p' q' : Bool) (w : ℕ) → (p ≡ true → p' ≡ true) → (q ≡ true → q' ≡ true) → cond (p && q) w 0 ≤ cond (p' && q') w 0
        wider p q p' q' w h1 h2 = grind arith

        grows : (edge : Edge) → inner_at t edge ≤ inner_at found edge
        grows edge = grind (arith, wider, kept)

    nearer : (x e : ℕ) → is_reached t x ≡ true → IsNearer g t x e → IsNearer g found x e
    nearer x e h n = grind (arith, kept, same_length, n.from, n.leads, n.reached, n.distance)

    way_kept : (es : List ℕ) (x y : ℕ) → is_reached t x ≡ true → IsWayBack g t x es y → IsWayBack g found x es y
    way_kept [] x y h w = w
    way_kept (e ∷ es) x y h w =
        let near = s.finds.parents x e w.1 in
        (w.0, parent_there t c.node (pos c.distance) c.edge low x (other x h) ∙ w.1, w.2, way_kept es w.0 y (on w.0 w.2 near) w.3)
      where
        on : (z : ℕ) → Leads g e z x → IsNearer g t x e → is_reached t z ≡ true
        on z l near = grind (arith, other_only, turned, near.from, near.leads, near.reached)

    -- what was found stays right
    Finds-found : FindsNearest g found
    Finds-found = record {
      count = length-set t.to c.node (Some (record { distance = pos c.distance; edge = c.edge })) ∙ s.finds.count;
      home = kept t.source s.finds.home;
      home_distance = same_length t.source s.finds.home ∙ s.finds.home_distance;
      signed = λ x h. elim (cases_eq x c.node) [
        | inl e ↦ ap (distance_at found) e ∙ distance_here t c.node (pos c.distance) c.edge low ∙ sym (ap pos (new_length x e))
        | inr ne ↦ distance_there t c.node (pos c.distance) c.edge low x ne ∙ s.finds.signed x (was_found x h ne)
            ∙ ap pos (sym (same_length x (was_found x h ne)))
      ];
      right = λ x h. elim (cases_eq x c.node) [
        | inl e ↦ subst (λ z. IsDistance g t.source z (length_to found x)) (sym e)
            (subst (IsDistance g t.source c.node) (sym (new_length x e)) (least_candidate s c c_is least_all new))
        | inr ne ↦ subst (IsDistance g t.source x) (sym (same_length x (was_found x h ne))) (s.finds.right x (was_found x h ne))
      ];
      light = λ x h. elim (cases_eq x c.node) [
        | inl e ↦ omega (arith, new_length x e, c_is.distance, s.finds.light c_is.from c_is.reached, heavier)
        | inr ne ↦ omega (arith, same_length x (was_found x h ne), s.finds.light x (was_found x h ne), heavier)
      ];
      parents = λ x e h. elim (cases_eq x c.node) [
        | inl same ↦ parent_new x e same h
        | inr ne ↦ parent_old x e ne (sym (parent_there t c.node (pos c.distance) c.edge low x ne) ∙ h)
      ];
      back = λ x h. elim (cases_eq x c.node) [
        | inl same ↦ back_new x same
        | inr ne ↦
            let way = s.finds.back x (was_found x h ne) in
            (way.0, way_kept way.0 x t.source (was_found x h ne) way.1, omega (arith, way.2, one_more))
      ];
    }
      where
        own_parent : parent_at found c.node ≡ Some c.edge
        own_parent = parent_here t c.node (pos c.distance) c.edge low not_source

        same_edge : (e : ℕ) → Some c.edge ≡ Some e → c.edge ≡ e
        same_edge e h = cc

        parent_new : (x e : ℕ) → x ≡ c.node → parent_at found x ≡ Some e → IsNearer g found x e
        parent_new x e same h =
            let edge_is : c.edge ≡ e = same_edge e (sym own_parent ∙ ap (parent_at found) (sym same) ∙ h) in
            record {
              from = c_is.from;
              leads = subst (λ k. Leads g k c_is.from x) edge_is (subst (λ z. Leads g c.edge c_is.from z) (sym same) c_is.leads);
              reached = kept c_is.from c_is.reached;
              distance = omega (arith, new_length x same, c_is.distance, same_length c_is.from c_is.reached, ap (edge_weight g) edge_is);
            }

        parent_old : (x e : ℕ) → x ≢ c.node → parent_at t x ≡ Some e → IsNearer g found x e
        parent_old x e ne h = nearer x e (let known = parent_reached t x e h in known.1) (s.finds.parents x e h)

        back_new : (x : ℕ) → x ≡ c.node → (es : List ℕ) × IsWayBack g found x es t.source × (length es < reached_count found)
        back_new x same =
            let way = s.finds.back c_is.from c_is.reached in (
              c.edge ∷ way.0,
              (
                c_is.from,
                ap (parent_at found) same ∙ own_parent,
                subst (λ z. Leads g c.edge c_is.from z) (sym same) c_is.leads,
                way_kept way.0 c_is.from t.source c_is.reached way.1,
              ),
              omega (arith, way.2, one_more),
            )

    -- a new node with its least candidate is found, and none of its edges is spread yet
    pub Spreads-found : Spreads g found rest c.node []
    Spreads-found = record {
      finds = Finds-found;
      waiting = record {
        candidates = All-weaker (IsCandidate g t) (IsCandidate g found) still rest (rest_all (IsCandidate g t) s.waiting.candidates);
        order = λ x h. elim (cases_eq x c.node) [
          | inl e ↦ subst (λ n. All (λ b. n ≤ b.distance) rest) (sym (new_length x e)) least
          | inr ne ↦ subst (λ n. All (λ b. n ≤ b.distance) rest) (sym (same_length x (was_found x h ne)))
              (rest_all (λ b. length_to t x ≤ b.distance) (s.waiting.order x (was_found x h ne)))
        ];
      };
      here = reached_here t c.node (pos c.distance) c.edge low;
      latest = λ x h. elim (cases_eq x c.node) [
        | inl e ↦ omega (arith, ap (length_to found) e)
        | inr ne ↦ (let before : length_to t x ≤ c.distance = taken (λ b. length_to t x ≤ b.distance) (s.waiting.order x (was_found x h ne)) in omega
            (arith, same_length x (was_found x h ne), new_length c.node refl))
      ];
      frontier = λ v e h but u l fresh. elim (cases_eq v c.node) [
        | inl same ↦ (let none = but same in absurd (omega (arith, none.1)))
        | inr ne ↦ waits v e u (was_found v h ne) l fresh
      ];
    }
      where
        still : (b : Candidate) → IsCandidate g t b → IsCandidate g found b
        still b is = grind (arith, kept, same_length, is.from, is.reached, is.leads, is.distance)

        not_new : (u : ℕ) → is_reached found u ≡ false → u ≢ c.node
        not_new u fresh e = false≢true (sym fresh ∙ ap (is_reached found) e ∙ reached_here t c.node (pos c.distance) c.edge low)

        waits : (v e u : ℕ) → is_reached t v ≡ true → Leads g e v u → is_reached found u ≡ false → Contains rest (candidate_over g found v e u)
        waits v e u h l fresh = grind (arith, left, not_new, reached_there, low, same_length, s.frontier)

-- one edge of the latest node more
module _ {g : Graph} {t : Routes} {heap : List Candidate} {node e u : ℕ} {done : List ℕ} (s : Spreads g t heap node done) (l : Leads g e node u) where
  only : (z : ℕ) → Leads g e node z → z ≡ u
  only z lz = other_only g e node z lz ∙ sym (other_only g e node u l)

  -- it leads to a node found already
  pub Spreads-known : is_reached t u ≡ true → Spreads g t heap node (done ++ e ∷ [])
  Spreads-known found = record {
    finds = s.finds;
    waiting = s.waiting;
    here = s.here;
    latest = s.latest;
    frontier = λ v k h but z lz fresh. elim (cases_eq v node) [
      | inr ne ↦ s.frontier v k h (λ same. absurd (ne same)) z lz fresh
      | inl same ↦ elim (Contains-push_cases done e k (but same)) [
        | inl old ↦ s.frontier v k h (λ _. old) z lz fresh
        | inr this ↦ absurd (false≢true (sym fresh ∙ ap (is_reached t)
            (only z (subst (λ j. Leads g j node z) (sym this) (subst (λ n. Leads g k n z) same lz))) ∙ found))
      ]
    ];
  }

  -- it gives a candidate
  pub Spreads-more : (new : List Candidate) → IsPermutation (candidate_over g t node e u ∷ heap) new → Spreads g t new node (done ++ e ∷ [])
  Spreads-more new perm = record {
    finds = s.finds;
    waiting = record {
      candidates = added (IsCandidate g t) (record { from = node; reached = s.here; leads = l; distance = refl }) s.waiting.candidates;
      order = λ x h. added (λ b. length_to t x ≤ b.distance) (omega (arith, s.latest x h)) (s.waiting.order x h);
    };
    here = s.here;
    latest = s.latest;
    frontier = λ v k h but z lz fresh. elim (cases_eq v node) [
      | inr ne ↦ kept_in (candidate_over g t v k z) (s.frontier v k h (λ same. absurd (ne same)) z lz fresh)
      | inl same ↦ elim (Contains-push_cases done e k (but same)) [
        | inl old ↦ kept_in (candidate_over g t v k z) (s.frontier v k h (λ _. old) z lz fresh)
        | inr this ↦ latest_one v k z same this lz
      ]
    ];
  }
    where
      added : (P : Candidate → Type 0) → P (candidate_over g t node e u) → All P heap → All P new
      added P p h = All-permutation P (candidate_over g t node e u ∷ heap) new perm (All-cons P (candidate_over g t node e u) heap p h)

      kept_in : (x : Candidate) → Contains heap x → Contains new x
      kept_in x h = Contains-permutation (candidate_over g t node e u ∷ heap) new x perm (suc h.0, omega (arith, h.1), h.2)

      latest_one : (v k z : ℕ) → v ≡ node → e ≡ k → Leads g k v z → Contains new (candidate_over g t v k z)
      latest_one v k z same this lz =
          let zu : z ≡ u = only z (subst (λ j. Leads g j node z) (sym this) (subst (λ n. Leads g k n z) same lz)) in
          let base : Contains new (candidate_over g t node e u) = Contains-permutation (candidate_over g t node e u ∷ heap) new
          (candidate_over g t node e u) perm (0, omega arith, refl) in
          let by_node : Contains new (candidate_over g t node e z) = subst (λ y. Contains new (candidate_over g t node e y)) (sym zu) base in
          let by_edge : Contains new (candidate_over g t node k z) = subst (λ j. Contains new (candidate_over g t node j z)) this by_node in
          subst (λ n. Contains new (candidate_over g t n k z)) (sym same) by_edge

-- all edges of the latest node are spread
module _ {g : Graph} {t : Routes} {heap : List Candidate} {node : ℕ} {done : List ℕ} (s : Spreads g t heap node done) where
  pub Searches-spread : ((e u : ℕ) → Leads g e node u → Contains done e) → Searches g t heap
  Searches-spread all = record {
    finds = s.finds;
    waiting = s.waiting;
    frontier = λ v e h u l fresh. s.frontier v e h (λ same. all e u (subst (λ z. Leads g e z u) same l)) u l fresh;
  }
