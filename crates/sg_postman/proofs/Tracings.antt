-- The two steps of a tracing, and its end.
use Rattle.std.proofs.Common.{inl, inr, ◌≡◌, ◌≢◌, ◌⊎◌, ◌∙◌, sym, ap, ap₂, subst, refl, ℕ, ◌+◌, ◌-◌, ◌*◌, ◌%◌, ◌<◌, ◌≤◌, ◌==◌, eqb, eq-eqb, cond, false, List, [], ◌∷◌, ◌++◌, length, arith, length-set, pos}
use Rattle.std.proofs.lemmas.Bool.{cases_eq, false_from_ne_true, eqb-true}
use Rattle.std.proofs.lemmas.List.{get_or-set_same, get_or-set_other}
use Rattle.std.proofs.lemmas.List.Sums.{sum_by-cons}
use Rattle.sg_base.proofs.SumLaws.{sum_below-add, sum_below-same, sum_below-zero, sum_below_pick}
use Rattle.sg_graph.specs.Web.{Graph, IsWeb, edge_at, edge_count, ends_at, ends_on}
use Rattle.sg_graph.specs.Walk.{Leads, IsWebWalk, IsConnectedWeb}
use Rattle.sg_graph.specs.Incidence.{EndsAt}
use Rattle.sg_graph.specs.declared.web.Edge.{Edge}
use Rattle.sg_graph.proofs.Walks.{leads_other, turned, leads_low}
use Rattle.sg_postman.specs.declared.steps.Step.{Step}
use Rattle.sg_postman.specs.Tour.{AreSteps, end_of, uses_of}
use Rattle.sg_postman.specs.Tracing.{AreUsedUp, IsEulerTour, IsUsedUp, IsTracing, at_node, left_of, one_less, onward, open_ends}
use Rattle.sg_postman.proofs.ClosedWalks.{once_more}
use Rattle.sg_postman.proofs.Trails.{end-append, times-append, trail-append, trail-last}

-- one copy less of one edge, and all others as before
pub taken : (left : List ℕ) (e k : ℕ) → e < length left → 0 < left_of left e → left_of left k ≡ left_of (one_less left e) k + cond (eqb e k) 1 0
taken left e k l some = grind (arith, cases_eq e k, get_or-set_same left e (left_of left e - 1) 0 l, get_or-set_other left e k (left_of left e - 1) 0)

-- no edge gains a copy
pub one_less_low : (left : List ℕ) (e k : ℕ) → e < length left → 0 < left_of left e → left_of (one_less left e) k ≤ left_of left k
one_less_low left e k l some = omega (arith, taken left e k l some)

even_out : (o p t y j : ℕ) → o ≡ p + (t + y) → (o + t + j) % 2 ≡ 0 → (p + y + j) % 2 ≡ 0
even_out o p t y j e h = grind arith

even_back : (o t j u : ℕ) → j ≡ t → (o + t + j) % 2 ≡ 0 → (o + u + u) % 2 ≡ 0
even_back o t j u e h = grind arith

swapped : (m n : ℕ) → m + n ≡ n + m
swapped m n = omega arith

-- an edge ends at its two ends, and nowhere else
two_ends : (g : Graph) (e t y x : ℕ) → Leads g e t y → ends_at g x e ≡ at_node t x + at_node y x
two_ends g e t y x l = elim l.ways [
  | inl w ↦ rw (w.0, w.1) refl
  | inr w ↦ rw (w.0, w.1) (swapped (at_node y x) (at_node t x))
]

elsewhere : (y x : ℕ) → y ≢ x → at_node y x ≡ 0
elsewhere y x h = ap (λ b. cond {A = ℕ} b 1 0) (false_from_ne_true (eqb y x) (λ e. h (eqb-true y x e)))

-- where an edge has no end, it does not end
no_ends : (g : Graph) (x e : ℕ) → e < edge_count g → (ends_at g x e ≡ 0) ⊎ EndsAt g x e
no_ends g x e l = by (edge_at g e) refl
  where
    by : (edge : Edge) → edge_at g e ≡ edge → (ends_at g x e ≡ 0) ⊎ EndsAt g x e
    by edge is = elim (cases_eq edge.a x) [
      | inl a ↦ inr (l, inl (ap (λ w. w.a) is ∙ a))
      | inr na ↦ elim (cases_eq edge.b x) [
        | inl b ↦ inr (l, inr (ap (λ w. w.b) is ∙ b))
        | inr nb ↦ inl (ap (ends_on x) is ∙ ap₂ {A = ℕ} (λ m n. m + n) (elsewhere edge.a x na) (elsewhere edge.b x nb))
      ]
    ]

alone : (o t j : ℕ) → o ≡ 0 → t ≡ 1 → j ≡ 0 → (o + t + j) % 2 ≡ 0 → ⊥
alone o t j a b c h = grind arith

later : (s : Step) (ss : List Step) (e : ℕ) → eqb s.edge e ≡ false → 0 < uses_of e (s ∷ ss) → 0 < uses_of e ss
later s ss e none some =
    let cons : uses_of e (s ∷ ss) ≡ cond {A = ℕ} (eqb s.edge e) 1 0 + uses_of e ss = sum_by-cons (λ (r : Step). cond (r.edge == e) 1 0) s ss in
    let zero : cond {A = ℕ} (eqb s.edge e) 1 0 ≡ 0 = ap (λ b. cond {A = ℕ} b 1 0) none in
    omega (arith, cons, zero, some)

-- the ends of an edge are its ends
same_ends : (g : Graph) (e a b x y : ℕ) → Leads g e a b → Leads g e x y → (b ≡ x) ⊎ (b ≡ y)
same_ends g e a b x y l m = elim l.ways [
  | inl p ↦ elim m.ways [ inl q ↦ inr (sym p.1 ∙ q.1) | inr q ↦ inl (sym p.1 ∙ q.1) ]
  | inr p ↦ elim m.ways [ inl q ↦ inl (sym p.0 ∙ q.0) | inr q ↦ inr (sym p.0 ∙ q.0) ]
]

spent-less : (g : Graph) (old new : List ℕ) → ((k : ℕ) → left_of new k ≤ left_of old k) → (x : ℕ) (ss : List Step) → AreUsedUp g old x ss → AreUsedUp g new x ss
spent-less g old new less x [] h = tt
spent-less g old new less x (s ∷ ss) h = (λ e ends. omega (arith, less e, h.0 e ends), spent-less g old new less s.to ss h.1)

spent-append : (g : Graph) (left : List ℕ) (x : ℕ) (ss : List Step) (s : Step) → AreUsedUp g left x ss
    → IsUsedUp g left (end_of x ss) → AreUsedUp g left x (ss ++ s ∷ [])
spent-append g left x [] s h last = (last, tt)
spent-append g left x (r ∷ ss) s h last = (h.0, spent-append g left r.to ss s h.1 last)

module _ (g : Graph) (web : IsWeb g) (copies : ℕ → ℕ) where
  opened : (left : List ℕ) (x e : ℕ) → e < length left → 0 < left_of left e → length left ≡ edge_count g
      → open_ends g left x ≡ open_ends g (one_less left e) x + ends_at g x e
  opened left x e l some n =
      sum_below-same (λ k. left_of left k * ends_at g x k)
      (λ k. left_of (one_less left e) k * ends_at g x k + cond (eqb e k) (ends_at g x e) 0) (edge_count g) each
      ∙ sum_below-add (λ k. left_of (one_less left e) k * ends_at g x k) (λ k. cond (eqb e k) (ends_at g x e) 0) (edge_count g)
      ∙ ap (λ m. open_ends g (one_less left e) x + m) (sum_below_pick (ends_at g x e) e (edge_count g) (omega (arith, l, n)))
    where
      each : (k : ℕ) → k < edge_count g → left_of left k * ends_at g x k ≡ left_of (one_less left e) k * ends_at g x k + cond (eqb e k) (ends_at g x e) 0
      each k b =
          ap (λ n. n * ends_at g x k) (taken left e k l some)
          ∙ once_more (eqb e k) (left_of (one_less left e) k) (ends_at g x k) (ends_at g x e) (λ t. ap (ends_at g x) (eqb-true e k t))

  -- a step out along an edge of which a copy is left
  pub forward : (left : List ℕ) (out back : List Step) (e : ℕ) → IsTracing g copies left out back → EndsAt g (end_of 0 out) e → 0 < left_of left e
      → IsTracing g copies (one_less left e) (out ++ onward g out e ∷ []) back
  forward left out back e tracing ends some = record {
    count = length-set left e (left_of left e - 1) ∙ tracing.count;
    out_trail = trail-append g 0 out (onward g out e) tracing.out_trail leads;
    back_trail = tracing.back_trail;
    copies_are = λ k l. omega (arith, tracing.copies_are k l, taken left e k low some, times-append k out (onward g out e));
    even = λ x l.
        rw (end-append 0 out (onward g out e)) (even_out (open_ends g left x) (open_ends g (one_less left e) x)
        (at_node (end_of 0 out) x) (at_node (onward g out e).to x) (at_node (end_of 0 back) x)
        (opened left x e low some tracing.count
        ∙ ap (λ m. open_ends g (one_less left e) x + m) (two_ends g e (end_of 0 out) (onward g out e).to x leads)) (tracing.even x l));
    spent = spent-less g left (one_less left e) (λ k. omega (arith, taken left e k low some)) 0 back tracing.spent;
  }
    where
      leads : Leads g e (end_of 0 out) (onward g out e).to
      leads = leads_other g e (end_of 0 out) ends

      low : e < length left
      low = omega (arith, ends.0, tracing.count)

  trail_low : (x : ℕ) (ss : List Step) → x < g.nodes → AreSteps g x ss → end_of x ss < g.nodes
  trail_low x [] l t = l
  trail_low x (s ∷ ss) l t = trail_low s.to ss (leads_low g s.edge x s.to web t.0).1 t.1

  -- the trail out ends at a node
  pub stands_low : (left : List ℕ) (out back : List Step) → IsTracing g copies left out back → end_of 0 out < g.nodes
  stands_low left out back tracing = trail_low 0 out web.has_node tracing.out_trail

  -- where nothing is left, no end is open
  none_open : (left : List ℕ) (x : ℕ) → IsUsedUp g left x → open_ends g left x ≡ 0
  none_open left x spent = sum_below-zero (λ k. left_of left k * ends_at g x k) (edge_count g) each
    where
      nothing : (m n : ℕ) → (m ≡ 0) ⊎ (n ≡ 0) → m * n ≡ 0
      nothing m n none = grind (arith, none)

      each : (k : ℕ) → k < edge_count g → left_of left k * ends_at g x k ≡ 0
      each k b = elim (no_ends g x k b) [
        | inl none ↦ nothing (left_of left k) (ends_at g x k) (inr none)
        | inr ends ↦ nothing (left_of left k) (ends_at g x k) (inl (spent k ends))
      ]

  -- one is stuck only where the done trail stands
  pub stuck : (left : List ℕ) (out back : List Step) → IsTracing g copies left out back → end_of 0 out < g.nodes
      → IsUsedUp g left (end_of 0 out) → end_of 0 back ≡ end_of 0 out
  stuck left out back tracing low spent = elim (cases_eq (end_of 0 back) (end_of 0 out)) [
    | inl same ↦ same
    | inr other ↦
        absurd (alone (open_ends g left (end_of 0 out)) (at_node (end_of 0 out) (end_of 0 out)) (at_node (end_of 0 back) (end_of 0 out))
        (none_open left (end_of 0 out) spent) (ap (λ b. cond {A = ℕ} b 1 0) (eq-eqb (end_of 0 out) (end_of 0 out) refl))
        (elsewhere (end_of 0 back) (end_of 0 out) other) (tracing.even (end_of 0 out) low))
  ]

  -- a step back from a node at which no copy is left
  pub backward : (left : List ℕ) (out back : List Step) (s : Step) → IsTracing g copies left (out ++ s ∷ []) back → s.to < g.nodes → IsUsedUp g left s.to
      → IsTracing g copies left out (back ++ record { edge = s.edge; to = end_of 0 out } ∷ [])
  backward left out back s tracing low spent =
      let here : end_of 0 (out ++ s ∷ []) ≡ s.to = end-append 0 out s in
      let last = trail-last g 0 out s tracing.out_trail in
      let joined : end_of 0 back ≡ s.to = stuck left (out ++ s ∷ []) back tracing (rw here low) (rw here spent) ∙ here in
      let r : Step = record { edge = s.edge; to = end_of 0 out } in
      record {
        count = tracing.count;
        out_trail = last.0;
        back_trail = trail-append g 0 back r tracing.back_trail (rw joined (turned g s.edge (end_of 0 out) s.to last.1));
        copies_are = λ k l. omega (arith, tracing.copies_are k l, times-append k out s, times-append k back r);
        even = λ x l.
            rw (end-append 0 back r) (even_back (open_ends g left x) (at_node s.to x) (at_node (end_of 0 back) x) (at_node (end_of 0 out) x)
            (ap (λ y. at_node y x) joined) (rw here at (tracing.even x l)));
        spent = spent-append g left 0 back r tracing.spent (rw joined spent);
      }

  -- the trail back from a step with nothing left at its end
  pub backed : (left : List ℕ) (out old back more : List Step) (s : Step) → IsTracing g copies left old back → old ≡ out ++ s ∷ []
      → more ≡ back ++ record { edge = s.edge; to = end_of 0 out } ∷ []
      → IsUsedUp g left (end_of 0 old) → IsTracing g copies left out more
  backed left out old back more s tracing e m spent =
      let here : end_of 0 old ≡ s.to = ap (end_of 0) e ∙ end-append 0 out s in
      rw m (backward left out back s (subst (λ o. IsTracing g copies left o back) e tracing)
      (rw (← here) (stands_low left old back tracing)) (subst (IsUsedUp g left) here spent))

  first_spent : (left : List ℕ) (x : ℕ) (ss : List Step) → AreUsedUp g left x ss → IsUsedUp g left (end_of x ss) → IsUsedUp g left x
  first_spent left x [] h last = last
  first_spent left x (s ∷ ss) h last = h.0

  -- what an edge of the trail leads to is spent
  onto_spent : (left : List ℕ) (e a b x : ℕ) (ss : List Step) → Leads g e a b → AreSteps g x ss → AreUsedUp g left x ss
      → IsUsedUp g left (end_of x ss) → 0 < uses_of e ss → IsUsedUp g left b
  onto_spent left e a b x [] l t h last some = absurd (omega (arith, some))
  onto_spent left e a b x (s ∷ ss) l t h last some = elim (cases_eq s.edge e) [
    | inl here ↦ elim (same_ends g e a b x s.to l (subst (λ k. Leads g k x s.to) here t.0)) [
      | inl first ↦ subst (IsUsedUp g left) (sym first) h.0
      | inr second ↦ subst (IsUsedUp g left) (sym second) (first_spent left s.to ss h.1 last)
    ]
    | inr other ↦ onto_spent left e a b s.to ss l t.1 h.1 last (later s ss e (false_from_ne_true (eqb s.edge e) (λ h. other (eqb-true s.edge e h))) some)
  ]

  -- back at node 0, with no copy left there: an Euler tour
  pub finished : (left : List ℕ) (back : List Step) → IsConnectedWeb g → ((e : ℕ) → e < edge_count g → 0 < copies e)
      → IsTracing g copies left [] back → IsUsedUp g left 0 → IsEulerTour g copies back
  finished left back connected some tracing spent = record {
    trail = tracing.back_trail;
    closed = closed;
    each = λ e l.
        let edge = web.joined e (record { a = 0; b = 0; w = pos 0 }) l in
        omega (arith, tracing.copies_are e l, all_spent (edge_at g e).a edge.first_end e (l, inl refl));
  }
    where
      closed : end_of 0 back ≡ 0
      closed = stuck left [] back tracing web.has_node spent

      reach : (x : ℕ) (es : List ℕ) (y : ℕ) → IsUsedUp g left x → IsWebWalk g x es y → IsUsedUp g left y
      reach x [] y here w = subst (IsUsedUp g left) w here
      reach x (e ∷ es) y here w =
          let out = here e (w.1.below, elim w.1.ways [ inl p ↦ inl p.0 | inr p ↦ inr p.1 ]) in
          let stands : 0 < uses_of e back = omega (arith, tracing.copies_are e w.1.below, out, some e w.1.below) in
          reach w.0 es y (onto_spent left e x w.0 0 back w.1 tracing.back_trail tracing.spent (rw closed spent) stands) w.2

      all_spent : (x : ℕ) → x < g.nodes → IsUsedUp g left x
      all_spent x l = let r = connected x l in reach 0 r.0 x spent r.1
