-- A walk along one orbit that gives labels, until it meets one; and the labels of all orbits, in the order of their least places.
use Rattle.std.proofs.Common.{inl, inr, ◌≡◌, ◌≢◌, ℕ, zero, suc, ◌+◌, ◌<◌, ◌≤◌, sum_by, Bool, true, false, cond, eqb, List, set, refl, sym, ◌∙◌, ap, arith, length, get_or, count_by}
use Rattle.std.specs.List.{range_with_len}
use Rattle.std.proofs.lemmas.Bool.{cases_eq, cases_lt, false_from_ne_true}
use Rattle.std.proofs.lemmas.List.{map-id, length-set, get_or-set_same, get_or-set_other}
use Rattle.std.proofs.lemmas.List.FromFn.{length-range_with_len, sum_by-map-range_with_len_more}
use Rattle.std.proofs.lemmas.List.Sums.{sum_by-set, count_by-le-length}
use Rattle.sg_base.proofs.DealtSums.{sum_by_range}
use Rattle.sg_base.proofs.Ranks.{rank, at_rank, rank_less}
use Rattle.sg_faces.specs.Orbits.{SameOrbit}
use Rattle.sg_faces.specs.Tables.{table_value, IsMove, moves, is_least_of, least_before, unlabelled, HasLabel, Root, LabelsOrbits, IsOrbitLabels}
use Rattle.sg_faces.proofs.Cycles.{least_means, orbit_symmetric, orbit_transitive, steps_below, way_back}

abbrev pub left_over : List ℕ → ℕ
left_over labels = count_by (λ x. eqb x unlabelled) labels

-- after some moves from the start, each place of which has the new label
pub record Walking (table old labels : List ℕ) (start label at : ℕ) : Type 0 where
  pub taken : ℕ
  pub at_is : moves table taken start ≡ at
  pub at_below : at < length table
  pub lengths : length labels ≡ length table
  pub kept : (x : ℕ) → HasLabel old x → get_or labels x 0 ≡ get_or old x 0
  pub fresh : (x : ℕ) → x < length table → HasLabel labels x → get_or old x 0 ≡ unlabelled → (i : ℕ) × (i < taken) × (moves table i start ≡ x)
  pub given : (i : ℕ) → i < taken → get_or labels (moves table i start) 0 ≡ label

module _ (table old labels : List ℕ) (start label at : ℕ) (move : IsMove table) (w : Walking table old labels start label at)
    (free : get_or labels at 0 ≡ unlabelled) (room : label < unlabelled) where
  in_labels : at < length labels
  in_labels = omega (arith, w.at_below, w.lengths)

  old_free : get_or old at 0 ≡ unlabelled
  old_free = elim (cases_eq (get_or old at 0) unlabelled) [ inl e ↦ e | inr ne ↦ absurd (ne (sym (w.kept at ne) ∙ free)) ]

  other : (x : ℕ) → x ≢ at → get_or (set labels at label) x 0 ≡ get_or labels x 0
  other x ne = get_or-set_other labels at x label 0 ne

  -- one place more has a label
  pub one_less : left_over (set labels at label) + 1 ≡ left_over labels
  one_less = grind (arith, sum_by-set)

  -- the place has the label, and the walk goes on to the next
  pub walking_more : Walking table old (set labels at label) start label (get_or table at 0)
  walking_more = record {
    taken = suc w.taken;
    at_is = ap (λ x. get_or table x 0) w.at_is;
    at_below = move.below at w.at_below;
    lengths = length-set labels at label ∙ w.lengths;
    kept = λ x h. other x (λ (e : x ≡ at). h (ap (λ y. get_or old y 0) e ∙ old_free)) ∙ w.kept x h;
    fresh = fresh';
    given = given';
  }
    where
      fresh' : (x : ℕ) → x < length table → HasLabel (set labels at label) x → get_or old x 0 ≡ unlabelled →
          (i : ℕ) × (i < suc w.taken) × (moves table i start ≡ x)
      fresh' x b h u = grind (arith, other)

      given' : (i : ℕ) → i < suc w.taken → get_or (set labels at label) (moves table i start) 0 ≡ label
      given' i b = elim (cases_eq (moves table i start) at) [
        | inl e ↦ ap (λ x. get_or (set labels at label) x 0) e ∙ get_or-set_same labels at label 0 in_labels
        | inr ne ↦ elim (cases_eq i w.taken) [
          | inl s ↦ absurd (ne (ap (λ j. moves table j start) s ∙ w.at_is))
          | inr d ↦ other (moves table i start) ne ∙ w.given i (omega arith)
        ]
      ]

module _ (table labels : List ℕ) (limit : ℕ) (move : IsMove table) (labelled : LabelsOrbits table labels limit) where
  -- a label goes on along the orbit
  onward_all : (d e : ℕ) → d < length table → HasLabel labels d → SameOrbit (table_value table) d e → get_or labels e 0 ≡ get_or labels d 0
  onward_all d e l has (j, is) = ap (λ x. get_or labels x 0) (sym is) ∙ on j
    where
      on : (j : ℕ) → get_or labels (moves table j d) 0 ≡ get_or labels d 0
      on zero = refl
      on (suc j) = labelled.onward (moves table j d) (steps_below (table_value table) (length table) move j d l) (λ z. has (sym (on j) ∙ z)) ∙ on j

  -- the first place without a label is the least of its orbit
  free_is_least : limit < length table → get_or labels limit 0 ≡ unlabelled → is_least_of table limit ≡ true
  free_is_least l free = (least_means (table_value table) (length table) move limit l).1 (λ e s. elim (cases_lt e limit) [
    | inl b ↦ absurd (labelled.earlier e b (sym (onward_all e limit (omega arith) (labelled.earlier e b)
        (orbit_symmetric (table_value table) (length table) move limit e l s)) ∙ free))
    | inr b ↦ b
  ])

  -- and one with a label is not
  labelled_not_least : limit < length table → HasLabel labels limit → is_least_of table limit ≡ false
  labelled_not_least l has =
      let r : Root table limit limit (get_or labels limit 0) = labelled.root limit l has in
      false_from_ne_true (is_least_of table limit) (λ t.
      (let up : limit ≤ r.first = ((least_means (table_value table) (length table) move limit l).0 t) r.first
      (orbit_symmetric (table_value table) (length table) move r.first limit r.first_below r.same) in
      let never : ⊥ = omega (arith, up, r.early) in never))

-- the walk meets a label of its own
module _ (table old labels : List ℕ) (start label at : ℕ) (move : IsMove table) (labelled : LabelsOrbits table old start)
    (l : start < length table) (free : get_or old start 0 ≡ unlabelled) (room : label < unlabelled)
    (w : Walking table old labels start label at) (done : HasLabel labels at) where
  own_place : (i : ℕ) × (i < w.taken) × (moves table i start ≡ at)
  own_place = w.fresh at w.at_below done (elim (cases_eq (get_or old at 0) unlabelled) [
    | inl e ↦ e
    | inr has ↦
        let back : SameOrbit (table_value table) (moves table w.taken start) start =
        way_back (table_value table) (length table) move w.taken start l in
        absurd (has (sym (onward_all table old start move labelled at start w.at_below has
        (back.0, ap (moves table back.0) (sym w.at_is) ∙ back.1)) ∙ free))
  ])

  at_label : get_or labels at 0 ≡ label
  at_label = ap (λ x. get_or labels x 0) (sym own_place.2) ∙ w.given own_place.0 own_place.1

  -- one orbit more has its label
  pub labelled_more : label ≡ least_before table start → LabelsOrbits table labels (start + 1)
  labelled_more ranked = record { lengths = w.lengths; onward = onward'; root = root'; earlier = earlier' }
    where
      onward' : (d : ℕ) → d < length table → HasLabel labels d → get_or labels (get_or table d 0) 0 ≡ get_or labels d 0
      onward' d b has = elim (cases_eq (get_or old d 0) unlabelled) [
        | inl u ↦ by_place (w.fresh d b has u)
        | inr h ↦ w.kept (get_or table d 0) (λ z. h (sym (labelled.onward d b h) ∙ z)) ∙ labelled.onward d b h ∙ sym (w.kept d h)
      ]
        where
          next : (i : ℕ) → i < w.taken → get_or labels (moves table (suc i) start) 0 ≡ label
          next i c = elim (cases_eq (suc i) w.taken) [
            | inl last ↦ ap (λ x. get_or labels x 0) (ap (λ j. moves table j start) last ∙ w.at_is) ∙ at_label
            | inr inner ↦ w.given (suc i) (omega arith)
          ]

          by_place : ((i : ℕ) × (i < w.taken) × (moves table i start ≡ d)) → get_or labels (get_or table d 0) 0 ≡ get_or labels d 0
          by_place (i, c, m) =
              ap (λ x. get_or labels (get_or table x 0) 0) (sym m) ∙ next i c ∙ sym (w.given i c) ∙ ap (λ x. get_or labels x 0) m

      root' : (d : ℕ) → d < length table → HasLabel labels d → Root table (start + 1) d (get_or labels d 0)
      root' d b has = elim (cases_eq (get_or old d 0) unlabelled) [
        | inl u ↦ by_place (w.fresh d b has u)
        | inr h ↦ (let r : Root table start d (get_or old d 0) = labelled.root d b h in record {
          first = r.first;
          first_below = r.first_below;
          early = omega (arith, r.early);
          least = r.least;
          same = r.same;
          rank = w.kept d h ∙ r.rank;
        })
      ]
        where
          by_place : ((i : ℕ) × (i < w.taken) × (moves table i start ≡ d)) → Root table (start + 1) d (get_or labels d 0)
          by_place (i, c, m) = record {
            first = start;
            first_below = l;
            early = omega arith;
            least = free_is_least table old start move labelled l free;
            same = (i, m);
            rank = ap (λ x. get_or labels x 0) (sym m) ∙ w.given i c ∙ ranked;
          }

      earlier' : (d : ℕ) → d < start + 1 → HasLabel labels d
      earlier' d b z = elim (cases_eq d start) [
        | inl s ↦
            let has : get_or labels start 0 ≡ label = w.given 0 (omega (arith, own_place.1)) in
            omega (arith, has, ap (λ x. get_or labels x 0) s, z)
        | inr ne ↦
            let h : HasLabel old d = labelled.earlier d (omega arith) in
            h (sym (w.kept d h) ∙ z)
      ]

-- a place that has a label is passed over
pub later_limit : (table labels : List ℕ) (at : ℕ) → LabelsOrbits table labels at → HasLabel labels at → LabelsOrbits table labels (at + 1)
later_limit table labels at h has = grind arith

-- at the end all orbits have their labels
module _ (table labels : List ℕ) (move : IsMove table) (h : LabelsOrbits table labels (length table)) where
  root_of : (d : ℕ) → d < length table → Root table (length table) d (get_or labels d 0)
  root_of d l = h.root d l (h.earlier d l)

  -- the count of least places is their rank
  least_less : (a b : ℕ) → is_least_of table a ≡ true → a < b → least_before table a < least_before table b
  least_less a b t l = grind (arith, sum_by_range, rank_less)

  -- least places of one rank are one
  one_rank : (a b : ℕ) → is_least_of table a ≡ true → is_least_of table b ≡ true → least_before table a ≡ least_before table b → a ≡ b
  one_rank a b s t e = grind (arith, least_less)

  in_order : (d : ℕ) → d < length table → is_least_of table d ≡ true → get_or labels d 0 ≡ least_before table d
  in_order d l least =
      let r : Root table (length table) d (get_or labels d 0) = root_of d l in
      let up : d ≤ r.first = ((least_means (table_value table) (length table) move d l).0 least) r.first
      (orbit_symmetric (table_value table) (length table) move r.first d r.first_below r.same) in
      let down : r.first ≤ d = ((least_means (table_value table) (length table) move r.first r.first_below).0 r.least) d r.same in
      r.rank ∙ ap (least_before table) (let same : r.first ≡ d = omega (arith, up, down) in same)

  pub all_labelled : (count : ℕ) → count ≡ least_before table (length table) → IsOrbitLabels table labels count
  all_labelled count counted = record {
    lengths = h.lengths;
    below = λ d l. (let r : Root table (length table) d (get_or labels d 0) = root_of d l in
        omega (arith, counted, r.rank, least_less r.first (length table) r.least r.first_below));
    same = λ d e l m. (one_orbit d e l m, λ s. sym (onward_all table labels (length table) move h d e l (h.earlier d l) s));
    used = λ g b. used g (at_rank (is_least_of table) g (length table)
        (omega (arith, b, counted, sum_by_range (λ k. cond (is_least_of table k) 1 0) (length table))));
    order = in_order;
    counts = counted;
  }
    where
      one_orbit : (d e : ℕ) → d < length table → e < length table → get_or labels d 0 ≡ get_or labels e 0 → SameOrbit (table_value table) d e
      one_orbit d e l m same =
          let r : Root table (length table) d (get_or labels d 0) = root_of d l in
          let q : Root table (length table) e (get_or labels e 0) = root_of e m in
          let first : r.first ≡ q.first = one_rank r.first q.first r.least q.least (sym r.rank ∙ same ∙ q.rank) in
          let back : SameOrbit (table_value table) d r.first = orbit_symmetric (table_value table) (length table) move r.first d r.first_below r.same in
          orbit_transitive (table_value table) d q.first e (back.0, back.1 ∙ first) q.same

      used : (g : ℕ) → ((r : ℕ) × (r < length table) × (is_least_of table r ≡ true) × (rank (is_least_of table) r ≡ g)) →
          (d : ℕ) × (d < length table) × (get_or labels d 0 ≡ g)
      used g (r, l, t, e) = (r, l, in_order r l t ∙ sum_by_range (λ k. cond (is_least_of table k) 1 0) r ∙ e)

-- a count over one number more
pub count_range_more : (p : ℕ → Bool) (n : ℕ) → count_by p (range_with_len 0 (n + 1)) ≡ count_by p (range_with_len 0 n) + cond (p n) 1 0
count_range_more p n =
    ap (sum_by (λ x. cond (p x) 1 0)) (sym (map-id (range_with_len 0 (n + 1))))
    ∙ sum_by-map-range_with_len_more (λ x. cond (p x) 1 0) (λ x. x) 0 n n (omega arith)
    ∙ ap (λ xs. sum_by (λ x. cond (p x) 1 0) xs + cond (p n) 1 0) (map-id (range_with_len 0 n))

-- there are no more labels than places seen
pub count_small : (table : List ℕ) (count at : ℕ) → count ≡ least_before table at → count ≤ at
count_small table count at counted = grind (arith, count_by-le-length, length-range_with_len)

module _ (table labels : List ℕ) (count at : ℕ) (move : IsMove table) (l : at < length table) (h : LabelsOrbits table labels at)
    (counted : count ≡ least_before table at) where
  -- a place without a label begins a new orbit
  pub count_new : get_or labels at 0 ≡ unlabelled → count + 1 ≡ least_before table (at + 1)
  count_new free =
      omega (arith, counted, count_range_more (is_least_of table) at, ap (λ b. cond {A = ℕ} b 1 0) (free_is_least table labels at move h l free))

  -- one with a label does not
  pub count_old : HasLabel labels at → count ≡ least_before table (at + 1)
  count_old has =
      omega (arith, counted, count_range_more (is_least_of table) at, ap (λ b. cond {A = ℕ} b 1 0) (labelled_not_least table labels at move h l has))
