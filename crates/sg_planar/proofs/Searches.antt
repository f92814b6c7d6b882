-- A search: one dart of a visit, one visit, and the whole.
use Rattle.std.proofs.Common.{⊎_elim, subst, inl, inr, ◌≡◌, ◌≢◌, ◌⊎◌, ℕ, ◌+◌, ◌/◌, ◌<◌, ◌≤◌, Bool, true, false, not, ◌&&◌, cond, List, [], ◌∷◌, ◌++◌, set, take, refl, sym, ◌∙◌, ap, arith, All, length, get_or}
use Rattle.std.proofs.lemmas.List.{length-set, length_push, get_or_push, get_or_append_left}
use Rattle.std.proofs.lemmas.List.Elements.{All-more, All-weaker}
use Rattle.std.proofs.lemmas.List.Sums.{sum_by-set}
use Rattle.std.proofs.lemmas.Bool.{cases_eq, cases_lt}
use Rattle.sg_base.specs.Sets.{IsMarked, Stands}
use Rattle.sg_base.proofs.MarkLaws.{marked_in, marked_here, marked_still, marked_or_here}
use Rattle.sg_model.specs.Ising.{Ising}
use Rattle.sg_model.specs.Rotation.{darts_of, dart_count, head_of, tail}
use Rattle.sg_model.specs.Connected.{JoinedBy, IsWalk, Reached}
use Rattle.sg_model.specs.WellFormed.{IsInstance}
use Rattle.sg_model.proofs.Rotations.{place_at}
use Rattle.sg_model.proofs.Paths.{reached_more, dart_of_step}
use Rattle.sg_planar.specs.Walk.{IsClosed, IsFoundFrom, IsWalked}
use Rattle.sg_planar.specs.Search.{unmarked_count, IsSeen, Visits, SearchedTo}

noted_push : (order : List ℕ) (y x : ℕ) → y ≡ x → Stands (order ++ y ∷ []) x
noted_push order y x e = (length order, omega (arith, length_push order y), get_or_push order y 0 (length order) refl ∙ e)

noted_still : (order : List ℕ) (y x : ℕ) → Stands order x → Stands (order ++ y ∷ []) x
noted_still order y x (k, l, e) = (k, omega (arith, l, length_push order y), get_or_append_left order (y ∷ []) 0 k l ∙ e)

-- one spin more is marked
pub one_marked : (marks : List Bool) (x : ℕ) → x < length marks → get_or marks x false ≡ false → unmarked_count (set marks x true) + 1 ≡ unmarked_count marks
one_marked marks x l free =
    let s : unmarked_count (set marks x true) + cond (not (get_or marks x false)) 1 0 ≡ unmarked_count marks + 0 =
    sum_by-set (λ z. cond (not z) 1 0) marks x true false l in
    let one : cond {A = ℕ} (not (get_or marks x false)) 1 0 ≡ 1 = ap (λ z. cond {A = ℕ} (not z) 1 0) free in
    omega arith

-- a spin that is not marked now was not before
pub free_before : (old now : List Bool) (x : ℕ) → ((y : ℕ) → IsMarked old y → IsMarked now y) → get_or now x false ≡ false → get_or old x false ≡ false
free_before old now x kept free = by_mark (get_or old x false) refl
  where
    by_mark : (b : Bool) → get_or old x false ≡ b → get_or old x false ≡ false
    by_mark true e = let w : false ≡ true = sym free ∙ kept x e in cc
    by_mark false e = e

-- what it says of a dart that it does not lead on
pub seen_or_new : (inside marked : Bool) → (inside && not marked) ≡ false → inside ≡ true → marked ≡ true
seen_or_new true true h e = refl
seen_or_new true false h e = sym h
seen_or_new false m h e = let w = e in cc

-- a bond of the set to a spin that is not marked: both conditions
pub leads_parts : (inside marked : Bool) → (inside && not marked) ≡ true → (inside ≡ true) × (marked ≡ false)
leads_parts true true h = let w = h in cc
leads_parts true false h = (refl, refl)
leads_parts false m h = let w = h in cc

module _ (inst : Ising) (bonds : ℕ → Bool) (spin : ℕ) where
  module _ (darts : List ℕ) (old now : List Bool) (before after : List ℕ) (i : ℕ) (l : i < length darts)
      (w : Visits inst bonds spin (take i darts) old now before after) where
    -- the dart is not of the set, or leads to a marked spin
    pub visits_same : IsSeen inst bonds now (get_or darts i 0) → Visits inst bonds spin (take (i + 1) darts) old now before after
    visits_same known = record {
      lengths = w.lengths;
      kept = w.kept;
      heads = All-more (IsSeen inst bonds now) darts i 0 l w.heads known;
      longer = w.longer;
      stays = w.stays;
      found = w.found;
      sound = w.sound;
      fresh = w.fresh;
      joined = w.joined;
      once = w.once;
      count = w.count;
    }

    -- the dart leads to a new spin
    module _ (to : ℕ) (to_is : to ≡ head_of inst (get_or darts i 0)) (to_in : to < length now) (free : get_or now to false ≡ false)
        (joins : JoinedBy inst bonds spin to) where
      still : (x : ℕ) → IsMarked now x → IsMarked (set now to true) x
      still x h = marked_still now to x to_in h

      -- each entry behind the old ones
      each : (P : ℕ → Type 0) → ((k : ℕ) → length before ≤ k → k < length after → P (get_or after k 0)) → P to → (k : ℕ) →
          length before ≤ k → k < length (after ++ to ∷ []) → P (get_or (after ++ to ∷ []) k 0)
      each P h here k b c = elim (cases_lt k (length after)) [
        | inl d ↦ subst P (sym (get_or_append_left after (to ∷ []) 0 k d)) (h k b d)
        | inr d ↦ let last : length after ≡ k = omega (arith, length_push after to) in subst P (sym (get_or_push after to 0 k last)) here
      ]

      -- one dart more of the set, to a spin that is not marked: it is marked and noted
      pub visits_new : Visits inst bonds spin (take (i + 1) darts) old (set now to true) before (after ++ to ∷ [])
      visits_new = record {
        lengths = length-set now to true ∙ w.lengths;
        kept = λ x h. still x (w.kept x h);
        heads = All-more (IsSeen inst bonds (set now to true)) darts i 0 l
            (All-weaker (IsSeen inst bonds now) (IsSeen inst bonds (set now to true)) (λ d h e. still (head_of inst d) (h e)) (take i darts) w.heads)
            (λ e. ap (λ y. get_or (set now to true) y false) (sym to_is) ∙ marked_here now to to_in);
        longer = omega (arith, length_push after to, w.longer);
        stays = λ k b. get_or_append_left after (to ∷ []) 0 k (omega (arith, w.longer)) ∙ w.stays k b;
        found = found';
        sound = each (IsMarked (set now to true)) (λ k b c. still (get_or after k 0) (w.sound k b c)) (marked_here now to to_in);
        fresh = each (λ x. get_or old x false ≡ false) w.fresh (free_before old now to w.kept free);
        joined = each (JoinedBy inst bonds spin) w.joined joins;
        once = once';
        count = omega (arith, one_marked now to to_in free, length_push after to, w.count);
      }
        where
          -- an old entry is marked, and the new one was not
          once' : (j k : ℕ) → length before ≤ j → j < k → k < length (after ++ to ∷ []) → get_or (after ++ to ∷ []) j 0 ≢ get_or (after ++ to ∷ []) k 0
          once' j k a b c e =
              let long : length (after ++ to ∷ []) ≡ length after + 1 = length_push after to in
              let first : get_or (after ++ to ∷ []) j 0 ≡ get_or after j 0 = get_or_append_left after (to ∷ []) 0 j (omega arith) in
              elim (cases_lt k (length after)) [
                | inl d ↦ w.once j k a b d (sym first ∙ e ∙ get_or_append_left after (to ∷ []) 0 k d)
                | inr d ↦
                    let same : get_or after j 0 ≡ to = sym first ∙ e ∙ get_or_push after to 0 k (omega arith) in
                    let w : false ≡ true = sym free ∙ ap (λ x. get_or now x false) (sym same) ∙ w.sound j a (omega arith) in cc
              ]

          found' : (x : ℕ) → IsMarked (set now to true) x → IsMarked old x ⊎ Stands (after ++ to ∷ []) x
          found' x h = ⊎_elim
              (λ (m : IsMarked now x). ⊎_elim (λ (o : IsMarked old x). inl o) (λ (c : Stands after x). inr (noted_still after to x c)) (w.found x m))
              (λ (e : x ≡ to). inr (noted_push after to x (sym e))) (marked_or_here now to x h)

module _ (inst : Ising) (good : IsInstance inst) (bonds : ℕ → Bool) (root : ℕ) (base : List Bool) where
  -- at the start the root alone is marked and noted
  pub search_start : root < length base → get_or base root false ≡ false → SearchedTo inst bonds root base (set base root true) (root ∷ []) 0
  search_start l free = record {
    lengths = length-set base root true;
    kept = λ x h. marked_still base root x l h;
    root_marked = marked_here base root l;
    sound = λ k b. only (IsMarked (set base root true)) k (omega arith) (marked_here base root l);
    fresh = λ k b. only (λ x. get_or base x false ≡ false) k (omega arith) free;
    reached = λ k b. only (Reached inst bonds root) k (omega arith) ([], refl);
    root_first = (omega arith, refl);
    found_from = λ k p b. absurd (omega arith);
    once = λ j k b c. absurd (omega arith);
    noted = λ x h. ⊎_elim (λ (m : IsMarked base x). inl m) (λ (e : x ≡ root). inr (0, omega arith, sym e)) (marked_or_here base root x h);
    done = λ k b. absurd (omega arith);
    count = omega (arith, one_marked base root l free);
    at_most = omega arith;
  }
    where
      only : (P : ℕ → Type 0) (k : ℕ) → k ≡ 0 → P root → P (get_or (root ∷ []) k 0)
      only P k e h = subst (λ j. P (get_or (root ∷ []) j 0)) (sym e) h

  -- the spins of the order are spins of the instance
  pub order_in : (marks : List Bool) (order : List ℕ) (next k : ℕ) → SearchedTo inst bonds root base marks order next → k < length order →
      get_or order k 0 < length base
  order_in marks order next k h l = omega (arith, marked_in marks (get_or order k 0) (h.sound k l), h.lengths)

  -- one spin more is visited
  pub search_more : (old now : List Bool) (before after : List ℕ) (next : ℕ) → next < length before → SearchedTo inst bonds root base old before next →
      Visits inst bonds (get_or before next 0) (darts_of inst (get_or before next 0)) old now before after → SearchedTo inst bonds root base now after
      (next + 1)
  search_more old now before after next l h v = record {
    lengths = v.lengths ∙ h.lengths;
    kept = λ x m. v.kept x (h.kept x m);
    root_marked = v.kept root h.root_marked;
    sound = both (IsMarked now) (λ k c. v.kept (get_or before k 0) (h.sound k c)) v.sound;
    fresh = both (λ x. get_or base x false ≡ false) h.fresh (λ k b c. free_before base old (get_or after k 0) h.kept (v.fresh k b c));
    reached = both (Reached inst bonds root) h.reached
        (λ k b c. reached_more inst bonds root (get_or before next 0) (get_or after k 0) (h.reached next l) (v.joined k b c));
    root_first = (omega (arith, h.root_first.0, v.longer), v.stays 0 h.root_first.0 ∙ h.root_first.1);
    found_from = found_from';
    noted = λ x m. ⊎_elim (λ (o : IsMarked old x). keep x (h.noted x o)) (λ (c : Stands after x). inr c) (v.found x m);
    once = once';
    done = done';
    count = omega (arith, v.count, h.count);
    at_most = omega (arith, v.longer);
  }
    where
      both : (P : ℕ → Type 0) → ((k : ℕ) → k < length before → P (get_or before k 0)) →
          ((k : ℕ) → length before ≤ k → k < length after → P (get_or after k 0)) → (k : ℕ) → k < length after → P (get_or after k 0)
      both P first second k b = elim (cases_lt k (length before)) [
        | inl c ↦ subst P (sym (v.stays k c)) (first k c)
        | inr c ↦ second k c b
      ]

      keep : (x : ℕ) → IsMarked base x ⊎ Stands before x → IsMarked base x ⊎ Stands after x
      keep x (inl m) = inl m
      keep x (inr (k, b, e)) = inr (k, omega (arith, b, v.longer), v.stays k b ∙ e)

      -- an old entry was marked before the visit, and a new one was not
      once' : (j k : ℕ) → j < k → k < length after → get_or after j 0 ≢ get_or after k 0
      once' j k b c e = elim (cases_lt j (length before)) [
        | inr new ↦ v.once j k new b c e
        | inl was ↦ by_place was (cases_lt k (length before))
      ]
        where
          by_place : j < length before → (k < length before) ⊎ (length before ≤ k) → ⊥
          by_place was (inl l) = h.once j k b l (sym (v.stays j was) ∙ e ∙ v.stays k l)
          by_place was (inr l) = let w : false ≡ true = sym (v.fresh k l c) ∙ ap (λ x. get_or old x false) (sym e ∙ v.stays j was) ∙ h.sound j was in cc

      found_from' : (k : ℕ) → 0 < k → k < length after → IsFoundFrom inst bonds after k
      found_from' k p b = elim (cases_lt k (length before)) [
        | inl c ↦ (let f : IsFoundFrom inst bonds before k = h.found_from k p c in (f.0, f.1, rw (v.stays f.0 (omega (arith, f.1)), v.stays k c) f.2))
        | inr c ↦ (next, omega arith, subst (λ x. JoinedBy inst bonds x (get_or after k 0)) (sym (v.stays next l)) (v.joined k c b))
      ]

      done' : (k : ℕ) → k < next + 1 → All (IsSeen inst bonds now) (darts_of inst (get_or after k 0))
      done' k b = subst (λ s. All (IsSeen inst bonds now) (darts_of inst s)) (sym (v.stays k (omega arith))) (elim (cases_eq k next) [
        | inl e ↦ subst (λ j. All (IsSeen inst bonds now) (darts_of inst (get_or before j 0))) (sym e) v.heads
        | inr ne ↦ All-weaker (IsSeen inst bonds old) (IsSeen inst bonds now) (λ d m e. v.kept (head_of inst d) (m e)) (darts_of inst (get_or before k 0))
            (h.done k (omega arith))
      ])

  -- when all spins of the order are visited, the walk is done
  pub search_done : (marks : List Bool) (order : List ℕ) (next : ℕ) → length order ≤ next → IsClosed inst bonds base →
      SearchedTo inst bonds root base marks order next → IsWalked inst bonds root base marks order
  search_done marks order next end closed h = record {
    lengths = h.lengths;
    kept = h.kept;
    root_marked = h.root_marked;
    noted = h.noted;
    marked = h.sound;
    fresh = h.fresh;
    reached = h.reached;
    root_first = h.root_first;
    found_from = h.found_from;
    once = h.once;
    closed = λ a b j m. ⊎_elim (λ (o : IsMarked base a). h.kept b (closed a b j o))
        (λ (n : Stands order a). step a b j (dart_of_step inst bonds a b j) n) (h.noted a m);
  }
    where
      step : (a b : ℕ) → JoinedBy inst bonds a b →
          ((d : ℕ) × (d < dart_count inst) × (tail inst d ≡ a) × (head_of inst d ≡ b) × (bonds (d / 2) ≡ true)) → Stands order a → IsMarked marks b
      step a b j (d, l, leaves, leads, inside) (k, kl, e) =
          let heads : All (IsSeen inst bonds marks) (darts_of inst a) =
          subst (λ s. All (IsSeen inst bonds marks) (darts_of inst s)) e (h.done k (omega (arith, kl))) in
          let place : (j : ℕ) × (j < length (darts_of inst a)) × (get_or (darts_of inst a) j 0 ≡ d) = place_at inst good a d l leaves in
          subst (IsMarked marks) (ap (head_of inst) place.2 ∙ leads) (heads place.0 0 place.1 (ap (λ x. bonds (x / 2)) place.2 ∙ inside))

-- marks that no bond of the set leaves hold what their spins reach
pub marked_along : (inst : Ising) (bonds : ℕ → Bool) (marks : List Bool) → IsClosed inst bonds marks → (a b : ℕ) → Reached inst bonds a b →
    IsMarked marks a → IsMarked marks b
marked_along inst bonds marks closed a b r m = along r.0 a r.1 m
  where
    along : (path : List ℕ) (x : ℕ) → IsWalk inst bonds x path b → IsMarked marks x → IsMarked marks b
    along [] x w h = subst (IsMarked marks) w h
    along (c ∷ cs) x w h = along cs c w.1 (closed x c w.0 h)
