-- Labels of the orbits of the table of `phi` are labels of the faces.
use Rattle.std.proofs.Common.{◌≡◌, ℕ, zero, suc, ◌+◌, ◌<◌, ◌≤◌, cond, List, refl, sym, ◌∙◌, ap, arith, length, get_or}
use Rattle.std.specs.List.{range_with_len}
use Rattle.std.proofs.lemmas.List.Sums.{count_by-le-length}
use Rattle.std.proofs.lemmas.List.FromFn.{length-range_with_len, get_or-range_with_len}
use Rattle.sg_base.proofs.SumLaws.{sum_by-same}
use Rattle.sg_model.specs.Ising.{Ising}
use Rattle.sg_model.specs.Rotation.{dart_count}
use Rattle.sg_model.specs.WellFormed.{IsInstance}
use Rattle.sg_faces.specs.Orbits.{after_steps, SameOrbit, is_least_of_orbit, orbits_before, IsOneToOne}
use Rattle.sg_faces.specs.Faces.{bare_count, phi, is_least, faces_before, Labelling, SameFace, IsFaceLabels}
use Rattle.sg_faces.specs.Tables.{table_value, IsMove, is_least_of, least_before, IsOrbitLabels, IsPhiTable}
use Rattle.sg_faces.proofs.PhiPermutes.{phi_one_to_one}

-- two maps that agree below k have the same orbits there
module _ (f g : ℕ → ℕ) (k : ℕ) (one : IsOneToOne g k) (same : (d : ℕ) → d < k → f d ≡ g d) where
  -- a map that agrees with a one-to-one map below k is one
  pub one_to_one_same : IsOneToOne f k
  one_to_one_same = grind arith

  steps_in : (j d : ℕ) → d < k → after_steps g j d < k
  steps_in zero d l = l
  steps_in (suc j) d l = one.below (after_steps g j d) (steps_in j d l)

  -- and leads to the same after each number of steps
  pub after_steps_same : (j d : ℕ) → d < k → after_steps f j d ≡ after_steps g j d
  after_steps_same zero d l = refl
  after_steps_same (suc j) d l = ap f (after_steps_same j d l) ∙ same (after_steps g j d) (steps_in j d l)

  -- and has the same least numbers of orbits
  pub is_least_same : (d : ℕ) → d < k → is_least_of_orbit f k d ≡ is_least_of_orbit g k d
  is_least_same d l = simp (after_steps_same)

  -- and as many of them below each bound
  pub orbits_before_same : (n : ℕ) → n ≤ k → orbits_before f k n ≡ orbits_before g k n
  orbits_before_same n l = sum_by-same (λ d. cond (is_least_of_orbit f k d) 1 0) (λ d. cond (is_least_of_orbit g k d) 1 0) (range_with_len 0 n) each
    where
      at_number : (d : ℕ) → d < n → cond {A = ℕ} (is_least_of_orbit f k d) 1 0 ≡ cond (is_least_of_orbit g k d) 1 0
      at_number d b = ap (λ b. cond {A = ℕ} b 1 0) (is_least_same d (omega arith))

      each : (i x : ℕ) → i < length (range_with_len 0 n) → cond {A = ℕ} (is_least_of_orbit f k (get_or (range_with_len 0 n) i x)) 1 0 ≡ cond
          (is_least_of_orbit g k (get_or (range_with_len 0 n) i x)) 1 0
      each i x b = grind (arith, at_number, length-range_with_len, get_or-range_with_len)

-- there are no more orbits than places
pub orbits_few : (table labels : List ℕ) (count : ℕ) → IsOrbitLabels table labels count → count ≤ length table
orbits_few table labels count h = grind (arith, count_by-le-length, length-range_with_len)

-- a label is a face
pub label_below : (inst : Ising) (faces : Labelling) → IsFaceLabels inst faces → (d : ℕ) → d < dart_count inst → get_or faces.labels d 0 < faces.count
label_below inst faces labels d l = grind arith

module _ (inst : Ising) (good : IsInstance inst) (table : List ℕ) (is : IsPhiTable inst table) where
  at_dart : (d : ℕ) → d < length table → table_value table d ≡ phi inst d
  at_dart d l = is.entries d (omega (arith, is.lengths))

  one : IsOneToOne (phi inst) (length table)
  one = rw is.lengths (phi_one_to_one inst good)

  -- the table of `phi` leads from places to places, one-to-one
  pub phi_table_moves : IsMove table
  phi_table_moves = one_to_one_same (table_value table) (phi inst) (length table) one at_dart

  least_same : (d : ℕ) → d < dart_count inst → is_least_of table d ≡ is_least inst d
  least_same d l = grind (arith, is_least_same, one)

  counted : (n : ℕ) → n ≤ dart_count inst → least_before table n ≡ faces_before inst n
  counted n l = orbits_before_same (table_value table) (phi inst) (length table) one at_dart n (omega (arith, is.lengths))
      ∙ ap (λ k. orbits_before (phi inst) k n) is.lengths

  -- the labels of the orbits, and the spins without a bond counted beside them
  pub faces_from_orbits : (labels : List ℕ) (orbits count : ℕ) → IsOrbitLabels table labels orbits → count ≡ orbits + bare_count inst
      → IsFaceLabels inst (record { labels = labels; count = count })
  faces_from_orbits labels orbits count h counts = record {
    lengths = h.lengths ∙ is.lengths;
    below = λ d l. (let low : get_or labels d 0 < orbits = h.below d (omega (arith, is.lengths)) in omega (arith, low, all));
    same = λ d e l m. ((λ s. there d e l ((h.same d e (omega (arith, is.lengths)) (omega (arith, is.lengths))).0 s)), (λ s. back d e l m s));
    used = λ f l. (let u : (d : ℕ) × (d < length table) × (get_or labels d 0 ≡ f) = h.used f (omega (arith, l, all)) in
        (u.0, omega (arith, u.1, is.lengths), u.2));
    order = λ d l least. h.order d (omega (arith, is.lengths)) (least_same d l ∙ least) ∙ counted d (omega arith);
    counts = counts ∙ ap (λ f. f + bare_count inst) all;
  }
    where
      all : orbits ≡ faces_before inst (dart_count inst)
      all = h.counts ∙ ap (least_before table) is.lengths ∙ counted (dart_count inst) (omega arith)

      there : (d e : ℕ) → d < dart_count inst → SameOrbit (table_value table) d e → SameFace inst d e
      there d e l (j, s) = (j, sym (after_steps_same (table_value table) (phi inst) (length table) one at_dart j d (omega (arith, is.lengths))) ∙ s)

      back : (d e : ℕ) → d < dart_count inst → e < dart_count inst → SameFace inst d e → get_or labels d 0 ≡ get_or labels e 0
      back d e l m (j, s) = (h.same d e (omega (arith, is.lengths)) (omega (arith, is.lengths))).1
          (j, after_steps_same (table_value table) (phi inst) (length table) one at_dart j d (omega (arith, is.lengths)) ∙ s)
