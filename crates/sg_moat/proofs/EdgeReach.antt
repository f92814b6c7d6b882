-- What the sets of a family reach along an edge, taken as twice its weight of unit steps: the doubled distance to a point on
-- it is the less of the two ways.
use Rattle.std.proofs.Common.{inl, inr, ◌≡◌, ℕ, ◌+◌, ◌-◌, ◌*◌, ◌<◌, ◌≤◌, suc, min, fold, true, eqb, List, [], ◌∷◌, length, refl, ap, arith}
use Rattle.std.proofs.lemmas.Bool.{cases_lt, eqb-true, false≢true, or_cases, or_right}
use Rattle.sg_arena.specs.Family.{Family, Holds, dual_of, has_leaf, leaves_of}
use Rattle.sg_arena.specs.Sets.{inner_of}
use Rattle.sg_arena.proofs.InnerDuals.{has_head}
use Rattle.sg_moat.proofs.UnitSteps.{Apart, Inner, Near, Stands}
use Rattle.sg_moat.proofs.UnitSteps.Stands.{disjoint, outer, inner}

-- the least value of g over a list that is not empty
abbrev pub least_by : (ℕ → ℕ) → List ℕ → ℕ
least_by g [] = 0
least_by g (x ∷ []) = g x
least_by g (x ∷ y ∷ ys) = min (g x) (least_by g (y ∷ ys))

-- the least over a list is at most the value of each entry
pub least_bounds : (g : ℕ → ℕ) (xs : List ℕ) (x : ℕ) → has_leaf xs x ≡ true → least_by g xs ≤ g x
least_bounds g [] x h = absurd (false≢true h)
least_bounds g (z ∷ []) x h = elim (or_cases (eqb z x) (has_leaf [] x) h) [
  | inl here ↦ let e : g z ≡ g x = ap g (eqb-true z x here) in omega arith
  | inr there ↦ absurd (false≢true there)
]
least_bounds g (z ∷ y ∷ ys) x h = elim (or_cases (eqb z x) (has_leaf (y ∷ ys) x) h) [
  | inl here ↦ let e : g z ≡ g x = ap g (eqb-true z x here) in omega arith
  | inr there ↦ let r : least_by g (y ∷ ys) ≤ g x = least_bounds g (y ∷ ys) x there in omega arith
]

-- the least over a list that is not empty is the value of some entry
pub least_reached : (g : ℕ → ℕ) (xs : List ℕ) → 0 < length xs → (x : ℕ) × (has_leaf xs x ≡ true) × (g x ≡ least_by g xs)
least_reached g [] h = absurd (omega arith)
least_reached g (x ∷ []) h = (x, has_head x [], refl)
least_reached g (x ∷ y ∷ ys) h = grind (arith, cases_lt (g x) (least_by g (y ∷ ys)), least_reached g (y ∷ ys), has_head, or_right)

-- functions that agree on a list have one least there
pub least_same : (g h : ℕ → ℕ) (xs : List ℕ) → ((x : ℕ) → has_leaf xs x ≡ true → g x ≡ h x) → least_by g xs ≡ least_by h xs
least_same g h [] e = refl
least_same g h (x ∷ []) e = e x (has_head x [])
least_same g h (x ∷ y ∷ ys) e = grind (arith, least_same g h (y ∷ ys), has_head, or_right, e)

-- the least of a value and of a list, one after another
pub fold_least : (g : ℕ → ℕ) (xs : List ℕ) (y : ℕ) → 0 < length xs → fold (λ d x. min d (g x)) y xs ≡ min y (least_by g xs)
fold_least g [] y some = absurd (omega arith)
fold_least g (x ∷ []) y some = refl
fold_least g (x ∷ z ∷ zs) y some = omega (arith, fold_least g (z ∷ zs) (min y (g x)) (omega arith))

least_near : (g h : ℕ → ℕ) (xs : List ℕ) → 0 < length xs → ((x : ℕ) → g x ≤ h x + 1) → least_by g xs ≤ least_by h xs + 1
least_near g h xs some near =
    let at = least_reached h xs some in
    omega (arith, least_bounds g xs at.0 at.1, near at.0, at.2)

-- the distances of nodes from leaves, and those of leaves from one another, at an edge of weight w from a to b
module _ (dist far : ℕ → ℕ → ℕ) (a b w : ℕ) where
  -- twice the distance of leaf t to the point k half units behind a
  abbrev pub twice_to : ℕ → ℕ → ℕ
  twice_to t k = min (2 * dist t a + k) (2 * dist t b + (2 * w - k))

  -- the laws of distances that the edge gives
  pub record Spans (t u : ℕ) : Type 0 where
    pub over_a : far t u ≤ dist t a + dist u a
    pub over_b : far t u ≤ dist t b + dist u b
    pub along : far t u ≤ dist t a + w + dist u b
    pub back : far t u ≤ dist t b + w + dist u a

  twice_apart : (t u k : ℕ) → Spans t u → k ≤ 2 * w → 2 * far t u ≤ twice_to t k + twice_to u k
  twice_apart t u k h l = omega (arith, h.over_a, h.over_b, h.along, h.back)

  twice_near : (t k : ℕ) → k < 2 * w → (twice_to t (suc k) ≤ twice_to t k + 1) × (twice_to t k ≤ twice_to t (suc k) + 1)
  twice_near t k l = (omega arith, omega arith)

  -- at the first end of the edge it is twice the distance there
  pub twice_at_a : (t : ℕ) → dist t a ≤ dist t b + w → twice_to t 0 ≡ 2 * dist t a
  twice_at_a t h = omega arith

  -- at the other end it is twice the distance there
  pub twice_at_b : (t : ℕ) → dist t b ≤ dist t a + w → twice_to t (2 * w) ≡ 2 * dist t b
  twice_at_b t h = omega arith

  module _ (f : Family) where
    -- what a set reaches: the doubled distance less the duals of the smaller sets, at the leaf where this is least
    abbrev pub reach : ℕ → ℕ → ℕ
    reach s k = least_by (λ t. twice_to t k - inner_of f s t) (leaves_of f s)

    -- over one unit step a set's reach changes by at most 1
    pub reach_near : (s : ℕ) → 0 < length (leaves_of f s) → (k : ℕ) → k < 2 * w → Near (reach s k) (reach s (suc k))
    reach_near s some k l = grind (arith, least_near, twice_near, some)

    -- a set s' within s
    inside : (s s' : ℕ) → 0 < length (leaves_of f s') →
        ((t : ℕ) → Holds f s' t → Holds f s t × (inner_of f s' t + dual_of f s' ≤ inner_of f s t)) →
        (k : ℕ) → Inner (dual_of f s') (reach s' k) (reach s k)
    inside s s' some h k full =
        let at = least_reached (λ t. twice_to t k - inner_of f s' t) (leaves_of f s') some in
        let both = h at.0 at.1 in
        let bound : reach s k ≤ twice_to at.0 k - inner_of f s at.0 = least_bounds (λ t. twice_to t k - inner_of f s t) (leaves_of f s) at.0 both.0 in
        zero_from (reach s k) (reach s' k) (twice_to at.0 k) (inner_of f s at.0) (inner_of f s' at.0) (dual_of f s') full at.2 both.1 bound
      where
        zero_from : (g g' d r r' y' : ℕ) → g' ≤ y' → d - r' ≡ g' → r' + y' ≤ r → g ≤ d - r → g ≡ 0
        zero_from g g' d r r' y' l e h b = omega arith

    -- two disjoint sets
    beside : (s s' : ℕ) → 0 < length (leaves_of f s) → 0 < length (leaves_of f s') → ((t u : ℕ) → Holds f s t → Holds f s' u → Spans t u) →
        ((t u : ℕ) → Holds f s t → Holds f s' u → (inner_of f s t + dual_of f s) + (inner_of f s' u + dual_of f s') ≤ 2 * far t u) →
        (k : ℕ) → k ≤ 2 * w → Apart (dual_of f s) (dual_of f s') (reach s k) (reach s' k)
    beside s s' some some' spans h k l =
        let at = least_reached (λ t. twice_to t k - inner_of f s t) (leaves_of f s) some in
        let at' = least_reached (λ t. twice_to t k - inner_of f s' t) (leaves_of f s') some' in
        let t : ℕ = at.0 in
        let u : ℕ = at'.0 in
        apart_from (reach s k) (reach s' k) (twice_to t k) (twice_to u k) (inner_of f s t) (inner_of f s' u) (dual_of f s) (dual_of f s') (far t u) at.2 at'.2
        (twice_apart t u k (spans t u at.1 at'.1) l) (h t u at.1 at'.1)
      where
        apart_from : (g g' d d' r r' y y' far : ℕ) → d - r ≡ g → d' - r' ≡ g' → 2 * far ≤ d + d' → (r + y) + (r' + y') ≤ 2 * far →
            y + y' ≤ g + g'
        apart_from g g' d d' r r' y y' far e e' l h = omega arith

    -- sets far enough apart reach no common point
    pub stands_apart : (s s' : ℕ) → 0 < length (leaves_of f s) → 0 < length (leaves_of f s') →
        ((t u : ℕ) → Holds f s t → Holds f s' u → Spans t u) →
        ((t u : ℕ) → Holds f s t → Holds f s' u → (inner_of f s t + dual_of f s) + (inner_of f s' u + dual_of f s') ≤ 2 * far t u) →
        Stands (dual_of f) reach (2 * w) s s'
    stands_apart s s' some some' spans h = disjoint (beside s s' some some' spans h)

    -- a set that holds the other reaches no point that the other's moat is at
    pub stands_outer : (s s' : ℕ) → 0 < length (leaves_of f s') →
        ((t : ℕ) → Holds f s' t → Holds f s t × (inner_of f s' t + dual_of f s' ≤ inner_of f s t)) →
        Stands (dual_of f) reach (2 * w) s s'
    stands_outer s s' some h = outer (λ k l. inside s s' some h k)

    -- the same, where the other set holds it
    pub stands_inner : (s s' : ℕ) → 0 < length (leaves_of f s) →
        ((t : ℕ) → Holds f s t → Holds f s' t × (inner_of f s t + dual_of f s ≤ inner_of f s' t)) →
        Stands (dual_of f) reach (2 * w) s s'
    stands_inner s s' some h = inner (λ k l. inside s' s some h k)
