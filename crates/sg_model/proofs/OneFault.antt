-- An instance has one fault at most, and none where its rotation and its seam are right.
use Rattle.std.proofs.Common.{◌≡◌, ◌⊎◌, inl, inr, ℕ, ◌<◌, ◌≤◌, Bool, true, cond, not, ◌&&◌, ◌||◌, eqb, List, length, get_or, take, refl, sym, ◌∙◌, ap, ap₂, subst, count_by, arith}
use Rattle.std.proofs.lemmas.Bool.{cases_order, false_from_ne_true, lt-ltb, true≢false}
use Rattle.std.proofs.lemmas.List.{get_or-take, length-take}
use Rattle.sg_base.specs.Sets.{DifferByCount, holds}
use Rattle.sg_model.specs.declared.refusal.Refusal.{Refusal}
use Rattle.sg_model.specs.declared.refusal.Refusal.TheVariants.{BadRotation, BadSeam}
use Rattle.sg_model.specs.Ising.{Ising, bond_count}
use Rattle.sg_model.specs.Rotation.{IsRotation, darts_of, is_dart_of}
use Rattle.sg_model.specs.Seam.{IsSeam}
use Rattle.sg_model.specs.Misplaced.{IsFirstMisplaced, IsInPlace}
use Rattle.sg_model.specs.BadRotation.{IsBadRotation, IsLeastMissing}
use Rattle.sg_model.specs.BadSeam.{IsBadSeam, is_bond}
use Rattle.sg_model.specs.Faults.{IsRefusalOf}
use Rattle.sg_model.proofs.CyclicLists.{one_place, same_place}
use Rattle.sg_model.proofs.EachOnce.{count_in_place, place_held}

-- where the entries are in place, none is misplaced
pub misplaced-none : (allowed : ℕ → Bool) (xs : List ℕ) (x : ℕ) → IsInPlace allowed xs → IsFirstMisplaced allowed xs x → ⊥
misplaced-none allowed xs x good p = true≢false (sym p.misplaced ∙ good p.place p.inside)

-- one entry is the first that is misplaced
pub misplaced-one : (allowed : ℕ → Bool) (xs : List ℕ) (x y : ℕ) → IsFirstMisplaced allowed xs x → IsFirstMisplaced allowed xs y → x ≡ y
misplaced-one allowed xs x y p q = grind arith

-- allowed entries, none of which stands twice, are in place
pub once-in_place : (allowed : ℕ → Bool) (xs : List ℕ) → ((j : ℕ) → j < length xs → allowed (get_or xs j 0) ≡ true) → DifferByCount xs →
    IsInPlace allowed xs
once-in_place allowed xs good once j inside =
    ap₂ (λ a b. not a || b) (good j inside) (false_from_ne_true (holds (take j xs) (get_or xs j 0)) (λ held. twice held))
  where
    twice : holds (take j xs) (get_or xs j 0) ≡ true → ⊥
    twice held =
        let found : (k : ℕ) × (k < length (take j xs)) × (get_or (take j xs) k 0 ≡ get_or xs j 0) = place_held (take j xs) (get_or xs j 0) held in
        let before : found.0 < j = omega (arith, found.1, length-take j xs) in
        let there : get_or xs found.0 0 ≡ get_or xs j 0 = sym (get_or-take j xs found.0 0 before) ∙ found.2 in
        let here : found.0 ≡ j = same_place xs once found.0 j (omega (arith, before, inside)) inside there in
        omega (arith, before, here)

-- a list that holds each allowed number once and nothing else is in place
pub right-in_place : (allowed : ℕ → Bool) (xs : List ℕ) → ((d : ℕ) → count_by (λ x. eqb x d) xs ≡ cond (allowed d) 1 0) → IsInPlace allowed xs
right-in_place allowed xs right =
    once-in_place allowed xs
    (λ j inside. some (allowed (get_or xs j 0)) (count_by (λ x. eqb x (get_or xs j 0)) xs) (right (get_or xs j 0))
    (one_place (get_or xs j 0) xs j inside refl))
    (λ d. few (allowed d) (count_by (λ x. eqb x d) xs) (right d))
  where
    some : (a : Bool) (n : ℕ) → n ≡ cond a 1 0 → 1 ≤ n → a ≡ true
    some a n same once = grind arith

    few : (a : Bool) (n : ℕ) → n ≡ cond a 1 0 → n ≤ 1
    few a n h = grind arith

-- what shows that the list of a spin is wrong
abbrev pub IsShown : Ising → ℕ → ℕ → Type 0
IsShown inst spin dart = IsFirstMisplaced (is_dart_of inst spin) (darts_of inst spin) dart ⊎ IsLeastMissing inst spin dart

-- nothing shows it where the list is right
pub shown-none : (inst : Ising) (spin dart : ℕ) → ((d : ℕ) → count_by (λ x. eqb x d) (darts_of inst spin) ≡ cond (is_dart_of inst spin d) 1 0) →
    IsShown inst spin dart → ⊥
shown-none inst spin dart right (inl first) =
    misplaced-none (is_dart_of inst spin) (darts_of inst spin) dart (right-in_place (is_dart_of inst spin) (darts_of inst spin) right) first
shown-none inst spin dart right (inr least) =
    never (is_dart_of inst spin dart) (holds (darts_of inst spin) dart) (count_by (λ x. eqb x dart) (darts_of inst spin)) least.missing (right dart)
    (count_in_place (is_dart_of inst spin) (darts_of inst spin) least.in_place dart)
  where
    never : (a h : Bool) (n : ℕ) → (a && not h) ≡ true → n ≡ cond a 1 0 → n ≡ cond h 1 0 → ⊥
    never a h n same other once = grind arith

-- one dart shows it
pub shown-one : (inst : Ising) (spin d e : ℕ) → IsShown inst spin d → IsShown inst spin e → d ≡ e
shown-one inst spin d e p q = grind arith

-- a rotation is not bad
pub rotation-good : (inst : Ising) (spin dart : ℕ) → IsRotation inst → IsBadRotation inst spin dart → ⊥
rotation-good inst spin dart good bad = shown-none inst spin dart (λ d. good.each_once spin d bad.below) bad.shown

-- a bad rotation is so by one spin and one dart
pub bad_rotation-one : (inst : Ising) (i j d e : ℕ) → IsBadRotation inst i d → IsBadRotation inst j e → (i ≡ j) × (d ≡ e)
bad_rotation-one inst i j d e p q = elim (cases_order i j) [
  | inl same ↦ (same, shown-one inst i d e p.shown (subst (λ s. IsShown inst s e) (sym same) q.shown))
  | inr (inl less) ↦ absurd (shown-none inst i d (λ x. q.earlier i x less) p.shown)
  | inr (inr more) ↦ absurd (shown-none inst j e (λ x. p.earlier j x more) q.shown)
]

-- a seam is not bad
pub seam-good : (inst : Ising) (bond : ℕ) → IsSeam inst → IsBadSeam inst bond → ⊥
seam-good inst bond good bad =
    misplaced-none (is_bond inst) inst.seam bond
    (once-in_place (is_bond inst) inst.seam (λ j inside. lt-ltb (get_or inst.seam j 0) (bond_count inst) (good.below j 0 inside)) good.distinct) bad

-- the refusal of an instance, by its rotation or by its seam
abbrev pub OfRotation : Ising → Refusal → Type 0
OfRotation inst r = (spin : ℕ) × (dart : ℕ) × (r ≡ BadRotation spin dart) × IsBadRotation inst spin dart

abbrev pub OfSeam : Ising → Refusal → Type 0
OfSeam inst r = (bond : ℕ) × (r ≡ BadSeam bond) × IsRotation inst × IsBadSeam inst bond

pub refusal-cases : (inst : Ising) (r : Refusal) → IsRefusalOf inst r → OfRotation inst r ⊎ OfSeam inst r
refusal-cases inst r h = grind arith

-- an instance whose rotation and seam are right is not refused
pub refusal-none : (inst : Ising) (r : Refusal) → IsRotation inst → IsSeam inst → IsRefusalOf inst r → ⊥
refusal-none inst r rotation seam h = by_case (refusal-cases inst r h)
  where
    by_case : OfRotation inst r ⊎ OfSeam inst r → ⊥
    by_case (inl bad) = rotation-good inst bad.0 bad.1 rotation bad.3
    by_case (inr bad) = seam-good inst bad.0 seam bad.3

-- an instance is refused by one refusal
pub refusal-one : (inst : Ising) (r s : Refusal) → IsRefusalOf inst r → IsRefusalOf inst s → r ≡ s
refusal-one inst r s p q = by_case (refusal-cases inst r p) (refusal-cases inst s q)
  where
    by_case : OfRotation inst r ⊎ OfSeam inst r → OfRotation inst s ⊎ OfSeam inst s → r ≡ s
    by_case (inl a) (inl b) =
        let same : (a.0 ≡ b.0) × (a.1 ≡ b.1) = bad_rotation-one inst a.0 b.0 a.1 b.1 a.3 b.3 in
        a.2 ∙ ap₂ BadRotation same.0 same.1 ∙ sym b.2
    by_case (inl a) (inr b) = absurd (rotation-good inst a.0 a.1 b.2 a.3)
    by_case (inr a) (inl b) = absurd (rotation-good inst b.0 b.1 a.2 b.3)
    by_case (inr a) (inr b) = a.1 ∙ ap BadSeam (misplaced-one (is_bond inst) inst.seam a.0 b.0 a.3 b.3) ∙ sym b.1
