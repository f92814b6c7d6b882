-- The least among the even codes is the least of all, since each assignment or its opposite has spin 0 up.
use Rattle.std.proofs.Common.{◌≡◌, ℕ, suc, ◌+◌, ◌-◌, ◌*◌, ◌^◌, ◌<◌, ◌≤◌, inl, inr, ℤ, pos, neg_ℤ, ◌≤ℤ◌, ◌<ℤ◌, List, [], ◌∷◌, length, sym, ap, ◌∙◌, subst, arith, All}
use Rattle.std.proofs.lemmas.List.Elements.{All-tail}
use Rattle.sg_model.specs.Ising.{Ising}
use Rattle.sg_model.specs.WellFormed.{IsInstance}
use Rattle.sg_model.specs.Spins.{IsUpOrDown, IsAssignment, spin}
use Rattle.sg_model.specs.Energy.{energy, IsGroundState}
use Rattle.sg_model.specs.Codes.{coded}
use Rattle.sg_model.proofs.Codes.{coded-length, coded-up_or_down, same_cons, coded-even, coded-reaches}
use Rattle.sg_model.proofs.Opposites.{turned, spin-turned, turned-assignment, energy-turned}

-- spins that begin with one up have an even code
up-reaches : (s : List ℤ) (n : ℕ) → length s ≡ n → 1 ≤ n → All IsUpOrDown s → spin s 0 ≡ pos 1 →
    (half : ℕ) × (half < 2 ^ (n - 1)) × (coded n (2 * half) ≡ s)
up-reaches [] n count some h up = absurd (omega arith)
up-reaches (x ∷ xs) n count some h up =
    let rest : (code : ℕ) × (code < 2 ^ length xs) × (coded (length xs) code ≡ xs) = coded-reaches xs (All-tail IsUpOrDown x xs h) in
    let less : length xs ≡ n - 1 = omega arith in
    let whole : suc (length xs) ≡ n = count in (
      rest.0,
      subst (λ k. rest.0 < 2 ^ k) less rest.1,
      ap (λ k. coded k (2 * rest.0)) (sym whole) ∙ coded-even (length xs) rest.0
          ∙ same_cons (pos 1) x _ xs (sym up) rest.2,
    )

abbrev pub BeatsHalves : Ising → ℤ → Type 0
BeatsHalves inst e = (half : ℕ) → half < 2 ^ (inst.n - 1) → e ≤ℤ energy inst (coded inst.n (2 * half))

beats-up : (inst : Ising) (e : ℤ) → IsInstance inst → BeatsHalves inst e → (t : List ℤ) → IsAssignment inst t → spin t 0 ≡ pos 1 →
    e ≤ℤ energy inst t
beats-up inst e good beats t h up =
    let found : (half : ℕ) × (half < 2 ^ (inst.n - 1)) × (coded inst.n (2 * half) ≡ t) = up-reaches t inst.n h.count good.draft.has_spin h.values up in
    subst (λ s. e ≤ℤ energy inst s) found.2 (beats found.0 found.1)

beats-all : (inst : Ising) (e : ℤ) → IsInstance inst → BeatsHalves inst e → (t : List ℤ) → IsAssignment inst t → e ≤ℤ energy inst t
beats-all inst e good beats t h = elim (h.values 0 (pos 1) (omega (arith, h.count, good.draft.has_spin))) [
  | inl up ↦ beats-up inst e good beats t h up
  | inr down ↦
      let up : spin (turned t) 0 ≡ pos 1 = spin-turned t 0 (omega (arith, h.count, good.draft.has_spin)) ∙ ap neg_ℤ down in
      subst (λ x. e ≤ℤ x) (energy-turned inst t good h) (beats-up inst e good beats (turned t) (turned-assignment inst t h) up)
]

-- the least of the even codes is a ground state
pub ground_state : (inst : Ising) (half : ℕ) → IsInstance inst → BeatsHalves inst (energy inst (coded inst.n (2 * half))) →
    IsGroundState inst (coded inst.n (2 * half))
ground_state inst half good beats = grind (arith, coded-length, coded-up_or_down, beats-all)

-- a better one takes the place of the least so far
pub beats-found : (f : ℕ → ℤ) (least here : ℤ) (half : ℕ) → here ≡ f half → here <ℤ least →
    ((k : ℕ) → k < half → least ≤ℤ f k) → (k : ℕ) → k < half + 1 → here ≤ℤ f k
beats-found f least here half found better before k l = grind arith

-- and one that is no better does not
pub beats-kept : (f : ℕ → ℤ) (least here : ℤ) (half : ℕ) → here ≡ f half → least ≤ℤ here →
    ((k : ℕ) → k < half → least ≤ℤ f k) → (k : ℕ) → k < half + 1 → least ≤ℤ f k
beats-kept f least here half found worse before k l = grind arith
