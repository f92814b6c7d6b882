-- What two assignments say of the product of two spins, along paths of bonds.
use Rattle.sg_bonds.proofs.Common.{◌≡◌, ◌⊎◌, inl, inr, ℕ, ◌<◌, Bool, true, ℤ, pos, neg_ℤ, ◌*ℤ◌, List, [], ◌∷◌, sym, ◌∙◌, ap₂, length, arith, subst, cases_lt}
use Rattle.sg_bonds.proofs.Common.{ints, get_or_past, Ising, bond_at, bond_count, IsInstance, IsUpOrDown, IsAssignment, spin, product, IsWalk, JoinedBy}
use Rattle.std.proofs.Math.IntN.{*ℤ_comm}
use Rattle.sg_bonds.proofs.ForcedMinimum.{same_or_opposite, unit_product}

through : (x y z : ℤ) → IsUpOrDown x → IsUpOrDown y → IsUpOrDown z → x *ℤ z ≡ (x *ℤ y) *ℤ (y *ℤ z)
through x y z p q r = grind (arith, ints, p, q, r)

-- each spin of an assignment is up or down; past the last one it is read as up
pub units : (inst : Ising) (g : List ℤ) → IsAssignment inst g → (i : ℕ) → IsUpOrDown (spin g i)
units inst g h i = elim (cases_lt i (length g)) [
  | inl l ↦ h.values i (pos 1) l
  | inr past ↦ inl (get_or_past g i (pos 1) past)
]

-- a bond of the set that the second assignment turns
pub record Turns (inst : Ising) (set : ℕ → Bool) (s t : List ℤ) : Type 0 where
  pub bond : ℕ
  pub below : bond < bond_count inst
  pub in_set : set bond ≡ true
  pub turned : product t (bond_at inst bond) ≡ neg_ℤ (product s (bond_at inst bond))

module _ (inst : Ising) (good : IsInstance inst) (s t : List ℤ) (first : IsAssignment inst s) (second : IsAssignment inst t) where
  -- they say the same of the product of spins a and b
  abbrev pub Agree : ℕ → ℕ → Type 0
  Agree a b = spin s a *ℤ spin s b ≡ spin t a *ℤ spin t b

  -- what is said of a and b is said of b and a
  pub agree_back : (a b : ℕ) → Agree a b → Agree b a
  agree_back a b h = *ℤ_comm (spin s b) (spin s a) ∙ h ∙ *ℤ_comm (spin t a) (spin t b)

  -- and what is said of a and b, and of b and c, of a and c
  pub agree_through : (a b c : ℕ) → Agree a b → Agree b c → Agree a c
  agree_through a b c p q =
      through (spin s a) (spin s b) (spin s c) (units inst s first a) (units inst s first b) (units inst s first c)
      ∙ ap₂ (λ x y. x *ℤ y) p q
      ∙ sym (through (spin t a) (spin t b) (spin t c) (units inst t second a) (units inst t second b) (units inst t second c))

  agree_self : (a : ℕ) → Agree a a
  agree_self a = grind (arith, ints, units inst s first a, units inst t second a)

  -- where they have one product at a bond, they agree on its ends
  agree_joined : (set : ℕ → Bool) (a b : ℕ) (j : JoinedBy inst set a b) → product s (bond_at inst j.bond) ≡ product t (bond_at inst j.bond) → Agree a b
  agree_joined set a b j same = elim j.ends [
    | inl e ↦ rw (sym e.0, sym e.1) same
    | inr e ↦ agree_back b a (rw (sym e.0, sym e.1) same)
  ]

  step : (set : ℕ → Bool) (a b : ℕ) → JoinedBy inst set a b → Agree a b ⊎ Turns inst set s t
  step set a b j = elim (same_or_opposite (product s (bond_at inst j.bond)) (product t (bond_at inst j.bond))
      (unit_product inst good j.bond j.below s first) (unit_product inst good j.bond j.below t second)) [
        | inl same ↦ inl (agree_joined set a b j same)
        | inr turned ↦ inr (record { bond = j.bond; below = j.below; in_set = j.in_set; turned = turned })
      ]

  -- they agree on the ends of a path, or the second turns some bond of it
  pub agree_or_turn : (set : ℕ → Bool) (path : List ℕ) (a b : ℕ) → IsWalk inst set a path b → Agree a b ⊎ Turns inst set s t
  agree_or_turn set [] a b w = inl (subst (λ x. spin s a *ℤ spin s x ≡ spin t a *ℤ spin t x) w (agree_self a))
  agree_or_turn set (c ∷ cs) a b w = elim (step set a c w.0) [
    | inl p ↦ elim (agree_or_turn set cs c b w.1) [
      | inl q ↦ inl (agree_through a c b p q)
      | inr turn ↦ inr turn
    ]
    | inr turn ↦ inr turn
  ]
