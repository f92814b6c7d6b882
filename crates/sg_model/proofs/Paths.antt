-- Walks over bonds: one behind another and turned round, and darts as their steps.
use Rattle.std.proofs.Common.{inl, inr, ◌≡◌, ◌⊎◌, ℕ, ◌+◌, ◌*◌, ◌/◌, ◌<◌, Bool, true, List, [], ◌∷◌, ◌++◌, refl, sym, subst, ◌∙◌, ap, arith}
use Rattle.sg_model.specs.Ising.{Ising, bond_count}
use Rattle.sg_model.specs.Rotation.{dart_count, tail, head_of}
use Rattle.sg_model.specs.Connected.{HasEnds, JoinedBy, IsWalk, Reached}
use Rattle.sg_model.proofs.Darts.{tail_first, tail_second, rev_first, rev_second}
use Rattle.sg_model.proofs.DartPairs.{dart_cases}

module _ (inst : Ising) (set : ℕ → Bool) where
  -- to be joined is mutual
  pub joined_back : (a b : ℕ) → JoinedBy inst set a b → JoinedBy inst set b a
  joined_back a b j = grind arith

  -- one walk behind another
  pub walk_append : (path more : List ℕ) (a b c : ℕ) → IsWalk inst set a path b → IsWalk inst set b more c → IsWalk inst set a (path ++ more) c
  walk_append [] more a b c w v = subst (λ x. IsWalk inst set x more c) (sym w) v
  walk_append (d ∷ path) more a b c w v = (w.0, walk_append path more d b c w.1 v)

  -- what is reached from a spin that is reached is reached
  pub reached_on : (a b c : ℕ) → Reached inst set a b → Reached inst set b c → Reached inst set a c
  reached_on a b c r q = (r.0 ++ q.0, walk_append r.0 q.0 a b c r.1 q.1)

  -- one step, and one step more
  pub reached_by_bond : (a b : ℕ) → JoinedBy inst set a b → Reached inst set a b
  reached_by_bond a b j = (b ∷ [], (j, refl))

  -- and so over one bond more
  pub reached_more : (a b c : ℕ) → Reached inst set a b → JoinedBy inst set b c → Reached inst set a c
  reached_more a b c r j = reached_on a b c r (reached_by_bond b c j)

  -- to be reached is mutual
  pub walk_back : (path : List ℕ) (a b : ℕ) → IsWalk inst set a path b → Reached inst set b a
  walk_back [] a b w = ([], sym w)
  walk_back (c ∷ path) a b w = reached_more b c a (walk_back path c b w.1) (joined_back a c w.0)

  -- what is reached leads back
  pub reached_back : (a b : ℕ) → Reached inst set a b → Reached inst set b a
  reached_back a b r = walk_back r.0 a b r.1

  -- two spins that are reached from one are reached from each other
  pub reached_across : (o a b : ℕ) → Reached inst set o a → Reached inst set o b → Reached inst set a b
  reached_across o a b p q = reached_on a o b (reached_back o a p) q

  -- the bond of a dart joins the spin that it leaves with the spin that it leads to
  joined_by_dart : (d : ℕ) → d < dart_count inst → set (d / 2) ≡ true → JoinedBy inst set (tail inst d) (head_of inst d)
  joined_by_dart d l inside = by_dart (dart_cases d)
    where
      by_dart : ((k : ℕ) × ((d ≡ 2 * k) ⊎ (d ≡ 2 * k + 1))) → JoinedBy inst set (tail inst d) (head_of inst d)
      by_dart h = grind (arith, tail_first, tail_second, rev_first, rev_second)

  -- so it joins the spin with any that the dart leads to, whatever their names
  pub joined_along : (d a b : ℕ) → d < dart_count inst → set (d / 2) ≡ true → tail inst d ≡ a → b ≡ head_of inst d → JoinedBy inst set a b
  joined_along d a b l inside leaves leads =
      subst (λ s. JoinedBy inst set s b) leaves (subst (JoinedBy inst set (tail inst d)) (sym leads) (joined_by_dart d l inside))

module _ (inst : Ising) where
  -- where a bond joins two spins, a dart leaves the first and leads to the second
  pub dart_of_step : (bonds : ℕ → Bool) (a b : ℕ) → JoinedBy inst bonds a b →
      (d : ℕ) × (d < dart_count inst) × (tail inst d ≡ a) × (head_of inst d ≡ b) × (bonds (d / 2) ≡ true)
  dart_of_step bonds a b j = by_ends j.ends
    where
      below : j.bond < bond_count inst
      below = j.below

      first_half : (k : ℕ) → 2 * k / 2 ≡ k
      first_half k = omega arith

      second_half : (k : ℕ) → (2 * k + 1) / 2 ≡ k
      second_half k = omega arith

      by_ends : HasEnds inst j.bond a b ⊎ HasEnds inst j.bond b a →
          (d : ℕ) × (d < dart_count inst) × (tail inst d ≡ a) × (head_of inst d ≡ b) × (bonds (d / 2) ≡ true)
      by_ends (inl (p, q)) = (
        2 * j.bond,
        omega (arith, below),
        tail_first inst j.bond ∙ p,
        ap (tail inst) (rev_first j.bond)
            ∙ tail_second inst j.bond ∙ q,
        ap bonds (first_half j.bond) ∙ j.in_set,
      )
      by_ends (inr (p, q)) = (
        2 * j.bond + 1,
        omega (arith, below),
        tail_second inst j.bond ∙ q,
        ap (tail inst) (rev_second j.bond)
            ∙ tail_first inst j.bond ∙ p,
        ap bonds (second_half j.bond) ∙ j.in_set,
      )
