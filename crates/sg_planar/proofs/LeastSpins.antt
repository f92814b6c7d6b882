-- The spins that have their own name over all bonds are the least spins of the components.
use Rattle.std.proofs.Common.{◌≡◌, ℕ, ◌<◌, ◌≤◌, Bool, true, false, eqb, eq-eqb, List, [], ◌∷◌, length, get_or, replicate, refl, sym, ◌∙◌, subst, arith}
use Rattle.std.proofs.lemmas.Bool.{eqb-true}
use Rattle.std.proofs.lemmas.List.{get_or-replicate}
use Rattle.sg_base.specs.Sets.{holds}
use Rattle.sg_base.proofs.RisingLists.{All-holds, chosen_below_low, chosen_below_rises, holds-chosen_below}
use Rattle.sg_model.specs.Ising.{Ising, bond_count}
use Rattle.sg_model.specs.Connected.{AreLeasts, IsLeastReached, IsWalk, JoinedBy, Reached, all_bonds}
use Rattle.sg_planar.specs.Walk.{has}
use Rattle.sg_planar.specs.Naming.{AllNamed, self_named}

module _ (inst : Ising) where
  -- the list of all bonds has each bond
  all_has : (b : ℕ) → b < bond_count inst → has (replicate (bond_count inst) true) b ≡ true
  all_has b l = get_or-replicate (bond_count inst) b true false l

  joined_by_all : (a b : ℕ) → JoinedBy inst all_bonds a b → JoinedBy inst (has (replicate (bond_count inst) true)) a b
  joined_by_all a b j = record { bond = j.bond; below = j.below; in_set = all_has j.bond j.below; ends = j.ends }

  walk_of_all : (set : ℕ → Bool) (path : List ℕ) (a b : ℕ) → IsWalk inst set a path b → IsWalk inst all_bonds a path b
  walk_of_all set [] a b w = w
  walk_of_all set (c ∷ path) a b w = (record { bond = w.0.bond; below = w.0.below; in_set = refl; ends = w.0.ends }, walk_of_all set path c b w.1)

  walk_by_all : (path : List ℕ) (a b : ℕ) → IsWalk inst all_bonds a path b → IsWalk inst (has (replicate (bond_count inst) true)) a path b
  walk_by_all [] a b w = w
  walk_by_all (c ∷ path) a b w = (joined_by_all a c w.0, walk_by_all path c b w.1)

  -- what is reached over the bonds of a set is reached over all bonds
  pub reached_of_all : (set : ℕ → Bool) (a b : ℕ) → Reached inst set a b → Reached inst all_bonds a b
  reached_of_all set a b r = (r.0, walk_of_all set r.0 a b r.1)

  -- what is reached over all bonds is reached over the list of all
  pub reached_by_all : (a b : ℕ) → Reached inst all_bonds a b → Reached inst (has (replicate (bond_count inst) true)) a b
  reached_by_all a b r = (r.0, walk_by_all r.0 a b r.1)

  -- the spins that have their own name over all bonds are the least ones of the components
  pub are_leasts : (all : List Bool) (names : List ℕ) → all ≡ replicate (bond_count inst) true → AllNamed inst (has all) names
      → AreLeasts inst (self_named names)
  are_leasts all names is named = record { rising = chosen_below_rises own (length names); each = λ i. ((λ h. there i h), (λ h. back i h.0 h.1)) }
    where
      own : ℕ → Bool
      own i = eqb (get_or names i 0) i

      own_least : (i : ℕ) → i < inst.n → own i ≡ true → IsLeastReached inst i
      own_least i l h j r =
          let name : get_or names i 0 ≡ i = eqb-true (get_or names i 0) i h in
          let least : get_or names i 0 ≤ j = (named.each i l).least j (subst (λ set. Reached inst (has set) i j) (sym is) (reached_by_all i j r)) in
          omega (arith, name, least)

      there : (i : ℕ) → holds (self_named names) i ≡ true → (i < inst.n) × IsLeastReached inst i
      there i h =
          let low : i < length names = All-holds (λ x. x < length names) (self_named names) i (chosen_below_low own (length names)) h in
          let l : i < inst.n = omega (arith, low, named.count) in
          (l, own_least i l (sym (holds-chosen_below own (length names) i low) ∙ h))

      back : (i : ℕ) → i < inst.n → IsLeastReached inst i → holds (self_named names) i ≡ true
      back i l least =
          let low : i < length names = omega (arith, named.count) in
          let reached : Reached inst all_bonds i (get_or names i 0) = reached_of_all (has all) i (get_or names i 0) (named.each i l).reached in
          let up : i ≤ get_or names i 0 = least (get_or names i 0) reached in
          let down : get_or names i 0 ≤ i = (named.each i l).least i ([], refl) in
          holds-chosen_below own (length names) i low ∙ eq-eqb (get_or names i 0) i (omega (arith, up, down))
