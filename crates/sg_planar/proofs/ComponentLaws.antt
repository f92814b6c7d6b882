-- The components of an instance: of one that is connected, told by the least spins, and under other couplings.
use Rattle.std.proofs.Common.{◌≡◌, ◌∙◌, sym, ap, refl, subst, ℕ, ◌<◌, ◌≤◌, Bool, true, eqb, List, [], ◌∷◌, length, get_or, replicate, arith}
use Rattle.std.proofs.lemmas.Bool.{eqb-true, true≢false}
use Rattle.std.proofs.Math.Bool.{or-false}
use Rattle.std.proofs.lemmas.List.{get_or-replicate, length-replicate}
use Rattle.sg_base.specs.Sets.{holds}
use Rattle.sg_model.specs.declared.bond.Bond.{Bond}
use Rattle.sg_model.specs.Ising.{Ising, bond_count}
use Rattle.sg_model.specs.WellFormed.{IsInstance}
use Rattle.sg_model.specs.Connected.{IsConnected, Reached, all_bonds}
use Rattle.sg_model.specs.Changes.{HasSameEnds, with_bonds}
use Rattle.sg_model.proofs.LeastSpins.{connected_leasts, one_list}
use Rattle.sg_model.proofs.Paths.{reached_back, reached_on}
use Rattle.sg_model.proofs.SamePaths.{ends_back, leasts_same, reached_same}
use Rattle.sg_planar.specs.Walk.{has}
use Rattle.sg_planar.specs.Naming.{AllNamed, AreComponents, self_named}
use Rattle.sg_planar.proofs.LeastSpins.{are_leasts, reached_by_all, reached_of_all}

-- what a list with one entry holds is that entry
held_alone : (x a : ℕ) → holds (x ∷ []) a ≡ true → x ≡ a
held_alone x a h = eqb-true x a (sym (or-false (eqb x a)) ∙ h)

alone : (xs : List ℕ) → length xs ≡ 1 → (a b : ℕ) → holds xs a ≡ true → holds xs b ≡ true → a ≡ b
alone [] e a b h k = absurd (true≢false (sym h))
alone (x ∷ []) e a b h k = sym (held_alone x a h) ∙ held_alone x b k
alone (x ∷ y ∷ ys) e a b h k = absurd (omega (arith, e))

module _ (inst : Ising) where
  -- names over the list of all bonds, and the spins that have their own
  pub components_found : (all : List Bool) (names : List ℕ) → all ≡ replicate (bond_count inst) true → AllNamed inst (has all) names
      → AreComponents inst names (self_named names)
  components_found all names is h = record {
    named = record {
      count = h.count;
      each = λ x l. record {
        reached = reached_of_all inst (has all) x (get_or names x 0) (h.each x l).reached;
        least = λ j r. (h.each x l).least j (subst (λ set. Reached inst (has set) x j) (sym is) (reached_by_all inst x j r));
      };
    };
    least = are_leasts inst all names is h;
  }

  -- in a connected instance each spin has the name 0
  pub one_component : 1 ≤ inst.n → IsConnected inst → AreComponents inst (replicate inst.n 0) (0 ∷ [])
  one_component some connected = record {
    named = record {
      count = length-replicate inst.n 0;
      each = λ x l. record {
        reached = rw (get_or-replicate {A = ℕ} inst.n x 0 0 l) (reached_back inst all_bonds 0 x (connected x l));
        least = λ j r. omega (arith, get_or-replicate {A = ℕ} inst.n x 0 0 l);
      };
    };
    least = connected_leasts inst some connected;
  }

  module _ (names leasts : List ℕ) (are : AreComponents inst names leasts) where
    -- a connected instance has one least spin
    pub one_from_connected : 1 ≤ inst.n → IsConnected inst → length leasts ≡ 1
    one_from_connected some connected = ap length (one_list inst leasts (0 ∷ []) are.least (connected_leasts inst some connected))

    -- where there is one, it is the name of each spin
    pub connected_from_one : 1 ≤ inst.n → length leasts ≡ 1 → IsConnected inst
    connected_from_one some one i l =
        let same : get_or names i 0 ≡ get_or names 0 0 = alone leasts one (get_or names i 0) (get_or names 0 0) (listed i l) (listed 0 (omega (arith, some))) in
        let here : Reached inst all_bonds i (get_or names 0 0) = subst (Reached inst all_bonds i) same (are.named.each i l).reached in
        reached_on inst all_bonds 0 (get_or names 0 0) i (are.named.each 0 (omega (arith, some))).reached
        (reached_back inst all_bonds i (get_or names 0 0) here)
      where
        -- the name of a spin is a least spin
        listed : (x : ℕ) → x < inst.n → holds leasts (get_or names x 0) ≡ true
        listed x l =
            let low : get_or names x 0 ≤ x = (are.named.each x l).least x ([], refl) in
            (are.least.each (get_or names x 0)).1 (
              omega (arith, low, l),
              λ j r. (are.named.each x l).least j (reached_on inst all_bonds x (get_or names x 0) j (are.named.each x l).reached r),
            )

-- other couplings leave the components as they are
pub components_same : (inst : Ising) (bonds : List Bond) → HasSameEnds inst bonds → IsInstance inst → (names leasts : List ℕ)
    → AreComponents inst names leasts → AreComponents (with_bonds inst bonds) names leasts
components_same inst bonds same good names leasts h = record {
  named = record {
    count = h.named.count;
    each = λ x l. record {
      reached = reached_same inst bonds same all_bonds x (get_or names x 0) (h.named.each x l).reached;
      least = λ j r. (h.named.each x l).least j (reached_same (with_bonds inst bonds) inst.bonds (ends_back inst bonds same good) all_bonds x j r);
    };
  };
  least = leasts_same inst bonds same good leasts h.least;
}
