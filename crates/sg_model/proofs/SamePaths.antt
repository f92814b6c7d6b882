-- Other couplings on the same bonds leave the paths and the components as they are.
use Rattle.std.proofs.Common.{ℕ, ◌<◌, Bool, List, [], ◌∷◌, arith}
use Rattle.sg_model.specs.declared.bond.Bond.{Bond}
use Rattle.sg_model.specs.Ising.{Ising}
use Rattle.sg_model.specs.WellFormed.{IsInstance}
use Rattle.sg_model.specs.Connected.{AreLeasts, IsLeastReached, IsWalk, JoinedBy, Reached, all_bonds}
use Rattle.sg_model.specs.Changes.{HasSameEnds, with_bonds}

module _ (inst : Ising) (bonds : List Bond) (same : HasSameEnds inst bonds) where
  joined_same : (set : ℕ → Bool) (a b : ℕ) → JoinedBy inst set a b → JoinedBy (with_bonds inst bonds) set a b
  joined_same set a b j = grind arith

  walk_same : (set : ℕ → Bool) (path : List ℕ) (a b : ℕ) → IsWalk inst set a path b → IsWalk (with_bonds inst bonds) set a path b
  walk_same set [] a b w = w
  walk_same set (c ∷ cs) a b w = (joined_same set a c w.0, walk_same set cs c b w.1)

  -- other couplings leave what is reached
  pub reached_same : (set : ℕ → Bool) (a b : ℕ) → Reached inst set a b → Reached (with_bonds inst bonds) set a b
  reached_same set a b r = (r.0, walk_same set r.0 a b r.1)

-- the old bonds have the ends of the new ones
pub ends_back : (inst : Ising) (bonds : List Bond) → HasSameEnds inst bonds → IsInstance inst → HasSameEnds (with_bonds inst bonds) inst.bonds
ends_back inst bonds same good = grind arith

-- and the least spins of the components
pub leasts_same : (inst : Ising) (bonds : List Bond) → HasSameEnds inst bonds → IsInstance inst → (leasts : List ℕ) → AreLeasts inst leasts
    → AreLeasts (with_bonds inst bonds) leasts
leasts_same inst bonds same good leasts h = record {
  rising = h.rising;
  each = λ i. (
    (λ held. let p : (i < inst.n) × IsLeastReached inst i = (h.each i).0 held in (p.0, λ j r. p.1 j (back i j r))),
    (λ p. (h.each i).1 (p.0, λ j r. p.1 j (reached_same inst bonds same all_bonds i j r))),
  );
}
  where
    back : (a b : ℕ) → Reached (with_bonds inst bonds) all_bonds a b → Reached inst all_bonds a b
    back a b r = reached_same (with_bonds inst bonds) inst.bonds (ends_back inst bonds same good) all_bonds a b r
