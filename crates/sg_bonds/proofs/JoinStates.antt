-- Spins that break a least join among those that have a bond, or do not, are least among those with their product at the bond.
use Rattle.sg_bonds.proofs.Common.{◌≡◌, ℕ, ◌<◌, ◌≤◌, ℤ, Bool, List, Option, None, Some, Result, Ok, Err, refl, sym, ◌∙◌, ap, arith, IfOk, IfSome, ints}
use Rattle.sg_bonds.proofs.Common.{forced_limit, holds, Bond, bond_at, bond_count, IsAssignment, IsUpOrDown, energy, product, Graph, edge_count, total_weight, Embedding, IsPlanar}
use Rattle.sg_base.proofs.RisingLists.{chosen_below_low, chosen_below_rises}
use Rattle.sg_graph.specs.Join.{AreTerminals}
use Rattle.sg_planar.specs.BrokenLists.{BreaksExactly}
use Rattle.sg_dual.specs.Dual.{dual_web, frustrated_faces, is_frustrated}
use Rattle.sg_dual.proofs.DualWebs.{dual_edge_count, dual_weight}
use Rattle.sg_ground.proofs.BrokenJoins.{BreaksExactly-broken, IsJoin-broken, broken_bonds, energy_of_join}
use Rattle.sg_bonds.specs.Cost.{IsLeastWith}
use Rattle.sg_bonds.specs.JoinsWith.{IsDualOf, IsLeastJoinWith, breaks_with}
use Rattle.sg_bonds.proofs.ForcedMinimum.{unit_product}

-- the products that break a bond are all alike, and so are those that do not
same_by_break : (b : Bond) (x y : ℤ) → IsUpOrDown x → IsUpOrDown y → breaks_with b x ≡ breaks_with b y → x ≡ y
same_by_break b x y p q e = grind (arith, ints, p, q, e)

module _ (p : Embedding) (planar : IsPlanar p) (k : ℕ) (inside : k < bond_count p.instance) (has : Bool) (edges : List ℕ)
    (joined : IsLeastJoinWith (dual_web p.instance p.faces) (frustrated_faces p.instance p.faces) k has edges) where
  module _ (s : List ℤ) (assigned : IsAssignment p.instance s) (breaks : BreaksExactly p.instance s edges)
      (x : ℤ) (up : IsUpOrDown x) (side : breaks_with (bond_at p.instance k) x ≡ has) where
    -- the spins have this product at the bond
    pub state_product : product s (bond_at p.instance k) ≡ x
    state_product = same_by_break (bond_at p.instance k) (product s (bond_at p.instance k)) x
        (unit_product p.instance planar.instance k inside s assigned) up (breaks k inside ∙ joined.side ∙ sym side)

    -- and no assignment with it has less energy
    pub state_least : IsLeastWith p.instance k x (energy p.instance s)
    state_least = record {
      reached = (s, assigned, state_product, refl);
      least = λ t other same.
          let there : holds (broken_bonds p.instance p.faces planar.instance planar.faces t other) k ≡ has =
          sym (BreaksExactly-broken p.instance p.faces planar.instance planar.faces t other k inside) ∙ ap (breaks_with (bond_at p.instance k)) same ∙ side in
          let light = joined.least (broken_bonds p.instance p.faces planar.instance planar.faces t other)
          (IsJoin-broken p.instance p.faces planar.instance planar.faces t other) there in
          let own = energy_of_join p.instance p.faces planar.instance planar.faces s edges assigned breaks joined.join in
          let others = energy_of_join p.instance p.faces planar.instance planar.faces t
          (broken_bonds p.instance p.faces planar.instance planar.faces t other) other
          (BreaksExactly-broken p.instance p.faces planar.instance planar.faces t other)
          (IsJoin-broken p.instance p.faces planar.instance planar.faces t other) in
          omega (arith, ints, light, own, others);
    }

-- what the dual keeps
module _ (p : Embedding) (g : Graph) (terminals : List ℕ) (dual : IsDualOf p g terminals) where
  -- the frustrated faces are terminals of the dual
  pub dual_terminals : AreTerminals g terminals
  dual_terminals = rw (dual.web, dual.frustrated) (record {
    rising = chosen_below_rises (is_frustrated p.instance p.faces) p.faces.count;
    below = chosen_below_low (is_frustrated p.instance p.faces) p.faces.count;
  })

  -- the dual weighs no more than the limit
  pub dual_light : total_weight g ≤ forced_limit
  dual_light = omega (arith, ap total_weight dual.web, dual_weight p.instance p.faces, dual.planar.sum)

  -- it has an edge for each bond
  pub dual_edges : edge_count g ≡ bond_count p.instance
  dual_edges = ap edge_count dual.web ∙ dual_edge_count p.instance p.faces

-- what holds of all holds of what is found
pub always_found : {X E : Type 0} (r : Result (Option X) E) (P : Type 0) → P → IfOk r (λ found. IfSome found (λ _. P))
always_found (Ok None) P h = tt
always_found (Ok (Some x)) P h = h
always_found (Err e) P h = tt
