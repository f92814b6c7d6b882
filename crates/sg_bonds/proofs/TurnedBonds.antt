-- Joins that assignments break, and the bonds that two assignments break differently.
use Rattle.sg_bonds.proofs.Common.{inl, inr, ◌≡◌, ◌≤◌, ℕ, ◌<◌, ℤ, pos, neg_ℤ, ◌+ℤ◌, ◌-ℤ◌, Bool, true, false, eqb, List, length, map, sym, ◌∙◌, ap, ap₂, subst}
use Rattle.sg_bonds.proofs.Common.{arith, unsigned_abs, false≢true, ints, get_or-map, length-map, forced_limit, chosen_below, is_marked, Bond, Ising, bond_at}
use Rattle.sg_bonds.proofs.Common.{bond_count, IsInstance, IsConnected, IsAssignment, IsUpOrDown, energy, product, weight, weight_of, Embedding, IsPlanar}
use Rattle.sg_base.specs.Parity.{parity_by, xor}
use Rattle.sg_base.proofs.ParityLaws.{xor_self}
use Rattle.sg_base.proofs.RisingLists.{parity_of_rising}
use Rattle.sg_model.specs.Broken.{is_broken}
use Rattle.sg_graph.specs.Join.{IsJoin}
use Rattle.sg_graph.proofs.OnceLists.{rising_light}
use Rattle.sg_dual.specs.Dual.{dual_web, frustrated_faces}
use Rattle.sg_dual.proofs.DualWebs.{dual_weight}
use Rattle.sg_ground.proofs.BrokenJoins.{energy_of_join, some_breaking}
use Rattle.sg_ground.proofs.JoinFits.{join_below}
use Rattle.sg_bonds.specs.Cost.{IsLeastWith}
use Rattle.sg_bonds.specs.JoinsWith.{IsLeastJoinWith, breaks_with}
use Rattle.sg_bonds.specs.Turned.{HasBroken}
use Rattle.sg_bonds.proofs.ForcedMinimum.{same_or_opposite, unit_product}
use Rattle.sg_bonds.proofs.JoinStates.{state_least}
use Rattle.sg_bonds.proofs.JoinsFound.{places_hold, places_low, places_rise}

module _ (p : Embedding) (planar : IsPlanar p) (edges : List ℕ) (join : IsJoin (dual_web p.instance p.faces) (frustrated_faces p.instance p.faces) edges)
    (w : ℤ) (value : w ≡ pos (weight_of (dual_web p.instance p.faces) edges)) where
  -- a join weighs no more than all bonds
  pub join_light : unsigned_abs w ≤ forced_limit
  join_light =
      let size : unsigned_abs w ≡ weight_of (dual_web p.instance p.faces) edges = ap unsigned_abs value in
      omega (arith, size, rising_light (dual_web p.instance p.faces) edges join.below join.rising, dual_weight p.instance p.faces, planar.sum)

  module _ (connected : IsConnected p.instance) (e : ℤ) (is : e ≡ (w +ℤ w) -ℤ pos (weight p.instance)) where
    -- on the plane some assignment breaks just the join
    pub join_broken : HasBroken p.instance e edges
    join_broken =
        let (s, assigned, breaks) = some_breaking p planar connected edges join in
        record {
          state = s;
          assignment = assigned;
          value = omega (arith, ints, energy_of_join p.instance p.faces planar.instance planar.faces s edges assigned breaks join, is, value);
          breaks = breaks;
          rising = join.rising;
          below = join_below p.instance p.faces edges join;
        }

    -- and is least with its product at a bond if the join is least among those that have it, or do not
    pub broken_least : (k : ℕ) → k < bond_count p.instance → (has : Bool)
        → IsLeastJoinWith (dual_web p.instance p.faces) (frustrated_faces p.instance p.faces) k has edges → (x : ℤ) → IsUpOrDown x
        → breaks_with (bond_at p.instance k) x ≡ has → IsLeastWith p.instance k x e
    broken_least k inside has joined x up side =
        subst (IsLeastWith p.instance k x) join_broken.value
        (state_least p planar k inside has edges joined join_broken.state join_broken.assignment join_broken.breaks x up side)

-- a bond that one of two assignments breaks has another product in the other
module _ (b : Bond) (s t : List ℤ) where
  pub broken_apart : IsUpOrDown (product s b) → IsUpOrDown (product t b) → xor (is_broken s b) (is_broken t b) ≡ true
      → product t b ≡ neg_ℤ (product s b)
  broken_apart up other h = elim (same_or_opposite (product s b) (product t b) up other) [
    | inl same ↦ absurd (false≢true (sym (xor_self (is_broken s b)) ∙ ap (λ q. xor (is_broken s b) (breaks_with b q)) same ∙ h))
    | inr turned ↦ turned
  ]

module _ (inst : Ising) (good : IsInstance inst) (s : List ℤ) (assigned : IsAssignment inst s) (e : ℤ) (bonds : List ℕ) (has : HasBroken inst e bonds)
    (first marks : List Bool) (first_is : first ≡ map (is_broken s) inst.bonds)
    (turned : (k : ℕ) → k < length first → is_marked marks k ≡ xor (is_marked first k) (parity_by (λ i. eqb i k) bonds)) where
  first_long : length first ≡ bond_count inst
  first_long = ap length first_is ∙ length-map inst.bonds (is_broken s)

  -- what is marked where one of two states breaks a bond has other products there
  pub marks_turn : (k : ℕ) → k < bond_count inst → is_marked marks k ≡ true → product has.state (bond_at inst k) ≡ neg_ℤ (product s (bond_at inst k))
  marks_turn k l marked =
      let own = ap (λ (m : List Bool). is_marked m k) first_is ∙ get_or-map (is_broken s) inst.bonds k (record { u = 0; v = 0; j = pos 0 }) false l in
      let other = parity_of_rising bonds (bond_count inst) k has.below has.rising l ∙ sym (has.breaks k l) in
      broken_apart (bond_at inst k) s has.state (unit_product inst good k l s assigned) (unit_product inst good k l has.state has.assignment)
      (sym (turned k (omega (arith, first_long, l)) ∙ ap₂ xor own other) ∙ marked)

-- the places of the marks of the bonds that spins break
module _ (inst : Ising) (s : List ℤ) (assigned : IsAssignment inst s) (e : ℤ) (value : e ≡ energy inst s) (marks : List Bool)
    (marks_are : marks ≡ map (is_broken s) inst.bonds) (list : List ℕ) (list_is : list ≡ chosen_below (is_marked marks) (length marks)) where
  marks_long : length marks ≡ bond_count inst
  marks_long = ap length marks_are ∙ length-map inst.bonds (is_broken s)

  pub marks_broken : HasBroken inst e list
  marks_broken = record {
    state = s;
    assignment = assigned;
    value = sym value;
    breaks = λ k l. sym (
        places_hold marks (bond_count inst) marks_long list list_is k l
        ∙ ap (λ (m : List Bool). is_marked m k) marks_are
        ∙ get_or-map (is_broken s) inst.bonds k (record { u = 0; v = 0; j = pos 0 }) false l);
    rising = places_rise marks (bond_count inst) marks_long list list_is;
    below = places_low marks (bond_count inst) marks_long list list_is;
  }
