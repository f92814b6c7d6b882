-- The parts of an instance: each is a share of it, no two have a spin in common, and a sum over all bonds is dealt out to them.
use Rattle.std.proofs.Common.{inl, ◌≡◌, ℕ, ◌+◌, ◌*◌, ◌<◌, Bool, true, cond, eqb, List, [], ◌∷◌, refl, sym, ◌∙◌, ap, arith, sum_by, length, get_or, All, eq-eqb}
use Rattle.std.proofs.Common.{pos, eqb-true}
use Rattle.std.specs.List.{AllZip}
use Rattle.std.proofs.lemmas.List.{get_or-map, length-map}
use Rattle.std.proofs.lemmas.List.Elements.{All-cons, All-nil}
use Rattle.std.proofs.lemmas.List.Folds.{list_any_at}
use Rattle.std.proofs.lemmas.List.Sums.{passes_at_first, sum_by-cons}
use Rattle.sg_base.specs.Sums.{sum_below}
use Rattle.sg_base.specs.Sets.{holds}
use Rattle.sg_base.proofs.MemberSums.{members_sum}
use Rattle.sg_base.proofs.SumLaws.{sum_below-same, sum_by-same, sum_exchange}
use Rattle.sg_model.specs.declared.bond.Bond.{Bond}
use Rattle.sg_model.specs.Ising.{Ising, IsBond, bond_at, bond_count}
use Rattle.sg_model.specs.Connected.{JoinedBy, Reached, all_bonds}
use Rattle.sg_model.proofs.Paths.{reached_across, reached_more}
use Rattle.sg_planar.specs.declared.components.Part.{Part}
use Rattle.sg_planar.specs.Parts.{AreParts, IsPart, bond_in, place_in}
use Rattle.sg_ground.specs.Placed.{numbered}
use Rattle.sg_ground.proofs.Shares.{IsShare}
use Rattle.sg_ground.proofs.Glued.{over_bonds}

-- a list holds its entries
pub holds_at : (xs : List ℕ) (j d : ℕ) → j < length xs → holds xs (get_or xs j d) ≡ true
holds_at xs j d l = list_any_at (λ y. eqb y (get_or xs j d)) xs j d l (eq-eqb (get_or xs j d) (get_or xs j d) refl)

-- what stands at the place of a number is the number
at_place : (xs : List ℕ) (x : ℕ) → place_in xs x < length xs → numbered xs (place_in xs x) ≡ x
at_place xs x l = eqb-true (numbered xs (place_in xs x)) x (passes_at_first (λ y. eqb y x) xs 0 l)

module _ (inst : Ising) (least : ℕ) (p : Part) (is : IsPart inst least p) where
  -- the bond at a place of the part is that bond of the whole, between the places of its ends
  bond_of_part : (i : ℕ) → i < length p.bonds → bond_at p.planar.instance i ≡ bond_in p.spins (bond_at inst (numbered p.bonds i))
  bond_of_part i l =
      ap (λ (whole : Ising). bond_at whole i) is.instance
      ∙ get_or-map (λ k. bond_in p.spins (bond_at inst k)) p.bonds i 0 (record { u = 0; v = 0; j = pos 0 }) l

  bond_counts : bond_count p.planar.instance ≡ length p.bonds
  bond_counts = ap bond_count is.instance ∙ length-map p.bonds (λ k. bond_in p.spins (bond_at inst k))

  spin_count : p.planar.instance.n ≡ length p.spins
  spin_count = ap (λ (whole : Ising). whole.n) is.instance

  joins : (i : ℕ) → i < length p.bonds → IsBond p.planar.instance.n (bond_at p.planar.instance i)
  joins i l = is.planar.instance.draft.joined i (record { u = 0; v = 0; j = pos 0 }) (omega (arith, l, bond_counts))

  -- a part is a share of the whole
  pub share_of_part : IsShare inst p.spins p.bonds p.planar.instance
  share_of_part = record {
    good = is.planar.instance;
    spins_rise = is.spins_rise;
    spins_below = λ j d l. ((is.spins (get_or p.spins j d)).0 (holds_at p.spins j d l)).0;
    spin_count = spin_count;
    bonds_rise = is.bonds_rise;
    bonds_below = λ j d l. ((is.bonds (get_or p.bonds j d)).0 (holds_at p.bonds j d l)).0;
    bond_counts = bond_counts;
    first_end = λ i l.
        (let same : (bond_at p.planar.instance i).u ≡ place_in p.spins (bond_at inst (numbered p.bonds i)).u = ap (λ (b : Bond). b.u) (bond_of_part i l) in
        ap (numbered p.spins) same ∙ at_place p.spins (bond_at inst (numbered p.bonds i)).u (omega (arith, (joins i l).first_end, same, spin_count)));
    second_end = λ i l.
        (let same : (bond_at p.planar.instance i).v ≡ place_in p.spins (bond_at inst (numbered p.bonds i)).v = ap (λ (b : Bond). b.v) (bond_of_part i l) in
        ap (numbered p.spins) same ∙ at_place p.spins (bond_at inst (numbered p.bonds i)).v (omega (arith, (joins i l).second_end, same, spin_count)));
    coupling = λ i l. ap (λ (b : Bond). b.j) (bond_of_part i l);
  }

  -- two spins of the part reach each other
  pub together : (x y : ℕ) → holds p.spins x ≡ true → holds p.spins y ≡ true → Reached inst all_bonds x y
  together x y hx hy = reached_across inst all_bonds least x y ((is.spins x).0 hx).1 ((is.spins y).0 hy).1

  -- both ends of its bonds are its spins
  pub first_inside : (k : ℕ) → holds p.bonds k ≡ true → holds p.spins (bond_at inst k).u ≡ true
  first_inside k h = ((is.bonds k).0 h).1

  module _ (good : (k : ℕ) → k < bond_count inst → (bond_at inst k).v < inst.n) where
    -- the second end of a bond of the part is one of its spins
    pub second_inside : (k : ℕ) → holds p.bonds k ≡ true → holds p.spins (bond_at inst k).v ≡ true
    second_inside k h =
        let low : k < bond_count inst = ((is.bonds k).0 h).0 in
        let first : Reached inst all_bonds least (bond_at inst k).u = ((is.spins (bond_at inst k).u).0 (first_inside k h)).1 in
        let step : JoinedBy inst all_bonds (bond_at inst k).u (bond_at inst k).v =
        record { bond = k; below = low; in_set = refl; ends = inl (refl, refl) } in
        (is.spins (bond_at inst k).v).1 (good k low, reached_more inst all_bonds least (bond_at inst k).u (bond_at inst k).v first step)

-- each of the parts is the component of some spin
pub all_parts : (inst : Ising) (leasts : List ℕ) (parts : List Part) → AllZip (IsPart inst) leasts parts →
    All (λ p. (least : ℕ) × IsPart inst least p) parts
all_parts inst [] [] h = All-nil (λ p. (least : ℕ) × IsPart inst least p)
all_parts inst [] (p ∷ parts) h = absurd h
all_parts inst (least ∷ leasts) [] h = absurd h
all_parts inst (least ∷ leasts) (p ∷ parts) h =
    All-cons (λ p. (least : ℕ) × IsPart inst least p) p parts (least, h.0) (all_parts inst leasts parts h.1)

-- what is counted as often as a test is passed once
pub once_each : (b : Part → Bool) (c : ℕ) (parts : List Part) → sum_by (λ p. cond (b p) 1 0) parts ≡ 1 → sum_by (λ p. cond (b p) c 0) parts ≡ c
once_each b c parts once = times parts ∙ ap (λ n. c * n) once ∙ omega arith
  where
    one : (t : Bool) → cond t c 0 ≡ c * cond {A = ℕ} t 1 0
    one t = grind arith

    times : (parts : List Part) → sum_by (λ p. cond (b p) c 0) parts ≡ c * sum_by (λ p. cond (b p) 1 0) parts
    times [] = omega arith
    times (p ∷ parts) =
        sum_by-cons (λ p. cond (b p) c 0) p parts
        ∙ spread c (cond (b p) c 0) (sum_by (λ p. cond (b p) c 0) parts) (cond (b p) 1 0) (sum_by (λ p. cond (b p) 1 0) parts) (one (b p)) (times parts)
        ∙ ap (λ n. c * n) (sym (sum_by-cons (λ p. cond (b p) 1 0) p parts))
      where
        spread : (c a s t u : ℕ) → a ≡ c * t → s ≡ c * u → a + s ≡ c * (t + u)
        spread c a s t u e f = grind arith

-- a sum over all bonds is the sum over the parts of the sums over their bonds
pub dealt_to_parts : (inst : Ising) (parts : List Part) → AreParts inst parts → (f : ℕ → ℕ) → over_bonds f parts ≡ sum_below f (bond_count inst)
dealt_to_parts inst parts are f =
    sym (sum_by-same (λ (p : Part). sum_below (λ k. cond (holds p.bonds k) (f k) 0) (bond_count inst)) (λ (p : Part). sum_by f p.bonds) parts each)
    ∙ sum_exchange (λ (p : Part) k. cond (holds p.bonds k) (f k) 0) parts (bond_count inst)
    ∙ sum_below-same (λ k. sum_by (λ (p : Part). cond (holds p.bonds k) (f k) 0) parts) f (bond_count inst)
    (λ k l. once_each (λ (p : Part). holds p.bonds k) (f k) parts (are.bonds_once k l))
  where
    each : All (λ (p : Part). sum_below (λ k. cond (holds p.bonds k) (f k) 0) (bond_count inst) ≡ sum_by f p.bonds) parts
    each i d l =
        let found = all_parts inst are.leasts parts are.each i d l in
        let share = share_of_part inst found.0 (get_or parts i d) found.1 in
        members_sum f (get_or parts i d).bonds (bond_count inst) share.bonds_below share.bonds_rise
