-- The costs of the parts, one behind another, make those of the whole.
use Rattle.sg_bonds.proofs.Common.{inl, inr, ◌≡◌, ℕ, suc, ◌+◌, ◌<◌, ◌≤◌, ℤ, pos, Bool, true, false, cond, List, [], ◌∷◌, sym, ◌∙◌, ap, subst, arith}
use Rattle.sg_bonds.proofs.Common.{sum_by, length, get_or, unsigned_abs, cases_Bool, cases_eq, false≢true, get_or_default, sum_limit, holds, Bond, Ising, bond_count, IsInstance, spin, weight}
use Rattle.std.proofs.lemmas.List.Sums.{sum_by-cons}
use Rattle.sg_base.proofs.ListLaws.{cases_in}
use Rattle.sg_base.proofs.MemberSums.{members_sum}
use Rattle.sg_base.proofs.SumLaws.{sum_below-le, sum_by_is_sum_below}
use Rattle.sg_planar.specs.declared.components.Part.{Part}
use Rattle.sg_planar.specs.Parts.{AreParts, IsPart}
use Rattle.sg_ground.specs.Placed.{WritesAt}
use Rattle.sg_ground.proofs.Glued.{size_at}
use Rattle.sg_ground.proofs.PartLists.{all_parts, share_of_part}
use Rattle.sg_ground.proofs.Shares.{IsShare, weights_over}
use Rattle.sg_bonds.specs.Cost.{AreCosts, IsCost}
use Rattle.sg_bonds.proofs.PartCosts.{part_costs}

-- the bonds of the parts before `stop` cost what the list says
pub record AreJoined (inst : Ising) (parts : List Part) (stop : ℕ) (costs : List ℤ) : Type 0 where
  pub count : length costs ≡ bond_count inst
  pub each : (i : ℕ) (d : Part) → i < stop → (k : ℕ) → holds (get_or parts i d).bonds k ≡ true → IsCost inst k (get_or costs k (pos 0))

-- what is counted once stands somewhere
stands_somewhere : (b : Part → Bool) (parts : List Part) → sum_by (λ p. cond (b p) 1 0) parts ≡ 1
    → (i : ℕ) × (d : Part) × (i < length parts) × (b (get_or parts i d) ≡ true)
stands_somewhere b [] once = absurd (omega (arith, once))
stands_somewhere b (p ∷ parts) once = elim (cases_Bool (b p)) [
  | inl here ↦ (0, p, omega arith, here)
  | inr not_here ↦
      let none : cond {A = ℕ} (b p) 1 0 ≡ 0 = ap (λ c. cond {A = ℕ} c 1 0) not_here in
      let (i, d, l, yes_there) = stands_somewhere b parts (omega (arith, once, none, sum_by-cons (λ p. cond (b p) 1 0) p parts)) in
      (suc i, d, omega (arith, l), yes_there)
]

module _ (inst : Ising) (good : IsInstance inst) (parts : List Part) (are : AreParts inst parts) where
  module _ (i : ℕ) (p : Part) (l : i < length parts) (same : p ≡ get_or parts i p) where
    found_part : (least : ℕ) × IsPart inst least p
    found_part = subst (λ (q : Part). (least : ℕ) × IsPart inst least q) (sym same) (all_parts inst are.leasts parts are.each i p l)

    -- the part is a share of the whole
    pub share : IsShare inst p.spins p.bonds p.planar.instance
    share = share_of_part inst found_part.0 p found_part.1

    -- a part weighs no more than the whole
    pub part_light : weight inst ≤ sum_limit → weight p.planar.instance ≤ sum_limit
    part_light small =
        let here : sum_by (size_at inst) p.bonds ≡ weight p.planar.instance = weights_over inst p.spins p.bonds p.planar.instance share in
        let inside = members_sum (size_at inst) p.bonds (bond_count inst) share.bonds_below share.bonds_rise in
        let all = sum_by_is_sum_below (λ (b : Bond). unsigned_abs b.j) inst.bonds (record { u = 0; v = 0; j = pos 0 }) in
        let le = sum_below-le (λ k. cond (holds p.bonds k) (size_at inst k) 0) (size_at inst) (bond_count inst) (λ k m. grind arith) in
        omega (arith, here, inside, all, le, small)

    -- one part more
    pub joined_more : (old now found : List ℤ) → AreJoined inst parts i old → AreCosts p.planar.instance found → WritesAt p.bonds found old now →
        AreJoined inst parts (i + 1) now
    joined_more old now found was costs writes = record { count = long; each = each }
      where
        long : length now ≡ bond_count inst
        long = writes.count ∙ was.count

        -- the bonds of this part
        here : (k : ℕ) → holds p.bonds k ≡ true → IsCost inst k (get_or now k (pos 0))
        here k held = elim (cases_in p.bonds k) [
          | inr (out, none) ↦ absurd (false≢true (sym none ∙ held))
          | inl (j, m, at, _) ↦
              let low : k < length now = omega (arith, share.bonds_below j 0 m, at, long) in
              let counted : j < length found = omega (arith, m, costs.count, share.bond_counts) in
              let value : get_or now k (pos 0) ≡ get_or found j (pos 0) =
              get_or_default now k (pos 0) (pos 1) low ∙ ap (spin now) (sym at) ∙ writes.values j m ∙ get_or_default found j (pos 1) (pos 0) counted in
              subst (IsCost inst k) (sym value)
              (subst (λ k. IsCost inst k (get_or found j (pos 0))) at
              (part_costs inst good found_part.0 p found_part.1 j m (get_or found j (pos 0)) (costs.each j (omega (arith, m, share.bond_counts)))))
        ]

        -- and those of a part before
        before : (a : ℕ) (d : Part) → a < i → (k : ℕ) → holds (get_or parts a d).bonds k ≡ true → holds p.bonds k ≡ false
            → IsCost inst k (get_or now k (pos 0))
        before a d m k held other =
            let (first, is) = all_parts inst are.leasts parts are.each a d (omega (arith, m, l)) in
            let inside : k < bond_count inst = ((is.bonds k).0 held).0 in
            let kept = get_or_default now k (pos 0) (pos 1) (omega (arith, inside, long)) ∙ writes.others k other
            ∙ get_or_default old k (pos 1) (pos 0) (omega (arith, inside, was.count)) in
            subst (IsCost inst k) (sym kept) (was.each a d m k held)

        each : (a : ℕ) (d : Part) → a < i + 1 → (k : ℕ) → holds (get_or parts a d).bonds k ≡ true → IsCost inst k (get_or now k (pos 0))
        each a d m k held = elim (cases_eq a i) [
          | inl e ↦
              let this : get_or parts a d ≡ p = ap (λ j. get_or parts j d) e ∙ get_or_default parts i d p l ∙ sym same in
              here k (ap (λ (q : Part). holds q.bonds k) (sym this) ∙ held)
          | inr ne ↦ elim (cases_Bool (holds p.bonds k)) [
            | inl own ↦ here k own
            | inr other ↦ before a d (omega (arith, m, ne)) k held other
          ]
        ]

  -- all parts together
  pub all_joined : (stop : ℕ) → length parts ≤ stop → (costs : List ℤ) → AreJoined inst parts stop costs → AreCosts inst costs
  all_joined stop all costs joined = record {
    count = joined.count;
    each = λ k l. (let (i, d, m, held) = stands_somewhere (λ (p : Part). holds p.bonds k) parts (are.bonds_once k l) in
        joined.each i d (omega (arith, m, all)) k held);
  }
