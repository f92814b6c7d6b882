-- The answers of the parts, one after another, make one of the whole: spins and energies, and the loops that prove them.
use Rattle.std.proofs.Common.{inl, inr, ◌≡◌, ◌⊎◌, ℕ, ◌+◌, ◌*◌, ◌<◌, ◌≤◌, ℤ, pos, ◌+ℤ◌, ◌-ℤ◌, Bool, true, false, cond, List, [], ◌∷◌, ◌++◌, map, refl, sym, ◌∙◌}
use Rattle.std.proofs.Common.{ap, ap₂, subst, arith, sum_by, length, get_or, take, All, w64, FitsSigned, unsigned_abs, ◌≤ℤ◌, length-append}
use Rattle.std.proofs.lemmas.Bool.{cases_Bool, cases_eq}
use Rattle.std.proofs.lemmas.Int.{fits_signed_from_abs, ints}
use Rattle.std.proofs.lemmas.List.{length-map}
use Rattle.std.proofs.lemmas.List.Elements.{All-append, All-from_get_or, All-map, All-take, All-weaker}
use Rattle.std.proofs.lemmas.List.Sums.{get_or-le-sum_by, sum_by-append, sum_by-cons, sum_by-take-le, sum_by_more}
use Rattle.sg_base.specs.Limits.{forced_limit}
use Rattle.sg_base.specs.Sets.{holds}
use Rattle.sg_base.proofs.ListLaws.{cases_in}
use Rattle.sg_base.proofs.OneMore.{rising_order}
use Rattle.sg_base.proofs.SumLaws.{sum_by-same, sum_by_is_sum_below}
use Rattle.sg_base.proofs.Tallies.{sum_below_ones}
use Rattle.sg_model.specs.declared.bond.Bond.{Bond}
use Rattle.sg_model.specs.Ising.{Ising, IsBond, bond_at, bond_count}
use Rattle.sg_model.specs.WellFormed.{IsInstance}
use Rattle.sg_model.specs.Connected.{LeastsUp}
use Rattle.sg_model.specs.Spins.{IsAssignment, IsUpOrDown, spin}
use Rattle.sg_model.specs.Energy.{energy, weight}
use Rattle.sg_model.proofs.BrokenEnergy.{broken_cost, energy_from_costs, unit_at}
use Rattle.sg_check.specs.declared.packing.Loop.{Loop}
use Rattle.sg_check.specs.Loop.{IsFrustratedLoop}
use Rattle.sg_check.specs.Packing.{loop_weight}
use Rattle.sg_planar.specs.declared.components.Part.{Part}
use Rattle.sg_planar.specs.Parts.{AreParts, IsPart}
use Rattle.sg_ground.specs.Placed.{HasValues, WritesAt, loop_in_whole, numbered}
use Rattle.sg_ground.specs.Solution.{IsSolution}
use Rattle.sg_ground.proofs.Glued.{IsGlued, cost_at, over_bonds, size_at}
use Rattle.sg_ground.proofs.PartLists.{all_parts, dealt_to_parts, first_inside, holds_at, once_each, second_inside, share_of_part, together}
use Rattle.sg_ground.proofs.Shares.{IsShare, costs_over, in_place, load_over, loop_over, share_assignment, total_over, values_in, weights_over}

module _ (inst : Ising) (good : IsInstance inst) (parts : List Part) (are : AreParts inst parts) where
  ends : (k : ℕ) → k < bond_count inst → IsBond inst.n (bond_at inst k)
  ends k l = good.draft.joined k (record { u = 0; v = 0; j = pos 0 }) l

  each : All (λ p. (least : ℕ) × IsPart inst least p) parts
  each = all_parts inst are.leasts parts are.each

  -- the sizes of all couplings sum to the weight
  sizes_all : over_bonds (size_at inst) parts ≡ weight inst
  sizes_all = dealt_to_parts inst parts are (size_at inst)
      ∙ sym (sum_by_is_sum_below (λ (b : Bond). unsigned_abs b.j) inst.bonds (record { u = 0; v = 0; j = pos 0 }))

  -- the energy of the whole, by the costs and sizes of its parts
  energy_over : (s : List ℤ) → IsAssignment inst s → energy inst s ≡ pos (over_bonds (cost_at inst s) parts) -ℤ pos (over_bonds (size_at inst) parts)
  energy_over s assigned =
      energy_from_costs inst s good assigned
      ∙ ap₂ (λ c w. pos c -ℤ pos w) (sum_by_is_sum_below (broken_cost s) inst.bonds (record { u = 0; v = 0; j = pos 0 })
      ∙ sym (dealt_to_parts inst parts are (cost_at inst s))) (sym sizes_all)

  -- the energy of some parts fits 64 bits
  pub glued_fits : (i : ℕ) (e : ℤ) → weight inst ≤ forced_limit → unsigned_abs e ≤ over_bonds (size_at inst) (take i parts) → FitsSigned w64 e
  glued_fits i e light size =
      fits_signed_from_abs w64 e (omega (arith, size, light, sum_by-take-le (λ (q : Part). sum_by (size_at inst) q.bonds) parts i, sizes_all))

  -- all parts together give a solution of the whole
  pub all_glued : (with_loops : Bool) (s : List ℤ) (e : ℤ) (loops : List Loop) → IsGlued inst with_loops parts s e loops →
      IsSolution with_loops inst s e loops
  all_glued with_loops s e loops glued = record {
    state = record {
      ground_state = record {
        assignment = glued.assignment;
        least = λ t other. omega (arith, ints, energy_over s glued.assignment, energy_over t other, glued.least t other);
      };
      stated = energy_over s glued.assignment ∙ sym glued.stated;
      size = omega (arith, glued.size, sizes_all);
      leasts_up = glued.leasts_up;
    };
    packs = record {
      positive = glued.positive;
      frustrated = glued.frustrated;
      within = λ k l. omega (arith, glued.within k, once_each (λ (p : Part). holds p.bonds k) (2 * size_at inst k) parts (are.bonds_once k l));
    };
    short = omega (arith, glued.short, dealt_to_parts inst parts are (λ _. 1), sum_below_ones (bond_count inst));
    tight = λ so. glued.tight so ∙ ap (λ w. e +ℤ pos w) sizes_all;
  }

  module _ (i : ℕ) (p : Part) (l : i < length parts) (same : p ≡ get_or parts i p) where
    -- part i is the component of some spin, and a share of the whole
    pub part_here : (least : ℕ) × IsPart inst least p
    part_here = subst (λ (q : Part). (least : ℕ) × IsPart inst least q) (sym same) (each i p l)

    pub share : IsShare inst p.spins p.bonds p.planar.instance
    share = share_of_part inst part_here.0 p part_here.1

    -- its loops go over its bonds
    pub loops_below : (with_loops : Bool) (t : List ℤ) (f : ℤ) (more : List Loop) → IsSolution with_loops p.planar.instance t f more →
        All (λ (l : Loop). All (λ k. k < length p.bonds) l.bonds) more
    loops_below with_loops t f more found =
        All-weaker (λ (l : Loop). IsFrustratedLoop p.planar.instance l.bonds) (λ (l : Loop). All (λ k. k < length p.bonds) l.bonds)
        (λ loop h j d m. omega (arith, h.set.below j d m, share.bond_counts)) more found.packs.frustrated

    -- a sum over the parts up to this one
    with_this : (f : Part → ℕ) → sum_by f (take (i + 1) parts) ≡ sum_by f (take i parts) + f p
    with_this f = sum_by_more f parts i p l ∙ ap (λ (q : Part). sum_by f (take i parts) + f q) (sym same)

    -- no spin of a part before is one of this part
    apart : (x : ℕ) → x < inst.n → (j : ℕ) (d : Part) → j < length (take i parts) → holds (get_or (take i parts) j d).spins x ≡ true →
        holds p.spins x ≡ false
    apart x low j d m held = elim (cases_Bool (holds p.spins x)) [
      | inr out ↦ out
      | inl both ↦
          absurd (omega (
            arith,
            are.spins_once x low,
            sum_by-take-le times parts (i + 1),
            with_this times,
            get_or-le-sum_by times (take i parts) j d m,
            ap (λ b. cond {A = ℕ} b 1 0) held,
            ap (λ b. cond {A = ℕ} b 1 0) both,
          ))
    ]
      where
        times : Part → ℕ
        times q = cond (holds q.spins x) 1 0

    -- the energy of the part, where the whole has these values of it
    energy_here : (v q : List ℤ) → IsAssignment p.planar.instance q → HasValues p.spins v q →
        energy p.planar.instance q ≡ pos (sum_by (cost_at inst v) p.bonds) -ℤ pos (weight p.planar.instance)
    energy_here v q assigned values =
        energy_from_costs p.planar.instance q share.good assigned
        ∙ ap (λ c. pos c -ℤ pos (weight p.planar.instance)) (sym (costs_over inst p.spins p.bonds p.planar.instance share v q values))

    -- with it the sizes grow by the weight of the part
    sizes_more : over_bonds (size_at inst) (take (i + 1) parts) ≡ over_bonds (size_at inst) (take i parts) + weight p.planar.instance
    sizes_more =
        with_this (λ (q : Part). sum_by (size_at inst) q.bonds)
        ∙ ap (λ w. over_bonds (size_at inst) (take i parts) + w) (weights_over inst p.spins p.bonds p.planar.instance share)

    module _ (with_loops : Bool) (s t u : List ℤ) (e f : ℤ) (loops more : List Loop) (glued : IsGlued inst with_loops (take i parts) s e loops)
        (found : IsSolution with_loops p.planar.instance t f more) (writes : WritesAt p.spins t s u) where
      assigned : IsAssignment p.planar.instance t
      assigned = found.state.ground_state.assignment

      -- each spin has its value in the part, or the value that it had
      value_at : (x : ℕ) → ((k : ℕ) × (k < length p.spins) × (numbered p.spins k ≡ x) × (spin u x ≡ spin t k)) ⊎ (spin u x ≡ spin s x)
      value_at x = elim (cases_in p.spins x) [
        | inl inside ↦ inl (inside.0, inside.1, inside.2, ap (spin u) (sym inside.2) ∙ writes.values inside.0 inside.1)
        | inr outside ↦ inr (writes.others x outside.1)
      ]

      all_assigned : IsAssignment inst u
      all_assigned = record {
        count = writes.count ∙ glued.assignment.count;
        values = All-from_get_or IsUpOrDown u (pos 1) (λ x l. (
            elim (value_at x) [
              | inl here ↦ subst IsUpOrDown (sym here.3) (unit_at p.planar.instance t assigned here.0 (omega (arith, here.1, share.spin_count)))
              | inr old ↦ subst IsUpOrDown (sym old) (unit_at inst s glued.assignment x (omega (arith, l, writes.count, glued.assignment.count)))
            ]));
      }

      -- the least spin of the part is its first
      leasts_up : LeastsUp inst u
      leasts_up x l least = elim (value_at x) [
        | inr old ↦ old ∙ glued.leasts_up x l least
        | inl here ↦
            let some : 0 < length p.spins = omega (arith, here.1) in
            let below =
            least (numbered p.spins 0) (together inst part_here.0 p part_here.1 x (numbered p.spins 0)
            (ap (holds p.spins) (sym here.2) ∙ holds_at p.spins here.0 0 here.1) (holds_at p.spins 0 0 some)) in
            elim (cases_eq here.0 0) [
              | inl first ↦
                  here.3 ∙ ap (spin t) first ∙ found.state.leasts_up 0 (omega (arith, some, share.spin_count)) (λ j r. omega arith)
              | inr later ↦ absurd (omega (arith, rising_order p.spins share.spins_rise 0 here.0 (omega (arith, later)) here.1, below, here.2))
            ]
      ]

      -- what broken bonds cost in the parts before stays
      costs_before : over_bonds (cost_at inst u) (take i parts) ≡ over_bonds (cost_at inst s) (take i parts)
      costs_before =
          sum_by-same (λ (q : Part). sum_by (cost_at inst u) q.bonds) (λ (q : Part). sum_by (cost_at inst s) q.bonds) (take i parts)
          (λ j d m. sum_by-same (cost_at inst u) (cost_at inst s) (get_or (take i parts) j d).bonds
          (λ k c n. same_cost j d m (get_or (get_or (take i parts) j d).bonds k c) (holds_at (get_or (take i parts) j d).bonds k c n)))
        where
          same_cost : (j : ℕ) (d : Part) → j < length (take i parts) → (k : ℕ) → holds (get_or (take i parts) j d).bonds k ≡ true →
              cost_at inst u k ≡ cost_at inst s k
          same_cost j d m k held =
              let q : Part = get_or (take i parts) j d in
              let is : (least : ℕ) × IsPart inst least q = All-take (λ (p : Part). (least : ℕ) × IsPart inst least p) i parts each j d m in
              let low : k < bond_count inst = ((is.1.bonds k).0 held).0 in
              let first = kept (bond_at inst k).u (ends k low).first_end (first_inside inst is.0 q is.1 k held) in
              let second = kept (bond_at inst k).v (ends k low).second_end (second_inside inst is.0 q is.1 (λ k l. (ends k l).second_end) k held) in
              rw (first, second) refl
            where
              kept : (x : ℕ) → x < inst.n → holds (get_or (take i parts) j d).spins x ≡ true → spin u x ≡ spin s x
              kept x low inside = writes.others x (apart x low j d m inside)

      -- with this part they grow by what they cost there
      costs_more : over_bonds (cost_at inst u) (take (i + 1) parts) ≡ over_bonds (cost_at inst s) (take i parts) + sum_by (cost_at inst u) p.bonds
      costs_more = with_this (λ (q : Part). sum_by (cost_at inst u) q.bonds) ∙ ap (λ c. c + sum_by (cost_at inst u) p.bonds) costs_before

      -- other spins make its bonds cost no less
      no_less : (v : List ℤ) → IsAssignment inst v → sum_by (cost_at inst u) p.bonds ≤ sum_by (cost_at inst v) p.bonds
      no_less v other =
          let inside : IsAssignment p.planar.instance (values_in p.spins v) = share_assignment inst p.spins p.bonds p.planar.instance share v other in
          let own = energy_here u t assigned writes.values in
          let others = energy_here v (values_in p.spins v) inside (in_place p.spins v) in
          omega (arith, ints, own, others, found.state.ground_state.least (values_in p.spins v) inside)

      -- one part more
      pub part_glued : IsGlued inst with_loops (take (i + 1) parts) u (e +ℤ f) (loops ++ map (loop_in_whole p.bonds) more)
      part_glued = record {
        assignment = all_assigned;
        stated = omega (arith, ints, glued.stated, found.state.stated, energy_here u t assigned writes.values, costs_more, sizes_more);
        size = omega (arith, ints, glued.size, found.state.size, sizes_more);
        least = λ v other.
            omega (arith, costs_more, with_this (λ (q : Part). sum_by (cost_at inst v) q.bonds), glued.least v other, no_less v other);
        leasts_up = leasts_up;
        positive = All-append (λ (l : Loop). pos 1 ≤ℤ l.y) loops (map (loop_in_whole p.bonds) more) glued.positive
            (All-map (λ (l : Loop). pos 1 ≤ℤ l.y) (loop_in_whole p.bonds) more found.packs.positive);
        frustrated = All-append (λ (l : Loop). IsFrustratedLoop inst l.bonds) loops (map (loop_in_whole p.bonds) more) glued.frustrated
            (All-map (λ (l : Loop). IsFrustratedLoop inst l.bonds) (loop_in_whole p.bonds) more
            (All-weaker (λ (l : Loop). IsFrustratedLoop p.planar.instance l.bonds) (λ (l : Loop). IsFrustratedLoop inst (map (numbered p.bonds) l.bonds))
            (λ l h. loop_over inst p.spins p.bonds p.planar.instance share l.bonds h) more found.packs.frustrated));
        within = λ k.
            omega (
              arith,
              sum_by-append (λ (l : Loop). cond (holds l.bonds k) (loop_weight l) 0) loops (map (loop_in_whole p.bonds) more),
              with_this (λ (q : Part). cond (holds q.bonds k) (2 * size_at inst k) 0),
              glued.within k,
              load_over inst p.spins p.bonds p.planar.instance share more found.packs.frustrated found.packs.within k,
            );
        short =
            omega (
              arith,
              length-append loops (map (loop_in_whole p.bonds) more),
              length-map more (loop_in_whole p.bonds),
              glued.short,
              found.short,
              share.bond_counts,
              with_this (λ (q : Part). sum_by (λ _. 1) q.bonds),
              ones p.bonds,
            );
        tight = λ so.
            let all = sum_by-append loop_weight loops (map (loop_in_whole p.bonds) more) in
            omega (arith, ints, glued.tight so, found.tight so, all, total_over p.bonds more, sizes_more);
      }
        where
          ones : (xs : List ℕ) → sum_by (λ _. 1) xs ≡ length xs
          ones [] = refl
          ones (x ∷ xs) = omega (arith, ones xs, sum_by-cons (λ _. 1) x xs)
