use Rattle.std.proofs.Common.{◌≡◌, ◌+◌, ◌<◌, ℕ, All, cond, eqb, length, sym, ◌∙◌, ap, ap₂, subst, arith, rules}
use Rattle.std.proofs.lemmas.List.{with_items_is}
use Rattle.std.proofs.lemmas.List.FromFn.{length-range_with_len}
use Rattle.std.proofs.lemmas.List.Sums.{count_by-le-length}
use Rattle.std.proofs.lemmas.Option.{get_or_from_slice_get}
use Rattle.sg_model.specs.Rotation.{darts_of, rev}
use Rattle.sg_base.specs.Sets.{DifferByCount}
use Rattle.sg_model.proofs.Rotations.{spin_distinct}
use Rattle.sg_faces.specs.Faces.{is_bare}
use Rattle.sg_faces.proofs.BareSpins.{bare_by_list}
use Rattle.sg_faces.proofs.OrbitWalks.{count_range_more}
use Rattle.sg_faces.proofs.PhiTables.{darts_room, has_phi_more, has_phi_all}
use Rattle.sg_faces.proofs.table.phi_table.Goals as goal
use Rattle.sg_faces.proofs.table.phi_table.Goals.{After-at-darts}

pub loop-spin-init : goal.loop-spin-init
loop-spin-init c = record { entered = record { lengths = search rules; entries = λ d l t. absurd (omega arith) }; counted = search rules }

-- the spin of this step, and its darts
low : (c : After-at-darts) → c.loop-spin.spin < c.args.inst.now.n
low c = omega arith

darts : (c : After-at-darts) → c.at-darts.result.now ≡ darts_of c.args.inst.now c.loop-spin.spin
darts c = grind (arith, get_or_from_slice_get)

pub link-requires-clause-distinct : goal.link-requires-clause-distinct
link-requires-clause-distinct c =
    let here = (goal.at.link-requires-clause-distinct c).After-at-darts in
    subst DifferByCount (sym (darts here)) (spin_distinct c.args.inst.now c.rotation.ensures.instance c.loop-spin.spin (low here))

pub link-requires-clause-below : goal.link-requires-clause-below
link-requires-clause-below c =
    let here = (goal.at.link-requires-clause-below c).After-at-darts in
    subst (All (λ d. rev d < length c.deref_mut.result.now)) (sym (darts here))
    (darts_room c.args.inst.now c.rotation.ensures.instance c.loop-spin.spin (length c.deref_mut.result.now) (low here)
    (ap length c.deref_mut.ensures.value ∙ c.loop-spin.invariant.entered.lengths))

pub overflow_add-bare : goal.overflow_add-bare
overflow_add-bare c = grind (arith, count_by-le-length, length-range_with_len)

pub loop-spin-preserved : goal.loop-spin-preserved
loop-spin-preserved c =
    let inst = c.args.inst.now in
    let spin : ℕ = c.loop-spin.spin in
    let here = (goal.at.loop-spin-preserved c).After-at-darts in
    let bare : c.is_bare-bare.result ≡ cond (is_bare inst spin) 1 0 =
    c.is_bare-bare.ensures.value
    ∙ ap (λ b. cond b 1 0) (ap (λ xs. eqb (length xs) 0) (darts here) ∙ sym (bare_by_list inst c.rotation.ensures.instance spin (low here))) in
    record {
      entered = rw (with_items_is c.loop-spin.table c.link.new.table (search rules))
          (has_phi_more inst c.rotation.ensures.instance spin c.loop-spin.table.items c.link.new.table (low here) (search rules)
          c.loop-spin.invariant.entered
          (rw (darts here) at c.link.ensures.follows) (rw (c.deref_mut.ensures.value, darts here) at c.link.ensures.kept));
      counted = ap₂ (λ n m. n + m) c.loop-spin.invariant.counted bare ∙ sym (count_range_more (is_bare inst) spin);
    }

pub returns-clause-table : goal.returns-clause-table
returns-clause-table c =
    has_phi_all c.args.inst.now c.n-spin-end.ensures.instance c.loop-spin.spin c.loop-spin.table.items
    (omega arith) c.loop-spin.invariant.entered
