use Rattle.sg_bonds.proofs.Common.{◌≡◌, ◌∙◌, ℕ, ℤ, List, ap, length, refl, replicate, set, subst, sym, Bond, Ising, bond_count, IsGroundState}
use Rattle.sg_bonds.specs.declared.weaken.Weakened.TheVariants.{Other}
use Rattle.sg_bonds.specs.Weakened.{FitsWeakened, IsWeakened, amount_at, weakened}
use Rattle.sg_bonds.proofs.Weakening.{alone_fits, alone_free, alone_rigid}
use Rattle.sg_bonds.proofs.weaken.decide.Goals as goal

pub ask-requires-clause-fits : goal.ask-requires-clause-fits
ask-requires-clause-fits c =
    let inst : Ising = c.args.study.now.planar.now.instance in
    let count = c.len.ensures ∙ ap (length {A = Bond}) (c.bonds.ensures.value ∙ ap (λ (i : Ising). i.bonds) c.instance.ensures.value) in
    let own : c.deref.result.now ≡ set (replicate {A = ℕ} (bond_count inst) 0) c.args.bond 1 =
    c.deref.ensures.value
    ∙ ap (λ (l : List ℕ). set l c.args.bond 1) (c.in_ok-amounts.ensures.items_if_clones_equal (λ y e. e))
    ∙ ap (λ n. set (replicate {A = ℕ} n 0) c.args.bond 1) count in
    subst (λ (a : List ℕ). FitsWeakened inst 2 (amount_at a)) (sym own) (alone_fits inst c.args.bond c.requires.bond_in c.requires.study.sum)

pub returns-in-Least-clause-rigid : goal.returns-in-Least-clause-rigid
returns-in-Least-clause-rigid c =
    let inst : Ising = c.args.study.now.planar.now.instance in
    let s : List ℤ = c.args.study.now.least.now.spins in
    let count = c.len.ensures ∙ ap (length {A = Bond}) (c.bonds.ensures.value ∙ ap (λ (i : Ising). i.bonds) c.instance.ensures.value) in
    let own : c.deref.result.now ≡ set (replicate {A = ℕ} (bond_count inst) 0) c.args.bond 1 =
    c.deref.ensures.value
    ∙ ap (λ (l : List ℕ). set l c.args.bond 1) (c.in_ok-amounts.ensures.items_if_clones_equal (λ y e. e))
    ∙ ap (λ n. set (replicate {A = ℕ} n 0) c.args.bond 1) count in
    let still : IsGroundState (weakened inst 2 s (amount_at (set (replicate {A = ℕ} (bond_count inst) 0) c.args.bond 1))) s =
    subst (λ (a : List ℕ). IsGroundState (weakened inst 2 s (amount_at a)) s) own
    (subst (IsWeakened inst 2 s (amount_at c.deref.result.now)) c.in-Least.is c.in_ok-ask.ensures.found) in (
      λ e. alone_rigid inst c.args.bond c.requires.bond_in c.instance.ensures.planar.instance s
          c.requires.study.ground_state c.requires.study.sum still,
      λ r. refl,
    )

pub returns-clause-rigid : goal.returns-clause-rigid
returns-clause-rigid c =
    let inst : Ising = c.args.study.now.planar.now.instance in
    let s : List ℤ = c.args.study.now.least.now.spins in
    let t : List ℤ = c.in-Other.field-0 in
    let count = c.len.ensures ∙ ap (length {A = Bond}) (c.bonds.ensures.value ∙ ap (λ (i : Ising). i.bonds) c.instance.ensures.value) in
    let own : c.deref.result.now ≡ set (replicate {A = ℕ} (bond_count inst) 0) c.args.bond 1 =
    c.deref.ensures.value
    ∙ ap (λ (l : List ℕ). set l c.args.bond 1) (c.in_ok-amounts.ensures.items_if_clones_equal (λ y e. e))
    ∙ ap (λ n. set (replicate {A = ℕ} n 0) c.args.bond 1) count in
    let other =
    subst (λ (a : List ℕ). IsWeakened inst 2 s (amount_at a) (Other t)) own
    (subst (IsWeakened inst 2 s (amount_at c.deref.result.now)) c.in-Other.is c.in_ok-ask.ensures.found) in (
      λ e. cc,
      λ r. absurd (alone_free inst c.args.bond c.requires.bond_in c.instance.ensures.planar.instance s c.requires.study.ground_state
          c.requires.study.sum t other.0 other.1 r),
    )
