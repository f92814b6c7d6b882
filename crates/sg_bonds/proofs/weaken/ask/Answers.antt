use Rattle.sg_bonds.proofs.Common.{◌≡◌, ◌∙◌, ℤ, List, sym, subst, ap, rules, Ising, IsGroundState, energy}
use Rattle.std.proofs.lemmas.Result.{err_from_is_err_and}
use Rattle.sg_bonds.specs.Weakened.{amount_at, weakened}
use Rattle.sg_bonds.proofs.Weakening.{least_there, other_less, weaker_exceeds}
use Rattle.sg_bonds.proofs.weaken.ask.Goals as goal

pub returns-in_err-state-clause-too_large : goal.returns-in_err-state-clause-too_large
returns-in_err-state-clause-too_large c =
    let p = err_from_is_err_and c.from_residual-in_err-state.result c.from_residual-in_err-state.ensures.1 in
    rw (p.1, p.2) (
    weaker_exceeds c.args.study.now.planar.now.instance c.in_ok-copy.copy.instance c.args.scale c.args.study.now.least.now.spins
    (amount_at c.args.amounts.now) c.in_ok-copy.ensures c.args.study.now.most_bytes c.in_err-state.field-0.0 c.in_err-state.ensures.too_large)

pub returns-then-energy-from-clause-found : goal.returns-then-energy-from-clause-found
returns-then-energy-from-clause-found c =
    let inst : Ising = c.args.study.now.planar.now.instance in
    let s : List ℤ = c.args.study.now.least.now.spins in
    let t : List ℤ = c.in_ok-state.state.spins in
    let weaker : Ising = weakened inst c.args.scale s (amount_at c.args.amounts.now) in
    let ground : IsGroundState weaker t = subst (λ (i : Ising). IsGroundState i t) c.in_ok-copy.ensures c.in_ok-state.ensures.ground_state in
    let here : c.energy.result ≡ energy weaker s = c.energy.ensures ∙ ap (λ (i : Ising). energy i s) (c.instance.ensures.value ∙ c.in_ok-copy.ensures) in
    let there : c.from.result ≡ energy weaker t = search rules in
    let same : c.energy.result ≡ c.from.result = search rules in
    least_there inst c.args.scale s c.requires.study.ground_state.assignment (amount_at c.args.amounts.now) t ground
    (sym here ∙ same ∙ there)

pub returns-clause-found : goal.returns-clause-found
returns-clause-found c =
    let inst : Ising = c.args.study.now.planar.now.instance in
    let s : List ℤ = c.args.study.now.least.now.spins in
    let t : List ℤ = c.in_ok-state.state.spins in
    let weaker : Ising = weakened inst c.args.scale s (amount_at c.args.amounts.now) in
    let ground : IsGroundState weaker t = subst (λ (i : Ising). IsGroundState i t) c.in_ok-copy.ensures c.in_ok-state.ensures.ground_state in
    let here : c.energy.result ≡ energy weaker s = c.energy.ensures ∙ ap (λ (i : Ising). energy i s) (c.instance.ensures.value ∙ c.in_ok-copy.ensures) in
    let there : c.from.result ≡ energy weaker t = search rules in
    let differ : c.energy.result ≡ c.from.result → ⊥ = search rules in (
      ground,
      other_less inst c.args.scale s c.requires.study.ground_state.assignment (amount_at c.args.amounts.now) t ground
          (λ e. differ (here ∙ e ∙ sym there)),
    )
