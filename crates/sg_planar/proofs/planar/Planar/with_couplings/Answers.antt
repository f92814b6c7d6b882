use Rattle.std.proofs.Common.{◌≡◌, ◌≤◌, length, sym, subst}
use Rattle.sg_model.specs.Ising.{bond_count}
use Rattle.sg_model.specs.Energy.{weight}
use Rattle.sg_model.specs.Changes.{with_couplings}
use Rattle.sg_base.specs.Limits.{forced_limit}
use Rattle.sg_planar.specs.Fit.{Embedding}
use Rattle.sg_planar.proofs.OtherCouplings.{components_redrawn, couplings_drawing, couplings_small, planar_redrawn}
use Rattle.sg_planar.proofs.planar.Planar.with_couplings.Goals as goal

pub with_couplings-requires-clause-sizes : goal.with_couplings-requires-clause-sizes
with_couplings-requires-clause-sizes c = couplings_small c.args.self.instance c.args.couplings.now c.requires.count c.requires.sum

pub invariant_of-result : goal.invariant_of-result
invariant_of-result c =
    let p : Embedding = record { instance = c.self.inside.instance; faces = c.self.inside.faces } in
    let couplings = c.args.couplings.now in
    let count : length couplings ≡ bond_count p.instance = subst (λ (q : Embedding). length couplings ≡ bond_count q.instance) (sym c.self.view_is)
    c.requires.count in
    let sum : weight (with_couplings p.instance couplings) ≤ forced_limit =
    subst (λ (q : Embedding). weight (with_couplings q.instance couplings) ≤ forced_limit) (sym c.self.view_is) c.requires.sum in
    let drawing = couplings_drawing p.instance couplings count sum in
    rw c.with_couplings.ensures (
      planar_redrawn p (with_couplings p.instance couplings) c.self.invariant.0 drawing sum,
      components_redrawn p.instance (with_couplings p.instance couplings) c.self.invariant.0.instance drawing c.self.inside.components.names
          c.self.inside.components.leasts c.self.invariant.1,
    )

pub returns-clause-planar : goal.returns-clause-planar
returns-clause-planar c =
    let p : Embedding = record { instance = c.self.inside.instance; faces = c.self.inside.faces } in
    let couplings = c.args.couplings.now in
    let count : length couplings ≡ bond_count p.instance = subst (λ (q : Embedding). length couplings ≡ bond_count q.instance) (sym c.self.view_is)
    c.requires.count in
    let sum : weight (with_couplings p.instance couplings) ≤ forced_limit =
    subst (λ (q : Embedding). weight (with_couplings q.instance couplings) ≤ forced_limit) (sym c.self.view_is) c.requires.sum in
    rw c.with_couplings.ensures
    (planar_redrawn p (with_couplings p.instance couplings) c.self.invariant.0 (couplings_drawing p.instance couplings count sum) sum)
