use Rattle.std.proofs.Common.{rules, ◌≡◌, ◌∙◌, ap, sym, subst, min}
use Rattle.sg_base.specs.Limits.{large_spin_limit}
use Rattle.sg_model.specs.Ising.{Ising, bond_count}
use Rattle.sg_model.specs.WellFormed.{IsInstance}
use Rattle.sg_calls.proofs.TableLemmas.{AreCouplings, are-tables, lattice-couplings}
use Rattle.sg_calls.proofs.tables.tables_of.Goals as goal

pub returns-clause-gives : goal.returns-clause-gives
returns-clause-gives c =
    let inst : Ising = c.in_ok-instance.instance in
    let given = c.in_ok-instance.ensures.gives in
    let js = c.args.couplings.now in
    let most : c.min.result ≡ min c.args.most_spins large_spin_limit = search rules in
    let is : IsInstance inst = c.bonds.ensures.instance in
    let coupled : AreCouplings inst.bonds js = subst (λ (i : Ising). AreCouplings i.bonds js) (sym given.is)
    (lattice-couplings given.kind c.args.rows c.args.cols js (sym c.in_ok-instance.ensures.count ∙ ap bond_count given.is)) in
    let cut = rw c.rotation.ensures.value at c.in_ok-starts.ensures in
    record {
      instance = inst;
      given = rw most at given;
      study = rw (c.in_ok-ends.ensures, c.bonds.ensures.value, c.in_ok-seam.ensures.cases, c.seam.ensures.value)
          (are-tables inst js c.in_ok-starts.starts.items c.in_ok-starts.darts.items is coupled cut);
    }

pub returns-in_err-instance-clause-refuses : goal.returns-in_err-instance-clause-refuses
returns-in_err-instance-clause-refuses c = search rules
