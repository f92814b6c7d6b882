use Rattle.std.proofs.Common.{Some, ◌∙◌, ap, refl, subst}
use Rattle.std.proofs.lemmas.Result.{IfErr-weaker, IfOk-weaker}
use Rattle.sg_reader.specs.declared.header.Header.TheVariants as header
use Rattle.sg_reader.specs.Header.{IsHeader}
use Rattle.sg_reader.specs.ReadInstance.{AtFirst, WithoutFirst}
use Rattle.sg_reader.proofs.GivenInstance.{body-given}
use Rattle.sg_reader.proofs.ReadLaws.{behind-fault}
use Rattle.sg_reader.proofs.RestLaws.{failed, rest-none}
use Rattle.sg_reader.proofs.read.read_instance.Goals as goal

pub returns-in_err-next-clause-fault : goal.returns-in_err-next-clause-fault
returns-in_err-next-clause-fault c = failed _ _ c.from_residual.ensures.1 (rest-none _ _ c.in_err-next.ensures.failed)

pub returns-then-not-branch-clause-fault : goal.returns-then-not-branch-clause-fault
returns-then-not-branch-clause-fault c =
    let none = rw c.if-not-branch.true at c.in_ok-next.ensures.found in
    WithoutFirst none.0 refl none.1

pub returns-in_err-kind-clause-fault : goal.returns-in_err-kind-clause-fault
returns-in_err-kind-clause-fault c =
    let next = rw c.if-not-branch.false at c.in_ok-next.ensures.found in
    failed _ _ c.from_residual-in_err-kind.ensures.1 (AtFirst c.next.new.row next c.in_err-kind.ensures.refused)

pub returns-in-Lattice-clause-fault : goal.returns-in-Lattice-clause-fault
returns-in-Lattice-clause-fault c =
    let next = rw c.if-not-branch.false at c.in_ok-next.ensures.found in
    let says = c.in_ok-kind.ensures.value ∙ ap Some c.in-Lattice.is in
    IfErr-weaker _ _ _ (λ e fault. behind-fault _ _ _ _ _ e next c.in_ok-kind.ensures.passes says fault) c.read_lattice.ensures.fault

pub returns-clause-fault : goal.returns-clause-fault
returns-clause-fault c =
    let next = rw c.if-not-branch.false at c.in_ok-next.ensures.found in
    let says = c.in_ok-kind.ensures.value ∙ ap Some c.in-General.is in
    IfErr-weaker _ _ _ (λ e fault. behind-fault _ _ _ _ _ e next c.in_ok-kind.ensures.passes says fault) c.read_general.ensures.fault

pub returns-in-Lattice-clause-few_spins : goal.returns-in-Lattice-clause-few_spins
returns-in-Lattice-clause-few_spins c =
    let sound : IsHeader (header.Lattice c.in-Lattice.kind c.in-Lattice.high c.in-Lattice.wide) = subst IsHeader c.in-Lattice.is c.in_ok-kind.ensures.sound in
    IfOk-weaker _ _ _ (λ inst reads. (body-given _ _ inst _ sound reads).few_spins) c.read_lattice.ensures.read

pub returns-in-Lattice-clause-few_bonds : goal.returns-in-Lattice-clause-few_bonds
returns-in-Lattice-clause-few_bonds c =
    let sound : IsHeader (header.Lattice c.in-Lattice.kind c.in-Lattice.high c.in-Lattice.wide) = subst IsHeader c.in-Lattice.is c.in_ok-kind.ensures.sound in
    IfOk-weaker _ _ _ (λ inst reads. (body-given _ _ inst _ sound reads).few_bonds) c.read_lattice.ensures.read

pub returns-clause-few_spins : goal.returns-clause-few_spins
returns-clause-few_spins c =
    let sound : IsHeader (header.General c.in-General.n) = subst IsHeader c.in-General.is c.in_ok-kind.ensures.sound in
    IfOk-weaker _ _ _ (λ inst reads. (body-given _ _ inst _ sound reads).few_spins) c.read_general.ensures.read

pub returns-clause-few_bonds : goal.returns-clause-few_bonds
returns-clause-few_bonds c =
    let sound : IsHeader (header.General c.in-General.n) = subst IsHeader c.in-General.is c.in_ok-kind.ensures.sound in
    IfOk-weaker _ _ _ (λ inst reads. (body-given _ _ inst _ sound reads).few_bonds) c.read_general.ensures.read
