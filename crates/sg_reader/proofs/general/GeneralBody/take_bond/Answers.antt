use Rattle.std.proofs.Common.{◌∷◌, ◌++◌, [], ◌∙◌, ap, subst, refl}
use Rattle.sg_model.specs.declared.bond.Bond.{Bond}
use Rattle.sg_model.specs.Ising.{IsBond}
use Rattle.sg_reader.proofs.GeneralLaws.{bond-refused, bond-taken}
use Rattle.sg_reader.proofs.RestLaws.{failed}
use Rattle.sg_reader.proofs.general.GeneralBody.take_bond.Goals as goal

pub read_bond-requires-clause-some : goal.read_bond-requires-clause-some
read_bond-requires-clause-some c = c.requires.held.held.some

pub read_bond-requires-clause-few : goal.read_bond-requires-clause-few
read_bond-requires-clause-few c = rw c.len.ensures c.requires.held.held.few

pub returns-in_err-bond-clause-fault : goal.returns-in_err-bond-clause-fault
returns-in_err-bond-clause-fault c = failed _ _ c.from_residual.ensures.1 (bond-refused _ _ _ _ c.len.ensures c.requires.word c.in_err-bond.ensures.refused)

pub returns-clause-taken : goal.returns-clause-taken
returns-clause-taken c = bond-taken _ _ _ _ c.len.ensures c.requires.word c.in_ok-bond.ensures.passes refl
    (c.in_ok-push.ensures.ok ∙ ap (λ (b : Bond). c.args.self.now.bonds ++ b ∷ []) c.in_ok-bond.ensures.value) refl refl
    (subst (λ (b : Bond). IsBond c.args.self.now.n b) c.in_ok-bond.ensures.value c.in_ok-bond.ensures.sound) c.in_ok-bond.ensures.room
