use Rattle.std.proofs.Common.{sym, subst, arith}
use Rattle.sg_model.specs.WellFormed.{IsInstance}
use Rattle.sg_model.proofs.SameEnds.{recoupled_instance}
use Rattle.sg_model.proofs.instance.Instance.with_bonds.Goals as goal

pub returns : goal.returns
returns c = grind arith

pub invariant_of-result : goal.invariant_of-result
invariant_of-result c =
    subst IsInstance (sym (returns c)) (recoupled_instance c.args.self.now c.args.bonds c.requires (subst IsInstance c.self.view_is c.self.invariant))
