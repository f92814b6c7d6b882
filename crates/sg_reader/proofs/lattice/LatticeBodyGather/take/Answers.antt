use Rattle.std.proofs.Common.{◌≡◌, true, false, Some, sym, ◌∙◌, ap, refl}
use Rattle.sg_reader.specs.Body.{says_seam}
use Rattle.sg_reader.proofs.LatticeLaws.{couplings-refused, couplings-taken, seam-refused, seam-taken}
use Rattle.sg_reader.proofs.RestLaws.{failed}
use Rattle.sg_reader.proofs.lattice.LatticeBodyGather.take.Goals as goal

pub returns-in_err-bonds-clause-fault : goal.returns-in_err-bonds-clause-fault
returns-in_err-bonds-clause-fault c =
    let is : says_seam c.args.row.now ≡ true = sym c.begins.ensures ∙ c.if-begins.true in
    failed _ _ c.from_residual.ensures.1 (seam-refused _ _ _ _ (sym c.is_some.ensures) is c.in_err-bonds.ensures.fault)

pub returns-then-begins-clause-taken : goal.returns-then-begins-clause-taken
returns-then-begins-clause-taken c =
    let is : says_seam c.args.row.now ≡ true = sym c.begins.ensures ∙ c.if-begins.true in
    seam-taken _ _ _ _ (sym c.is_some.ensures) is c.in_ok-bonds.ensures.passes refl refl (ap Some c.in_ok-bonds.ensures.value)

pub returns-in_err-push_couplings-clause-fault : goal.returns-in_err-push_couplings-clause-fault
returns-in_err-push_couplings-clause-fault c =
    let other : says_seam c.args.row.now ≡ false = sym c.begins.ensures ∙ c.if-begins.false in
    failed _ _ c.from_residual-in_err-push_couplings.ensures.1 (couplings-refused _ _ _ other c.requires.other c.in_err-push_couplings.ensures.fault)

pub returns-clause-taken : goal.returns-clause-taken
returns-clause-taken c =
    let other : says_seam c.args.row.now ≡ false = sym c.begins.ensures ∙ c.if-begins.false in
    couplings-taken _ _ _ other c.requires.other c.in_ok-push_couplings.ensures.passes refl c.in_ok-push_couplings.ensures.added refl
