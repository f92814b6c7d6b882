use Rattle.std.proofs.Common.{◌∷◌}
use Rattle.std.proofs.lemmas.Result.{IfErr-weaker}
use Rattle.sg_reader.specs.Result.{result_fault}
use Rattle.sg_reader.proofs.EndedLaws.{without-first}
use Rattle.sg_reader.proofs.RestLaws.{failed, rest-none}
use Rattle.sg_reader.proofs.ResultLaws.{spins-fault}
use Rattle.sg_reader.proofs.result.next_spins.Goals as goal

pub returns-in_err-next-clause-fault : goal.returns-in_err-next-clause-fault
returns-in_err-next-clause-fault c = failed _ _ c.from_residual.ensures.1 (λ q. rest-none _ _ c.in_err-next.ensures.failed)

pub returns-then-not-branch-clause-fault : goal.returns-then-not-branch-clause-fault
returns-then-not-branch-clause-fault c =
    let none = rw c.if-not-branch.true at c.in_ok-next.ensures.found in
    λ q. without-first (λ body. result_fault (q ∷ body)) _ _ none.0 none.1

pub returns-clause-fault : goal.returns-clause-fault
returns-clause-fault c =
    let next = rw c.if-not-branch.false at c.in_ok-next.ensures.found in
    IfErr-weaker c.read_spins.result _ _ (λ e bad q. spins-fault q _ _ _ e next bad) c.read_spins.ensures.fault
