use Rattle.std.proofs.Common.{length, subst, IfSome, MatchOption}
use Rattle.sg_nest.specs.declared.nest.Nest.{Nest}
use Rattle.sg_regions.specs.Steps.{Accounts}
use Rattle.sg_regions.specs.declared.nest_proposal.NestProposal.{NestProposal}
use Rattle.sg_tjoin.specs.declared.LeastJoin.{LeastJoin}
use Rattle.sg_tjoin.proofs.Counting.{later}
use Rattle.sg_tjoin.proofs.nested.nested_join.Goals as goal

pub returns-in-Some-clause-counted : goal.returns-in-Some-clause-counted
returns-in-Some-clause-counted g c =
    let old = g.R.Proposer.steps c.args.proposer.now in
    let new = g.R.Proposer.steps c.propose.new.self in
    subst (λ found. IfSome found (λ (j : LeastJoin). MatchOption j.nest ⊥
    (λ (n : Nest). Accounts (length c.args.terminals.now) (length n.regions) old new))) c.in-Some.is
    (c.in_ok-join.ensures.counted old new c.in_ok-first.ensures.counted)

pub returns-clause-counted : goal.returns-clause-counted
returns-clause-counted g c =
    let old = g.R.Proposer.steps c.args.proposer.now in
    let mid = g.R.Proposer.steps c.propose.new.self in
    let new = g.R.Proposer.steps c.propose_again.new.self in
    c.accepted-2.ensures.counted old new
    (later c.in_ok-second.second (λ (p : NestProposal). length p.nest.regions) 3 _ _ old mid new c.in_ok-first.ensures.within
    c.in_ok-second.ensures.counted)
