use Rattle.std.proofs.Common.{length}
use Rattle.sg_regions.specs.declared.nest_proposal.NestProposal.{NestProposal}
use Rattle.sg_regions.proofs.Runs.{accounts_grown}
use Rattle.sg_regions.proofs.proposer.KeptRegionsProposerNestProposal.propose.Goals as goal

pub returns-clause-counted : goal.returns-clause-counted
returns-clause-counted c =
    accounts_grown c.in_ok-grown.grown.found (λ (p : NestProposal). length p.nest.regions) _ _ _ _ c.count.ensures.blossoms c.count.ensures.events
    c.in_ok-grown.ensures.counted
