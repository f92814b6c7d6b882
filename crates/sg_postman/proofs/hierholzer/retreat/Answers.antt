use Rattle.std.proofs.Common.{rules}
use Rattle.sg_postman.proofs.hierholzer.retreat.Goals as goal

pub returns-in_ok-push-in-Some-clause-more : goal.returns-in_ok-push-in-Some-clause-more
returns-in_ok-push-in-Some-clause-more c = search rules
