use Rattle.std.proofs.Common.{arith}
use Rattle.std.proofs.lemmas.Grind.{common_steps}
use Rattle.sg_cli.proofs.ranges.ranges_reply.Goals as goal

pub ranges_text-requires : goal.ranges_text-requires
ranges_text-requires c = grind (arith, common_steps)
