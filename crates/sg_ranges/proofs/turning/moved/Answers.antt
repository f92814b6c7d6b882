use Rattle.std.proofs.Common.{arith}
use Rattle.std.proofs.lemmas.Int.{ints}
use Rattle.sg_ranges.proofs.turning.moved.Goals as goal

pub returns-else-product-eq1-clause-value : goal.returns-else-product-eq1-clause-value
returns-else-product-eq1-clause-value c = grind (arith, ints)
