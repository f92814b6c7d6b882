use Rattle.std.proofs.Common.{◌∙◌, ◌-ℤ◌, ◌+ℤ◌, ◌*ℤ◌, ap, sym, arith}
use Rattle.sg_base.specs.Limits.{sum_limit}
use Rattle.sg_ranges.proofs.MovedCouplings.{turn_found}
use Rattle.sg_ranges.proofs.turning.turn.Goals as goal

pub returns-clause-twice : goal.returns-clause-twice
returns-clause-twice c =
    turn_found c.moved.result c.args.bond.now.j c.product.result c.half.result c.args.cost sum_limit
    (omega arith) c.product.ensures.up_or_down c.requires.coupling
    c.half.ensures.size c.moved.ensures.size c.ranges.cost c.moved.ensures.value c.half.ensures.twice
    ∙ ap (λ p. (c.args.bond.now.j +ℤ c.args.bond.now.j) -ℤ (p *ℤ c.args.cost)) (sym c.product.ensures.value)
