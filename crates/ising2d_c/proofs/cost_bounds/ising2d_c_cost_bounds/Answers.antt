use Rattle.sg_calls.specs.BondCosts.{bound_lists}
use Rattle.ising2d_c.proofs.cost_bounds.ising2d_c_cost_bounds.Goals as goal

pub returns-in-Ok-clause-found : goal.returns-in-Ok-clause-found
returns-in-Ok-clause-found c = λ done.
    c.in-Ok.ensures.gives (bound_lists c.write_bounds.new.low c.write_bounds.new.high) (rw c.as_slice.ensures.value at c.write_bounds.ensures)
