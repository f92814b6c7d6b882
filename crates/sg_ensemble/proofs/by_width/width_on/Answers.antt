use Rattle.std.proofs.Common.{◌∙◌}
use Rattle.sg_ensemble.proofs.by_width.width_on.Goals as goal

pub returns-clause-width : goal.returns-clause-width
returns-clause-width g c = record {
  walls = c.in_ok-found.found.walls;
  are = c.in_ok-found.ensures.walls;
  columns = c.width_of.ensures.columns;
  summed = c.width_of.ensures.sum ∙ c.in_ok-found.ensures.sum;
  squared = c.width_of.ensures.squares ∙ c.in_ok-found.ensures.squares;
}
