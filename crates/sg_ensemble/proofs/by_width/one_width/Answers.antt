use Rattle.std.proofs.Common.{◌∙◌, ◌*◌, subst}
use Rattle.sg_laws.proofs.Streams.{made_same}
use Rattle.sg_ensemble.specs.Samples.{AreWalls, draw_count}
use Rattle.sg_ensemble.proofs.by_width.one_width.Goals as goal

pub returns-in_err-found-clause-made : goal.returns-in_err-found-clause-made
returns-in_err-found-clause-made g c =
    let made = c.ensemble.ensures.made in
    record { samples = made.samples; few = made.few; drawn = made_same _ _ _ _ c.start.ensures.stream made.drawn }

pub returns-clause-width : goal.returns-clause-width
returns-clause-width g c = record {
  walls = c.in_ok-found.found.walls;
  are = subst (λ draws. AreWalls c.args.rows c.args.cols c.args.count draws c.in_ok-found.found.walls)
      (c.start.ensures.stream (c.args.count * draw_count c.args.rows c.args.cols)) c.in_ok-found.ensures.walls;
  columns = c.width_of.ensures.columns;
  summed = c.width_of.ensures.sum ∙ c.in_ok-found.ensures.sum;
  squared = c.width_of.ensures.squares ∙ c.in_ok-found.ensures.squares;
}

pub returns-clause-rest : goal.returns-clause-rest
returns-clause-rest g c = made_same _ _ _ _ c.start.ensures.stream c.in_ok-found.ensures.rest

pub returns-clause-made : goal.returns-clause-made
returns-clause-made g c =
    let made = c.ensemble.ensures.made in
    record { samples = made.samples; few = made.few; drawn = made_same _ _ _ _ c.start.ensures.stream made.drawn }

pub returns-clause-seeds : goal.returns-clause-seeds
returns-clause-seeds g c = λ s n. c.ensemble.ensures.seeds s n ∙ c.start.ensures.seeds s n

pub returns-in_err-found-clause-seeds : goal.returns-in_err-found-clause-seeds
returns-in_err-found-clause-seeds g c = λ s n. c.ensemble.ensures.seeds s n ∙ c.start.ensures.seeds s n
