-- What holds of the fields of a `Near` between two calls.
use Rattle.std.specs.Prelude.{◌≤◌, vec_capacity}
use Rattle.sg_slack.specs.declared.near.Near.TheInside.{Inside}
use Rattle.sg_slack.specs.Kept.{IsNear}

-- the members, the nearest of them, and room for all leaves as members
pub record HoldsInside (e : Inside) : Type 0 where
  pub near : IsNear e.costs e.rise e.members.items e.places.items e.nearest.items
  pub room : e.costs.size ≤ vec_capacity e.members
