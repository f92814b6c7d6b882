-- When two replies are one.
use Rattle.std.specs.Prelude.{◌≡◌, ℕ, List}
use Rattle.sg_report.specs.declared.status.Status.{Status}

-- two replies are one: they have one status and one text
pub record IsSameReply (first second : Status) (text line : List ℕ) : Type 0 where
  pub ended : first ≡ second
  pub printed : text ≡ line
