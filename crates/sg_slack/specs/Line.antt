-- Members that have joined one after the other with total 0, each followed by a shift by 1, for the tests.
use Rattle.std.specs.Prelude.{◌≡◌, ℕ, ◌<◌, ◌-◌, List, length, pos}
use Rattle.sg_slack.specs.Members.{Member, member_at}

-- the leaves below n in order; the total of each is how many came since, with itself
pub record IsLine (members : List Member) (n : ℕ) : Type 0 where
  pub count : length members ≡ n
  pub member : (i : ℕ) → i < n → member_at members i ≡ record { leaf = i; total = pos (n - i) }
