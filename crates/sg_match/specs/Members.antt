-- The outer leaves that a `Near` knows, in a round.
use Rattle.std.specs.Prelude.{◌≡◌, ℕ, ◌++◌, ◌∷◌, [], List, ℤ, ◌⊎◌}
use Rattle.sg_slack.specs.Members.{IsMember, Member}
use Rattle.sg_slack.specs.declared.Mark.{Mark}
use Rattle.sg_slack.specs.declared.Mark.TheVariants.{Outer}

-- a leaf that is marked as outer has become a member, if it was none; no other leaf has
abbrev pub JoinsMembers : List Member → List Member → ℕ → ℤ → Mark → Type 0
JoinsMembers old new leaf total mark =
    ((mark ≡ Outer) × (new ≡ old ++ record { leaf = leaf; total = total } ∷ [])) ⊎
    ((mark ≡ Outer → IsMember old leaf) × (new ≡ old))
