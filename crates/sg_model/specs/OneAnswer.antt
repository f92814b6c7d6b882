-- When a question has one answer at most.
use Rattle.std.specs.Prelude.{◌≡◌}

-- what is given and what is refused: never both, at most one thing given, and at most one refusal
pub record HasOneAnswer {A B : Type 0} (Gives : A → Type 0) (Refuses : B → Type 0) : Type 0 where
  pub apart : (x : A) (r : B) → Gives x → Refuses r → ⊥
  pub one : (x y : A) → Gives x → Gives y → x ≡ y
  pub named : (r s : B) → Refuses r → Refuses s → r ≡ s
