-- Lists of different names.
use Rattle.std.proofs.Common.{◌≡◌, ◌≢◌, ℕ, ◌<◌, List, [], ◌∷◌, length, get_or, sym, subst, arith, ◌-◌, ◌⊎◌, ◌++◌, Contains, ◌∙◌, inl, inr, length-append}
use Rattle.std.proofs.lemmas.Bool.{cases_lt}
use Rattle.std.proofs.lemmas.List.{get_or_append_left, get_or_default}
use Rattle.std.proofs.lemmas.List.Elements.{Contains-get_or}
use Rattle.std.proofs.Math.Seq.{get_or-append_right}
use Rattle.sg_slack.proofs.DistinctLemmas.{at_end}
use Rattle.sg_base.specs.Sets.{Differ}

-- an entry has a place
pub place_of_name : (xs : List ℕ) (n : ℕ) → Contains xs n → (i : ℕ) × (i < length xs) × (get_or xs i 0 ≡ n)
place_of_name xs n at = (at.0, at.1, get_or_default xs at.0 0 n at.1 ∙ at.2)

-- two lists that share no name
pub Differ-append : (xs ys : List ℕ) → Differ xs → Differ ys → ((n : ℕ) → Contains xs n → Contains ys n → ⊥) → Differ (xs ++ ys)
Differ-append xs ys dx dy apart i j low_i low_j same =
    elim (cases_lt i (length xs)) [
      | inl a ↦ elim (cases_lt j (length xs)) [
        | inl b ↦ dx i j a b (sym (get_or_append_left xs ys 0 i a) ∙ same ∙ get_or_append_left xs ys 0 j b)
        | inr b ↦ absurd (apart (get_or xs i 0) (Contains-get_or xs i 0 a)
            (subst (λ n. Contains ys n) (sym (sym (get_or_append_left xs ys 0 i a) ∙ same ∙ get_or-append_right xs ys j 0 b))
            (Contains-get_or ys (j - length xs) 0 (omega (arith, low_j, b, length-append xs ys)))))
      ]
      | inr a ↦ elim (cases_lt j (length xs)) [
        | inl b ↦ absurd (apart (get_or xs j 0) (Contains-get_or xs j 0 b)
            (subst (λ n. Contains ys n) (sym (get_or-append_right xs ys i 0 a) ∙ same ∙ get_or_append_left xs ys 0 j b)
            (Contains-get_or ys (i - length xs) 0 (omega (arith, low_i, a, length-append xs ys)))))
        | inr b ↦ omega (
          arith,
          a,
          b,
          dy (i - length xs) (j - length xs) (omega (arith, low_i, a, length-append xs ys))
              (omega (arith, low_j, b, length-append xs ys)) (sym (get_or-append_right xs ys i 0 a) ∙ same ∙ get_or-append_right xs ys j 0 b),
        )
      ]
    ]

-- two different names differ
pub Differ-two : (a b : ℕ) → a ≢ b → Differ (a ∷ b ∷ [])
Differ-two a b h1 = grind arith

-- a list of two has these two alone
pub Contains-two : (a b n : ℕ) → Contains (a ∷ b ∷ []) n → (n ≡ a) ⊎ (n ≡ b)
Contains-two a b n h1 = grind arith

-- one more name
pub Differ-last : (xs : List ℕ) (y : ℕ) → Differ xs → ((i : ℕ) → i < length xs → get_or xs i 0 ≢ y) → Differ (xs ++ y ∷ [])
Differ-last xs y differ away i j low_i low_j same = grind (arith, at_end)
