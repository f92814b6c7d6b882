-- Entries of a square table that is kept row by row.
use Rattle.std.proofs.Common.{◌≡◌, ◌⊎◌, ℕ, ◌+◌, ◌*◌, ◌<◌, ◌≤◌, List, ℤ, pos, length, get_or, set, refl, ◌∙◌, inl, inr, arith}
use Rattle.std.proofs.lemmas.Bool.{cases_eq, cases_lt}
use Rattle.std.proofs.lemmas.List.{get_or-set_same, get_or-set_other, length-set}
use Rattle.std.proofs.Math.Nat.{mul-le-mul_right}
use Rattle.sg_slack.specs.Table.{Table, IsPairOf, IsSymmetric, SetsPair}

-- a later row begins past the end of this one
row_past : (n u a : ℕ) → u < a → u * n + n ≤ a * n
row_past n u a less = grind (arith, mul-le-mul_right)

-- an entry is within the table
pub entry-within : (n u v : ℕ) → u < n → v < n → u * n + v < n * n
entry-within n u v low_u low_v = omega (arith, row_past n u n low_u)

-- each entry has one row and one place in it
pub entry-unique : (n u v a b : ℕ) → v < n → b < n → u * n + v ≡ a * n + b → (u ≡ a) × (v ≡ b)
entry-unique n u v a b low_v low_b same = grind (arith, cases_eq, cases_lt, row_past, same)

-- two writes set both entries of a pair
pub SetsPair-written : (n : ℕ) (entries : List ℤ) (u v : ℕ) (cost : ℤ) → length entries ≡ n * n → u < n → v < n →
    SetsPair (record { size = n; entries = entries }) (record { size = n; entries = set (set entries (u * n + v) cost) (v * n + u) cost }) u v cost
SetsPair-written n entries u v cost whole low_u low_v =
    record {
      size = refl;
      forth = grind (arith, cases_eq, first, last, get_or-set_other, get_or-set_same, entry-within, whole, low_u, low_v);
      back = last;
      others = λ a b low_a low_b other.
          get_or-set_other first (v * n + u) (a * n + b) cost (pos 0) (λ same. let e = entry-unique n a b v u low_b low_u same in other (inr e))
          ∙ get_or-set_other entries (u * n + v) (a * n + b) cost (pos 0) (λ same. let e = entry-unique n a b u v low_b low_v same in other (inl e));
    }
  where
    first : List ℤ
    first = set entries (u * n + v) cost

    last : get_or (set (set entries (u * n + v) cost) (v * n + u) cost) (v * n + u) (pos 0) ≡ cost
    last = get_or-set_same (set entries (u * n + v) cost) (v * n + u) cost (pos 0)
        (omega (arith, whole, length-set entries (u * n + v) cost, entry-within n v u low_v low_u))

-- two numbers are two others, or are not
both : (a b u v : ℕ) → ((a ≡ u) × (b ≡ v)) ⊎ ¬ ((a ≡ u) × (b ≡ v))
both a b u v = grind (arith, cases_eq)

-- a table stays symmetric where the cost of a pair is set
pub symmetric_set : (old new : Table) (u v : ℕ) (cost : ℤ) → SetsPair old new u v cost → IsSymmetric old → IsSymmetric new
symmetric_set old new u v cost sets same a b low_a low_b = grind (arith, both, a_was, b_was, neither, turned, a, b, sets.forth, sets.back, sets.others, same)
  where
    a_was : a < old.size
    a_was = omega (arith, low_a, sets.size)

    b_was : b < old.size
    b_was = omega (arith, low_b, sets.size)

    neither : ¬ ((a ≡ u) × (b ≡ v)) → ¬ ((a ≡ v) × (b ≡ u)) → ¬ IsPairOf a b u v
    neither first second (inl h) = first h
    neither first second (inr h) = second h

    turned : ¬ ((a ≡ u) × (b ≡ v)) → ¬ ((a ≡ v) × (b ≡ u)) → ¬ IsPairOf b a u v
    turned first second (inl (p, q)) = second (q, p)
    turned first second (inr (p, q)) = first (q, p)
