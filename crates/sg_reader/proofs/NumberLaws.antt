-- When a field spells a number.
use Rattle.std.proofs.Common.{◌≡◌, ℕ, suc, zero, ◌<◌, ◌^◌, Bool, true, false, ℤ, pos, neg_ℤ, List, length, Some, None, refl, arith, inl, inr}
use Rattle.std.specs.Prelude.{nat_lt, cond, unsigned_abs}
use Rattle.std.specs.Str.{all_ascii_digits}
use Rattle.std.specs.Str.Parse.{IsNumeral, digits_value, signed_digits_value, starts_with_minus, without_leading_sign}
use Rattle.std.proofs.lemmas.Bool.{and_parts, cases_Bool}
use Rattle.std.proofs.lemmas.Bool.Decides.{nat_tests}
use Rattle.std.proofs.lemmas.Option.{none-some, same_Some}
use Rattle.std.proofs.lemmas.Str.Parse.{IsNumeralModel, numerals_by_value, tells_all_ascii_digits}
use Rattle.sg_reader.specs.Tests.{is_numeral, number_of, size_of}

decimal : IsNumeralModel (λ ds. all_ascii_digits ds ≡ true) (digits_value 10)
decimal = numerals_by_value (λ ds. all_ascii_digits ds ≡ true) tells_all_ascii_digits

-- a field that spells a number, and its value
pub number_of-some : (field : List ℕ) → IsNumeral 10 (without_leading_sign field) → size_of field < 2 ^ 63
    → number_of field ≡ Some (signed_digits_value 10 field)
unfolding number_of
number_of-some field h small =
    let some : nat_lt 0 (length (without_leading_sign field)) ≡ true = let a = h.0 in grind (arith, nat_tests) in
    let fits : nat_lt (size_of field) (2 ^ 63) ≡ true = grind (arith, nat_tests) in
    rw (some, decimal.from (without_leading_sign field) h.1, fits) refl

-- a field that spells none
pub number_of-none : (field : List ℕ) → (IsNumeral 10 (without_leading_sign field) → size_of field < 2 ^ 63 → ⊥) → number_of field ≡ None
unfolding number_of
number_of-none field h = elim (cases_Bool (is_numeral field)) [
  | inl e ↦
      let parts = and_parts (nat_lt 0 (length (without_leading_sign field))) (all_ascii_digits (without_leading_sign field)) e in
      let some = parts.0 in
      elim (cases_Bool (nat_lt (size_of field) (2 ^ 63))) [
        | inl small ↦ absurd (h (grind (arith, nat_tests), decimal.to (without_leading_sign field) parts.1) (grind (arith, nat_tests)))
        | inr large ↦ rw (e, large) refl
      ]
  | inr e ↦ rw e refl
]

size-of_signed : (b : Bool) (n : ℕ) → unsigned_abs (cond b (neg_ℤ (pos n)) (pos n)) ≡ n
size-of_signed true zero = refl
size-of_signed true (suc n) = refl
size-of_signed false n = refl

-- the size of a number that a field spells
pub size-of_number : (field : List ℕ) (z : ℤ) → number_of field ≡ Some z → unsigned_abs z < 2 ^ 63
unfolding number_of
size-of_number field z h = elim (cases_Bool (is_numeral field)) [
  | inl e ↦ elim (cases_Bool (nat_lt (size_of field) (2 ^ 63))) [
    | inl small ↦
        let value : signed_digits_value 10 field ≡ z = same_Some _ _ (rw (e, small) at h) in
        let below : size_of field < 2 ^ 63 = grind (arith, nat_tests) in
        rw (← value) (rw (size-of_signed (starts_with_minus field) (size_of field)) below)
    | inr large ↦ absurd (none-some z (rw (e, large) at h))
  ]
  | inr e ↦ absurd (none-some z (rw e at h))
]
