-- When a word spells no number.
use Rattle.std.proofs.Common.{◌≡◌, ℕ, ◌<◌, ◌≤◌, ◌^◌, true, false, List, [], ◌∷◌, length, None, refl, arith, inl, inr, nat_lt, nat_le, ◌==◌}
use Rattle.std.specs.List.{list_all}
use Rattle.std.specs.Char.{digit_value, is_ascii_digit}
use Rattle.std.specs.Str.Parse.{AllDigits, IsNumeral, digits_value, without_leading_plus}
use Rattle.std.proofs.lemmas.Bool.{cases_Bool, false≢true}
use Rattle.std.proofs.lemmas.Bool.Decides.{nat_tests}
use Rattle.std.proofs.lemmas.Str.{digit_value_digit}
use Rattle.sg_words.specs.Numeral.{word_number}

digit-from : (c : ℕ) → is_ascii_digit c ≡ true → digit_value c < 10
digit-from c h =
    let low : 48 ≤ c = grind (arith, nat_tests) in
    let high : c ≤ 57 = grind (arith, nat_tests) in
    let e = digit_value_digit c (low, high) in
    omega arith

digits-from : (ds : List ℕ) → list_all is_ascii_digit ds ≡ true → AllDigits 10 ds
digits-from [] h = tt
digits-from (c ∷ cs) h = elim (cases_Bool (is_ascii_digit c)) [
  | inl e ↦ (digit-from c e, digits-from cs (rw e at h))
  | inr e ↦ absurd (false≢true (rw e at h))
]

-- digits have no plus before them
no_plus : (ds : List ℕ) → list_all is_ascii_digit ds ≡ true → without_leading_plus ds ≡ ds
no_plus [] h = refl
no_plus (c ∷ cs) h = elim (cases_Bool (is_ascii_digit c)) [
  | inl e ↦ (let other : (c == 43) ≡ false = grind (arith, nat_tests) in rw other refl)
  | inr e ↦ absurd (false≢true (rw e at h))
]

-- digits that are not parsed are none, or their number is too large
pub number_in-unparsed : (least most : ℕ) (word : List ℕ) → most < 2 ^ 64 → list_all is_ascii_digit word ≡ true
    → (IsNumeral 10 (without_leading_plus word) × (digits_value 10 (without_leading_plus word) < 2 ^ 64) → ⊥) → word_number least most word ≡ None
number_in-unparsed least most word small digits h = elim (cases_Bool (nat_lt 0 (length word))) [
  | inl some ↦ elim (cases_Bool (nat_le (digits_value 10 word) most)) [
    | inl low ↦
        let below : digits_value 10 word < 2 ^ 64 = grind (arith, nat_tests) in
        let there : 0 < length word = grind (arith, nat_tests) in
        absurd (h (rw (no_plus word digits) (((there, digits-from word digits), below))))
    | inr high ↦ (elim (cases_Bool (nat_le least (digits_value 10 word))) [
      | inl a ↦ rw (some, digits, a, high) refl
      | inr a ↦ rw (some, digits, a) refl
    ])
  ]
  | inr none ↦ rw none refl
]
