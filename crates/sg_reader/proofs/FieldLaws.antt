-- Records without their last empty fields.
use Rattle.std.proofs.Common.{◌≡◌, ℕ, ◌-◌, ◌<◌, ◌≤◌, Bool, true, false, List, [], length, take, map, get_or, ap, arith}
use Rattle.std.specs.List.{suffix_len}
use Rattle.std.proofs.lemmas.List.{length-map, length-take, get_or-map}
use Rattle.std.proofs.lemmas.List.Sums.{suffix_len_is}
use Rattle.sg_reader.specs.Field.{before_end, fields_in, is_empty, trimmed}

-- a list without the items at its end that pass ends behind the last that does not
pub before_end_is : {X : Type 0} (p : X → Bool) (xs : List X) (n : ℕ) (d : X) → n ≤ length xs →
    ((k : ℕ) → n ≤ k → k < length xs → p (get_or xs k d) ≡ true) → (0 < n → p (get_or xs (n - 1) d) ≡ false) → before_end p xs ≡ take n xs
before_end_is p xs n d inside back stop =
    let same : length xs - suffix_len p xs ≡ n = omega (arith, suffix_len_is p xs n d inside back stop) in
    ap (λ k. take k xs) same

-- the fields of a record, by the first of the empty ones at its end
pub fields_in_is : (raw : List (List ℕ)) (n : ℕ) → n ≤ length raw → ((k : ℕ) → n ≤ k → k < length raw → is_empty (trimmed (get_or raw k [])) ≡ true)
    → (0 < n → is_empty (trimmed (get_or raw (n - 1) [])) ≡ false) → fields_in raw ≡ take n (map trimmed raw)
unfolding fields_in
fields_in_is raw n inside back stop =
    let count = length-map raw trimmed in
    before_end_is is_empty (map trimmed raw) n [] (omega (arith, count))
    (λ k low high. let k_in : k < length raw = omega (arith, count) in rw (get_or-map trimmed raw k [] [] k_in) (back k low k_in))
    (λ some. let last : n - 1 < length raw = omega arith in rw (get_or-map trimmed raw (n - 1) [] [] last) (stop some))

-- a record has no more fields than it was written with
pub fields_in-short : (raw : List (List ℕ)) → length (fields_in raw) ≤ length raw
unfolding fields_in
fields_in-short raw = omega (arith, length-take (length (map trimmed raw) - suffix_len is_empty (map trimmed raw)) (map trimmed raw), length-map raw trimmed)
