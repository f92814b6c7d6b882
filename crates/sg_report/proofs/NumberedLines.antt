-- A line for each entry of a list, made from its index and its value.
use Rattle.std.proofs.Common.{◌≡◌, ℕ, ◌+◌, ◌<◌, ◌≤◌, List, [], ◌∷◌, ◌++◌, length, take, get_or, sym, ◌∙◌, ap, arith, zero-add}
use Rattle.std.specs.List.{flat_map, enumerate_from}
use Rattle.std.proofs.lemmas.List.{take_more, flat_map_more, take_all}
use Rattle.std.proofs.lemmas.List.FromFn.{length-enumerate_from, get_or-enumerate_from}

-- one entry more with its number
pub entry-more : {A : Type 0} (xs : List A) (i : ℕ) (d : A) → i < length xs →
    take (i + 1) (enumerate_from 0 xs) ≡ take i (enumerate_from 0 xs) ++ (i, get_or xs i d) ∷ []
entry-more xs i d inside =
    let long : i < length (enumerate_from 0 xs) = omega (arith, length-enumerate_from 0 xs) in
    let item : get_or (enumerate_from 0 xs) i (i, d) ≡ (i, get_or xs i d) =
    get_or-enumerate_from 0 xs i (i, d) inside ∙ ap (λ n. (n, get_or xs i d)) (zero-add i) in
    take_more (enumerate_from 0 xs) i (i, d) long ∙ ap (λ y. take i (enumerate_from 0 xs) ++ y ∷ []) item

-- one more line
pub lines-more : {A : Type 0} (f : ℕ → A → List ℕ) (xs : List A) (text : List ℕ) (i : ℕ) (d : A) → i < length xs →
    text ≡ flat_map (λ p. f p.0 p.1) (take i (enumerate_from 0 xs)) →
    text ++ f i (get_or xs i d) ≡ flat_map (λ p. f p.0 p.1) (take (i + 1) (enumerate_from 0 xs))
lines-more f xs text i d inside so_far =
    ap (λ t. t ++ f i (get_or xs i d)) so_far ∙ flat_map_more (λ p. f p.0 p.1) [] (take i (enumerate_from 0 xs)) (i, get_or xs i d)
    ∙ ap (flat_map (λ p. f p.0 p.1)) (sym (entry-more xs i d inside))

-- all lines
pub lines-all : {A : Type 0} (f : ℕ → A → List ℕ) (xs : List A) (text : List ℕ) (i : ℕ) → length xs ≤ i →
    text ≡ flat_map (λ p. f p.0 p.1) (take i (enumerate_from 0 xs)) → text ≡ flat_map (λ p. f p.0 p.1) (enumerate_from 0 xs)
lines-all f xs text i past so_far =
    let long : length (enumerate_from 0 xs) ≤ i = omega (arith, length-enumerate_from 0 xs) in
    so_far ∙ ap (flat_map (λ p. f p.0 p.1)) (take_all i (enumerate_from 0 xs) long)
