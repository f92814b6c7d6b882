-- The words in front of a rest.
use Rattle.std.proofs.Common.{rules, ◌≡◌, ℕ, List, [], ◌∷◌, ◌++◌, ap, sym, ◌∙◌, map, flat_map, All}
use Rattle.std.proofs.lemmas.List.{append_assoc, map-append}
use Rattle.std.proofs.lemmas.Grind.{flat_map-append}
use Rattle.std.proofs.lemmas.List.Elements.{All-push}
use Rattle.std.specs.Str.Lossy.{utf8_lossy}
use Rattle.sg_calls.specs.Running.{ended, HasNoZero}

-- the bytes are some words, each ended, and this rest
pub record IsFront (bytes rest : List ℕ) (words : List (List ℕ)) : Type 0 where
  pub pieces : List (List ℕ)
  pub whole : bytes ≡ flat_map ended pieces ++ rest
  pub clean : All HasNoZero pieces
  pub texts : words ≡ map utf8_lossy pieces

-- a word, its end and a rest behind what stands before
behind : (before word after : List ℕ) → before ++ (word ++ 0 ∷ after) ≡ (before ++ ended word) ++ after
behind before word after = ap (λ l. before ++ l) (sym (append_assoc word (0 ∷ []) after)) ∙ sym (append_assoc before (ended word) after)

one_piece : (pieces : List (List ℕ)) (word : List ℕ) → flat_map ended (pieces ++ word ∷ []) ≡ flat_map ended pieces ++ ended word
one_piece pieces word =
    let last : flat_map ended (word ∷ []) ≡ ended word = search rules in
    flat_map-append ended pieces (word ∷ []) ∙ ap (λ l. flat_map ended pieces ++ l) last

-- one word more
pub one_more : (bytes rest word after : List ℕ) (words : List (List ℕ)) → IsFront bytes rest words → rest ≡ word ++ 0 ∷ after → HasNoZero word
    → IsFront bytes after (words ++ utf8_lossy word ∷ [])
one_more bytes rest word after words front cut clean = record {
  pieces = front.pieces ++ word ∷ [];
  whole = front.whole ∙ ap (λ l. flat_map ended front.pieces ++ l) cut ∙ behind (flat_map ended front.pieces) word after
      ∙ ap (λ l. l ++ after) (sym (one_piece front.pieces word));
  clean = All-push HasNoZero front.pieces word front.clean clean;
  texts = ap (λ l. l ++ utf8_lossy word ∷ []) front.texts ∙ sym (map-append utf8_lossy front.pieces (word ∷ []));
}
