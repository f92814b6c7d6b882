-- More items at the end of the last list.
use Rattle.std.proofs.Common.{◌≡◌, List, [], ◌∷◌, ◌++◌, refl, ◌∙◌, ap, arith}
use Rattle.std.proofs.lemmas.List.{append-nil, get_or_push, length_push, set-get_or, set_at}
use Rattle.sg_base.specs.Pieces.{with_more}

module _ {A : Type 0} where
  -- more at the end goes to the last list
  pub with_more-last : (lists : List (List A)) (last more : List A) → with_more (lists ++ last ∷ []) more ≡ lists ++ (last ++ more) ∷ []
  with_more-last lists last more =
      grind (arith, length_push, get_or_push, set_at)

  -- nothing more changes no list
  pub with_more_none : (lists : List (List A)) → with_more lists [] ≡ lists
  with_more_none lists =
      simp (append-nil, set-get_or) refl

  -- the same, where the lists before and after have names
  pub last_more : (front before after : List (List A)) (last more : List A) → before ≡ front ++ last ∷ [] → after ≡ with_more before more
      → after ≡ front ++ (last ++ more) ∷ []
  last_more front before after last more p q = q ∙ ap (λ lists. with_more lists more) p ∙ with_more-last front last more
