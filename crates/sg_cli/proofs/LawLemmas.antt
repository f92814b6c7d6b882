-- The four laws, pushed one by one.
use Rattle.std.proofs.Common.{◌≡◌, pos, List, [], ◌∷◌, ◌++◌, ap, ◌∙◌, map, codes, replicate}
use Rattle.sg_laws.specs.Named.{Law}
use Rattle.sg_laws.specs.Stream.{alternating, drawn, seeded_generator, level_of, sign_of}
use Rattle.sg_cli.specs.Laws.{AreLaws, IsLaw}

-- a list into which four laws were pushed has these, in this order
pub four-laws : {B : Type 0} (law_of : B → Law) (none first second third fourth : List B) (a b c d : B)
    → none ≡ [] → first ≡ none ++ a ∷ [] → second ≡ first ++ b ∷ [] → third ≡ second ++ c ∷ [] → fourth ≡ third ++ d ∷ []
    → IsLaw (codes "one") (λ seed count. replicate count (pos 1)) (law_of a) → IsLaw (codes "alternate") alternating (law_of b)
    → IsLaw (codes "pm") (λ seed count. drawn sign_of count (seeded_generator seed)) (law_of c)
    → IsLaw (codes "uniform") (λ seed count. drawn level_of count (seeded_generator seed)) (law_of d)
    → AreLaws (map law_of fourth)
four-laws law_of none first second third fourth a b c d none-is first-is second-is third-is fourth-is one alternate plus_minus uniform = record {
  one = law_of a;
  alternate = law_of b;
  plus_minus = law_of c;
  uniform = law_of d;
  all = ap (map law_of) (fourth-is ∙ ap (λ l. l ++ d ∷ []) (third-is ∙ ap (λ l. l ++ c ∷ [])
      (second-is ∙ ap (λ l. l ++ b ∷ []) (first-is ∙ ap (λ l. l ++ a ∷ []) none-is))));
  is_one = one;
  is_alternate = alternate;
  is_plus_minus = plus_minus;
  is_uniform = uniform;
}
