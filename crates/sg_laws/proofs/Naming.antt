-- The first law with a name, over boxes and over the records that stand for them.
use Rattle.std.proofs.Common.{◌≡◌, ℕ, List, [], ◌∷◌, ap, ◌∙◌, refl, Option, Some, option_map, find, map, true, false, Bool, cond, bytes_eq}
use Rattle.sg_laws.specs.Named.{Law, first_named}

-- a map goes into both cases
mapped_cond : {B C : Type 0} (f : B → C) (t : Bool) (b : B) (r : Option B) → cond t (Some (f b)) (option_map f r) ≡ option_map f (cond t (Some b) r)
mapped_cond f true b r = refl
mapped_cond f false b r = refl

-- the first of the records is the record of the first of the boxes
pub first_mapped : {B : Type 0} (law_of : B → Law) (name : List ℕ) (bs : List B)
    → first_named name (map law_of bs) ≡ option_map law_of (find (λ b. bytes_eq (law_of b).title name) bs)
first_mapped law_of name [] = refl
first_mapped law_of name (b ∷ bs) =
    ap (cond (bytes_eq (law_of b).title name) (Some (law_of b))) (first_mapped law_of name bs)
    ∙ mapped_cond law_of (bytes_eq (law_of b).title name) b _
