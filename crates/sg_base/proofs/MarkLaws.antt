-- Marks: which places are marked where none was set, and after one more is set.
use Rattle.std.proofs.Common.{◌≡◌, ◌⊎◌, inl, inr, ℕ, ◌<◌, Bool, true, false, List, length, replicate, set, sym, ◌∙◌, arith}
use Rattle.std.proofs.lemmas.Bool.{cases_eq, cases_lt}
use Rattle.std.proofs.lemmas.List.{get_or-set_same, get_or-set_other, get_or_past, get_or-replicate, length-replicate}
use Rattle.sg_base.specs.Sets.{is_marked, IsMarked}

-- a list of `false` has no mark
pub none_free : (n x : ℕ) → is_marked (replicate n false) x ≡ false
none_free n x = grind (arith, cases_lt x n, get_or-replicate, get_or_past, length-replicate)

-- where no mark is set no place is marked
pub none_marked : (n x : ℕ) → IsMarked (replicate n false) x → ⊥
none_marked n x h = let e : false ≡ true = sym (none_free n x) ∙ h in cc

-- a marked place is one of the list
pub marked_in : (marks : List Bool) (x : ℕ) → IsMarked marks x → x < length marks
marked_in marks x h = elim (cases_lt x (length marks)) [ inl l ↦ l | inr m ↦ let e : false ≡ true = sym (get_or_past marks x false m) ∙ h in cc ]

-- the marks after place x is marked
pub marked_here : (marks : List Bool) (x : ℕ) → x < length marks → IsMarked (set marks x true) x
marked_here marks x l = get_or-set_same marks x true false l

-- setting a mark keeps those that are set
pub marked_still : (marks : List Bool) (x y : ℕ) → x < length marks → IsMarked marks y → IsMarked (set marks x true) y
marked_still marks x y l h = grind (arith, cases_eq y x, marked_here, get_or-set_other)

-- after a mark is set a marked place was marked before, or is the one just set
pub marked_or_here : (marks : List Bool) (x y : ℕ) → IsMarked (set marks x true) y → IsMarked marks y ⊎ (y ≡ x)
marked_or_here marks x y h = grind (arith, cases_eq y x, get_or-set_other)
