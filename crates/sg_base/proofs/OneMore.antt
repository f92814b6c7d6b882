-- One element more of a list: the parity of what passes, a mark that is turned by it, and that a rising list has not held
-- the next entry before.
use Rattle.std.proofs.lemmas.Grind.{common_steps}
use Rattle.std.proofs.lemmas.Bool.Decides.{nat_tests}
use Rattle.std.proofs.Common.{◌≡◌, ℕ, zero, suc, ◌+◌, ◌<◌, Bool, false, eqb, List, take, ◌∙◌, arith, length, get_or}
use Rattle.std.specs.List.Sorted.{IsStrictlyIncreasing}
use Rattle.std.proofs.lemmas.Bool.{cases_eq, ne_eqb}
use Rattle.std.proofs.lemmas.List.{take_more, get_or-take, get_or_default, length-take}
use Rattle.std.proofs.lemmas.List.Folds.{list_any_none}
use Rattle.sg_base.specs.Parity.{xor, parity_by}
use Rattle.sg_base.specs.Sets.{holds}
use Rattle.sg_base.proofs.ParityLaws.{parity_by-append, xor-false, xor_assoc}

-- the parity over one element more of a list
pub parity_by_more : {X : Type 0} (p : X → Bool) (xs : List X) (i : ℕ) (d : X) → i < length xs →
    parity_by p (take (i + 1) xs) ≡ xor (parity_by p (take i xs)) (p (get_or xs i d))
parity_by_more p xs i d l = grind (arith, common_steps, nat_tests, take_more, parity_by-append, xor-false)

-- a mark that the entries so far have turned, turned by the next
pub turned_more : {X : Type 0} (p : X → Bool) (xs : List X) (i : ℕ) (d : X) (old now new : Bool) → i < length xs →
    now ≡ xor old (parity_by p (take i xs)) → new ≡ xor now (p (get_or xs i d)) → new ≡ xor old (parity_by p (take (i + 1) xs))
turned_more p xs i d old now new low was is = grind (arith, xor_assoc, parity_by_more)

-- the entries of a rising list stand in their order
pub rising_order : (xs : List ℕ) → IsStrictlyIncreasing xs → (i j : ℕ) → i < j → j < length xs → get_or xs i 0 < get_or xs j 0
rising_order xs up i zero l h = absurd (omega arith)
rising_order xs up i (suc j) l h = grind (arith, cases_eq i j, rising_order xs up i j)

-- the next entry of a rising list is not among those before it
pub rising_is_new : (xs : List ℕ) → IsStrictlyIncreasing xs → (j : ℕ) → j < length xs → holds (take j xs) (get_or xs j 0) ≡ false
rising_is_new xs up j h =
    list_any_none (λ y. eqb y (get_or xs j 0)) (take j xs)
    (λ k d l.
    let below : k < j = omega (arith, length-take j xs) in
    let same : get_or (take j xs) k d ≡ get_or xs k 0 = get_or-take j xs k d below ∙ get_or_default xs k d 0 (omega arith) in
    let less : get_or xs k 0 < get_or xs j 0 = rising_order xs up k j below h in
    ne_eqb (get_or (take j xs) k d) (get_or xs j 0) (λ (e : get_or (take j xs) k d ≡ get_or xs j 0). omega arith))
