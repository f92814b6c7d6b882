-- The marks of a loop: turned at the ends of its bonds they stand at its odd spins, and turned again they are gone.
use Rattle.std.proofs.Common.{inl, inr, ◌≡◌, ◌≢◌, ℕ, ◌+◌, ◌<◌, ◌≤◌, ◌%◌, Bool, true, false, cond, eqb, List, Option, Some, None, take, sym, ◌∙◌, ap, replicate, arith, count_by, length, get_or}
use Rattle.std.specs.Prelude.{IfNone, IfSome, IsSomeAnd}
use Rattle.std.specs.List.{list_any}
use Rattle.std.proofs.lemmas.Bool.{cases_Bool, false≢true}
use Rattle.std.proofs.lemmas.List.{ext_get_or, get_or-replicate}
use Rattle.std.proofs.lemmas.List.Folds.{list_any_at}
use Rattle.sg_base.specs.Parity.{xor, odd, parity_by}
use Rattle.sg_base.specs.Sets.{is_marked}
use Rattle.sg_base.proofs.ParityLaws.{xor_assoc, xor_self, xor-false, odd_is, odd-count_by, even_from_mod, odd_from_mod, some_from_odd}
use Rattle.sg_base.proofs.OneMore.{parity_by_more}
use Rattle.sg_model.specs.declared.bond.Bond.{Bond}
use Rattle.sg_model.specs.Ising.{Ising, bond_at}
use Rattle.sg_model.specs.Broken.{is_negative}
use Rattle.sg_check.specs.Loop.{is_end_of, IsEven, IsEvenAt, IsOddlyNegative}
use Rattle.sg_check.specs.Verdict.{IsFirstFailure}
use Rattle.sg_check.proofs.WeakDuality.{one_end}

-- a count is even or odd as its parity says
pub count_by-mod : {X : Type 0} (p : X → Bool) (xs : List X) (b : Bool) → parity_by p xs ≡ b → count_by p xs % 2 ≡ cond {A = ℕ} b 1 0
count_by-mod p xs b e = odd_is (count_by p xs) ∙ ap (λ b. cond {A = ℕ} b 1 0) (odd-count_by p xs ∙ e)

module _ (inst : Ising) where
  -- bond k ends at spin i
  abbrev pub ends_at : ℕ → ℕ → Bool
  ends_at i k = is_end_of (bond_at inst k) i

  -- one bond more of the list, whose ends are turned
  pub is_marked_more : (list : List ℕ) (j : ℕ) (b : Bond) (old now new : List Bool) (i : ℕ) → j < length list → b ≡ bond_at inst (get_or list j 0) → b.u ≢ b.v →
      is_marked now i ≡ xor (is_marked old i) (parity_by (ends_at i) (take j list)) →
      is_marked new i ≡ xor (is_marked now i) (xor (eqb b.u i) (xor (eqb b.v i) false)) →
      is_marked new i ≡ xor (is_marked old i) (parity_by (ends_at i) (take (j + 1) list))
  is_marked_more list j b old now new i low same ne was turned =
      let ends : xor (eqb b.u i) (xor (eqb b.v i) false) ≡ ends_at i (get_or list j 0) = ap (xor (eqb b.u i)) (xor-false (eqb b.v i)) ∙ one_end b.u b.v i ne
      ∙ ap (λ (b : Bond). is_end_of b i) same in
      turned ∙ ap (λ z. xor z (xor (eqb b.u i) (xor (eqb b.v i) false))) was
      ∙ xor_assoc (is_marked old i) (parity_by (ends_at i) (take j list)) (xor (eqb b.u i) (xor (eqb b.v i) false))
      ∙ ap (xor (is_marked old i)) (ap (xor (parity_by (ends_at i) (take j list))) ends ∙ sym (parity_by_more (ends_at i) list j 0 low))

  -- turned where there was no mark, the marks stand at the odd spins
  pub is_marked_odd : (list : List ℕ) (old new : List Bool) → old ≡ replicate inst.n false →
      ((i : ℕ) → i < inst.n → is_marked new i ≡ xor (is_marked old i) (parity_by (ends_at i) list)) →
      (i : ℕ) → i < inst.n → is_marked new i ≡ parity_by (ends_at i) list
  is_marked_odd list old new none turned i l =
      turned i l ∙ ap (λ z. xor z (parity_by (ends_at i) list)) (ap (λ ms. is_marked ms i) none ∙ get_or-replicate inst.n i false false l)

  -- some bond ends at an odd spin
  has_end : (list : List ℕ) (i : ℕ) → parity_by (ends_at i) list ≡ true → list_any (ends_at i) list ≡ true
  has_end list i e = let some : (k : ℕ) × (k < length list) × ((d : ℕ) → ends_at i (get_or list k d) ≡ true) = some_from_odd (ends_at i) list e in list_any_at
      (ends_at i) list some.0 0 some.1 (some.2 0)

  -- the least marked end of a bond is the least odd spin
  pub least_odd : (list : List ℕ) (marks : List Bool) (r : Option ℕ) → ((i : ℕ) → i < inst.n → is_marked marks i ≡ parity_by (ends_at i) list) →
      IfSome r (λ i. (i < inst.n) × (is_marked marks i ≡ true)) →
      ((i : ℕ) → i < inst.n → is_marked marks i ≡ true → list_any (ends_at i) list ≡ true → IsSomeAnd r (λ x. x ≤ i)) →
      IfNone r (IsEven inst list) × IfSome r (IsFirstFailure (IsEvenAt inst list) inst.n)
  least_odd list marks None odd found least = (
    λ i l. elim (cases_Bool (parity_by (ends_at i) list)) [
      | inl odd_here ↦ absurd (least i l (odd i l ∙ odd_here) (has_end list i odd_here))
      | inr even_here ↦ count_by-mod (ends_at i) list false even_here
    ],
    tt,
  )
  least_odd list marks (Some x) odd found least = (
    tt,
    record {
      below = found.0;
      fails = λ even. false≢true (sym (even_from_mod (count_by (ends_at x) list) even) ∙ odd-count_by (ends_at x) list ∙ sym (odd x found.0) ∙ found.1);
      earlier = λ k l. elim (cases_Bool (parity_by (ends_at k) list)) [
        | inl odd_here ↦ (let low : k < inst.n = omega (arith, found.0) in let le : x ≤ k = least k low (odd k low
            ∙ odd_here) (has_end list k odd_here) in absurd (omega arith))
        | inr even_here ↦ count_by-mod (ends_at k) list false even_here
      ];
    },
  )

  -- one bond more, whose sign is counted
  pub negative_more : (list : List ℕ) (j : ℕ) (b : Bond) (now : Bool) → j < length list → b ≡ bond_at inst (get_or list j 0) →
      now ≡ parity_by (λ k. is_negative (bond_at inst k)) (take j list) →
      xor now (is_negative b) ≡ parity_by (λ k. is_negative (bond_at inst k)) (take (j + 1) list)
  negative_more list j b now low same was = ap (λ z. xor z (is_negative b)) was
      ∙ ap (xor (parity_by (λ k. is_negative (bond_at inst k)) (take j list))) (ap is_negative same)
      ∙ sym (parity_by_more (λ k. is_negative (bond_at inst k)) list j 0 low)

  -- the parity decides whether an odd number are negative
  pub odd_sign : (list : List ℕ) (r : Bool) → r ≡ parity_by (λ k. is_negative (bond_at inst k)) list
      → (r ≡ true → IsOddlyNegative inst list) × (IsOddlyNegative inst list → r ≡ true)
  odd_sign list r e = (
    λ t. count_by-mod (λ k. is_negative (bond_at inst k)) list true (sym e ∙ t),
    λ h. e ∙ sym (odd-count_by (λ k. is_negative (bond_at inst k)) list) ∙ odd_from_mod (count_by (λ k. is_negative (bond_at inst k)) list) h,
  )

-- marks that are turned twice are as they were
pub turned_twice : (n : ℕ) (p : ℕ → Bool) (old mid new : List Bool) → length old ≡ n → length mid ≡ n → length new ≡ n →
    ((i : ℕ) → i < n → is_marked mid i ≡ xor (is_marked old i) (p i)) → ((i : ℕ) → i < n → is_marked new i ≡ xor (is_marked mid i) (p i)) → new ≡ old
turned_twice n p old mid new a b e first second = ext_get_or false new old (e ∙ sym a) (λ i l. (let low : i < n = omega arith in
    second i low ∙ ap (λ z. xor z (p i)) (first i low) ∙ xor_assoc (is_marked old i) (p i) (p i) ∙ ap (xor (is_marked old i)) (xor_self (p i))
    ∙ xor-false (is_marked old i)))
