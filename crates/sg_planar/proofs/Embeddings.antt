-- Graphs drawn on a surface: a cut of the nodes and a cut of the faces meet in an even number of edges (Heffter 1891).
use Rattle.std.proofs.Common.{inl, inr, ◌≡◌, ◌⊎◌, ℕ, ◌+◌, ◌*◌, ◌<◌, Bool, true, false, not, ◌&&◌, eqb, List, refl, sym, ◌∙◌, ap, arith, All, get_or, length}
use Rattle.std.proofs.lemmas.Bool.{eq-eqb, eqb-true, and_parts, and_from, cases_Bool, true≢false, false_from_ne_true}
use Rattle.std.proofs.lemmas.List.Folds.{list_any_at}
use Rattle.std.proofs.lemmas.List.FromFn.{get_or-range_with_len, length-range_with_len}
use Rattle.std.specs.List.{range_with_len, list_any}
use Rattle.sg_model.proofs.DartPairs.{dart_cases}
use Rattle.sg_planar.proofs.SpanningTrees.{Reaches}
use Rattle.sg_base.proofs.ListLaws.{place_of_any}
use Rattle.sg_base.proofs.ParityLaws.{xor_self, parity_below-same, parity_below-xor}
use Rattle.sg_base.proofs.Recounting.{All_range}
use Rattle.sg_base.specs.Ends.{EndsBelow}
use Rattle.sg_base.specs.Parity.{xor, parity_below}

-- some number below n passes
abbrev any_below : (ℕ → Bool) → ℕ → Bool
any_below p n = list_any p (range_with_len 0 n)

at_number : (n k : ℕ) → k < n → get_or (range_with_len 0 n) k 0 ≡ k
at_number n k l = get_or-range_with_len 0 n k 0 l ∙ omega arith

any_below_at : (p : ℕ → Bool) (k n : ℕ) → k < n → p k ≡ true → any_below p n ≡ true
any_below_at p k n l h = list_any_at p (range_with_len 0 n) k 0 (omega (arith, l, length-range_with_len 0 n)) (ap p (at_number n k l) ∙ h)

any_below_has : (p : ℕ → Bool) (n : ℕ) → any_below p n ≡ true → (k : ℕ) × (k < n) × (p k ≡ true)
any_below_has p n h =
    let r : (i : ℕ) × (i < length (range_with_len 0 n)) × (p (get_or (range_with_len 0 n) i 0) ≡ true) = place_of_any p (range_with_len 0 n) 0 h in
    let l : r.0 < n = omega (arith, r.1, length-range_with_len 0 n) in (r.0, l, ap p (sym (at_number n r.0 l)) ∙ r.2)

-- the root alone
abbrev pub root : ℕ → Bool
root x = eqb 0 x

-- n spins, m bonds, F faces: the spin that each dart leaves, the dart behind it round that spin, and the face on its side
pub record IsEmbedding (n m F : ℕ) (tail next face : ℕ → ℕ) : Type 0 where
  pub tail_below : (d : ℕ) → d < 2 * m → tail d < n
  pub next_tail : (d : ℕ) → d < 2 * m → tail (next d) ≡ tail d
  -- `next` only moves the darts
  pub next_sum : (h : ℕ → Bool) → parity_below (λ k. xor (h (next (2 * k))) (h (next (2 * k + 1)))) m ≡ parity_below
      (λ k. xor (h (2 * k)) (h (2 * k + 1))) m
  -- the darts of a spin are one cycle
  pub one_cycle : (g : ℕ → Bool) → ((d : ℕ) → d < 2 * m → g (next d) ≡ g d) → (d e : ℕ) → d < 2 * m → e < 2 * m → tail d ≡ tail e →
      g d ≡ g e
  -- the face on the far side of a dart is that of the next dart
  pub face_next : (k : ℕ) → k < m → (face (next (2 * k)) ≡ face (2 * k + 1)) × (face (next (2 * k + 1)) ≡ face (2 * k))
  pub face_below : (d : ℕ) → d < 2 * m → face d < F
  pub face_used : (f : ℕ) → f < F → (d : ℕ) × (d < 2 * m) × (face d ≡ f)

-- what f gives at the first and at the second dart of bond k
abbrev pub first : (ℕ → ℕ) → ℕ → ℕ
first f k = f (2 * k)

abbrev pub second : (ℕ → ℕ) → ℕ → ℕ
second f k = f (2 * k + 1)

-- the numbers of m bonds
abbrev pub bonds : ℕ → List ℕ
bonds m = range_with_len 0 m

-- every spin is reached from spin 0
abbrev pub SpinsConnected : ℕ → ℕ → (ℕ → ℕ) → Type 0
SpinsConnected n m tail = Reaches (first tail) (second tail) n root (bonds m)

module _ (n m F : ℕ) (tail next face : ℕ → ℕ) (emb : IsEmbedding n m F tail next face) where
  -- the ends of bond k, and the faces on its two sides
  abbrev u : ℕ → ℕ
  u = first tail

  abbrev v : ℕ → ℕ
  v = second tail

  abbrev left : ℕ → ℕ
  left = first face

  abbrev right : ℕ → ℕ
  right = second face

  -- every cut of the spins meets every cut of the faces in an even number of bonds
  pub cuts_meet_evenly : (t B : ℕ → Bool) →
      parity_below (λ k. xor (t (first tail k)) (t (second tail k)) && xor (B (first face k)) (B (second face k))) m ≡ false
  cuts_meet_evenly t B =
      parity_below-same (λ k. xor (t (u k)) (t (v k)) && xor (B (left k)) (B (right k))) (λ k. xor (here k) (behind k)) m each
      ∙ parity_below-xor here behind m
      ∙ ap (xor (parity_below here m)) (emb.next_sum h)
      ∙ xor_self (parity_below here m)
    where
      h : ℕ → Bool
      h d = t (tail d) && B (face d)

      here : ℕ → Bool
      here k = xor (h (2 * k)) (h (2 * k + 1))

      behind : ℕ → Bool
      behind k = xor (h (next (2 * k))) (h (next (2 * k + 1)))

      each : (k : ℕ) → k < m → (xor (t (u k)) (t (v k)) && xor (B (left k)) (B (right k))) ≡ xor (here k) (behind k)
      each k l = grind arith

  -- both ends of a bond are spins, and both sides are faces
  pub spin_ends : EndsBelow (first tail) (second tail) n (bonds m)
  spin_ends = All_range (λ k. (u k < n) × (v k < n)) m (λ k l. (emb.tail_below (2 * k) (omega arith), emb.tail_below (2 * k + 1) (omega arith)))

  -- both faces of each edge are faces
  pub face_ends : EndsBelow (first face) (second face) F (bonds m)
  face_ends =
      All_range (λ k. (left k < F) × (right k < F)) m (λ k l. (emb.face_below (2 * k) (omega arith), emb.face_below (2 * k + 1) (omega arith)))

  -- a colour of the faces that is the same on both sides of each bond is one colour
  pub one_colour : SpinsConnected n m tail → (B : ℕ → Bool) → ((k : ℕ) → k < m → B (first face k) ≡ B (second face k)) →
      (d e : ℕ) → d < 2 * m → e < 2 * m → B (face d) ≡ B (face e)
  one_colour connected B same d e ld le =
      sym (at_tail d ld) ∙ all_same (tail d) (emb.tail_below d ld) ∙ sym (all_same (tail e) (emb.tail_below e le)) ∙ at_tail e le
    where
      g : ℕ → Bool
      g x = B (face x)

      kept : (x : ℕ) → x < 2 * m → g (next x) ≡ g x
      kept x l = by_dart (dart_cases x)
        where
          by_dart : ((k : ℕ) × ((x ≡ 2 * k) ⊎ (x ≡ 2 * k + 1))) → g (next x) ≡ g x
          by_dart (k, inl w) = let b : k < m = omega arith in ap (λ y. g (next y)) w ∙ ap B (emb.face_next k b).0 ∙ sym (same k b) ∙ ap g (sym w)
          by_dart (k, inr w) = let b : k < m = omega arith in ap (λ y. g (next y)) w ∙ ap B (emb.face_next k b).1 ∙ same k b ∙ ap g (sym w)

      -- the colour at the darts of a spin
      at_spin : ℕ → Bool
      at_spin x = any_below (λ y. eqb (tail y) x && g y) (2 * m)

      at_tail : (x : ℕ) → x < 2 * m → at_spin (tail x) ≡ g x
      at_tail x l = elim (cases_Bool (g x)) [
        | inl holds ↦
            any_below_at (λ y. eqb (tail y) (tail x) && g y) x (2 * m) l (and_from (eqb (tail x) (tail x)) (g x) (eq-eqb (tail x) (tail x) refl) holds)
            ∙ sym holds
        | inr fails ↦
            false_from_ne_true (at_spin (tail x))
            (λ (some : at_spin (tail x) ≡ true). other fails (any_below_has (λ y. eqb (tail y) (tail x) && g y) (2 * m) some))
            ∙ sym fails
      ]
        where
          other : g x ≡ false → ((y : ℕ) × (y < 2 * m) × ((eqb (tail y) (tail x) && g y) ≡ true)) → ⊥
          other fails (y, b, w) =
              let parts : (eqb (tail y) (tail x) ≡ true) × (g y ≡ true) = and_parts (eqb (tail y) (tail x)) (g y) w in
              true≢false (sym parts.1 ∙ emb.one_cycle g kept y x b l (eqb-true (tail y) (tail x) parts.0) ∙ fails)

      all_same : (x : ℕ) → x < n → at_spin x ≡ at_spin 0
      all_same x l = like (at_spin x) (at_spin 0) (connected (λ y. not (xor (at_spin y) (at_spin 0))) at_root across x l)
        where
          like : (a b : Bool) → not (xor a b) ≡ true → a ≡ b
          like a b e = grind arith

          at_root : (y : ℕ) → y < n → root y ≡ true → not (xor (at_spin y) (at_spin 0)) ≡ true
          at_root y b e = ap (λ z. not (xor (at_spin z) (at_spin 0))) (sym (eqb-true 0 y e)) ∙ ap not (xor_self (at_spin 0))

          across : All (λ k. not (xor (at_spin (u k)) (at_spin 0)) ≡ not (xor (at_spin (v k)) (at_spin 0))) (bonds m)
          across = All_range (λ k. not (xor (at_spin (u k)) (at_spin 0)) ≡ not (xor (at_spin (v k)) (at_spin 0))) m
              (λ k b. ap (λ w. not (xor w (at_spin 0))) (at_tail (2 * k) (omega arith) ∙ same k b ∙ sym (at_tail (2 * k + 1) (omega arith))))
