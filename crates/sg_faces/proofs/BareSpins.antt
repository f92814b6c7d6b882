-- Spins without a bond: a spin has no darts exactly where no bond ends at it, and in a connected instance with a bond there is none.
use Rattle.std.proofs.Common.{inl, inr, ◌≡◌, ◌≢◌, ◌⊎◌, ℕ, ◌+◌, ◌*◌, ◌<◌, ◌≤◌, Bool, true, false, not, ◌||◌, cond, eqb, pos, List, [], ◌∷◌, length, get_or, count_by, refl, sym, ◌∙◌, ap, ap₂, eq-eqb, arith}
use Rattle.std.specs.List.{range_with_len}
use Rattle.std.proofs.lemmas.Bool.{cases_eq, cases_lt, ne_eqb}
use Rattle.std.proofs.lemmas.List.Folds.{list_all_at}
use Rattle.std.proofs.lemmas.List.Sums.{list_all-from_AllPass, count_by-le-length}
use Rattle.std.proofs.lemmas.List.Elements.{All-from_get_or}
use Rattle.std.proofs.lemmas.List.FromFn.{length-range_with_len}
use Rattle.sg_base.proofs.DealtSums.{sum_by_range}
use Rattle.sg_base.proofs.ListLaws.{sum_by-zero}
use Rattle.sg_base.proofs.SumLaws.{sum_below-same}
use Rattle.sg_base.proofs.Tallies.{sum_below_ones}
use Rattle.sg_model.specs.declared.bond.Bond.{Bond}
use Rattle.sg_model.specs.Ising.{Ising, IsBond, bond_at, bond_count}
use Rattle.sg_model.specs.Rotation.{dart_count, darts_of, tail}
use Rattle.sg_model.specs.WellFormed.{IsInstance}
use Rattle.sg_model.specs.Connected.{IsConnected, JoinedBy, Reached, all_bonds}
use Rattle.sg_model.specs.Changes.{HasSameEnds, with_bonds}
use Rattle.sg_model.proofs.Darts.{tail_first, tail_second}
use Rattle.sg_model.proofs.DartPairs.{dart_cases}
use Rattle.sg_model.proofs.Paths.{reached_across}
use Rattle.sg_model.proofs.Rotations.{in_list, place_at}
use Rattle.sg_model.proofs.SameEnds.{recoupled_instance}
use Rattle.sg_faces.specs.Faces.{bare_count, face_count, faces_before, is_bare}

-- tests that agree below n pass the same number below n
counted_same : (p q : ℕ → Bool) (n : ℕ) → ((k : ℕ) → k < n → p k ≡ q k) → count_by p (range_with_len 0 n) ≡ count_by q (range_with_len 0 n)
counted_same p q n h = grind (arith, sum_by_range, sum_below-same)

counted_none : (n : ℕ) → count_by (λ _. false) (range_with_len 0 n) ≡ 0
counted_none n = sum_by-zero (λ k. cond false 1 0) (range_with_len 0 n) (λ k. refl)

counted_all : (n : ℕ) → count_by (λ _. true) (range_with_len 0 n) ≡ n
counted_all n = sum_by_range (λ k. 1) n ∙ sum_below_ones n

module _ (inst : Ising) where
  -- whether bond b ends elsewhere
  abbrev misses : ℕ → Bond → Bool
  misses i b = not (eqb b.u i || eqb b.v i)

  -- a bond ends at the spin
  pub not_bare : (i k : ℕ) → k < bond_count inst → (((bond_at inst k).u ≡ i) ⊎ ((bond_at inst k).v ≡ i)) → is_bare inst i ≡ false
  not_bare i k l e = grind (arith, list_all_at)

  -- no bond ends at the spin
  pub all_miss : (i : ℕ) → ((k : ℕ) → k < bond_count inst → ((bond_at inst k).u ≢ i) × ((bond_at inst k).v ≢ i)) → is_bare inst i ≡ true
  all_miss i h =
      list_all-from_AllPass (misses i) inst.bonds
      (All-from_get_or (λ b. misses i b ≡ true) inst.bonds (record { u = 0; v = 0; j = pos 0 })
      (λ k l. ap₂ (λ a b. not (a || b)) (ne_eqb (bond_at inst k).u i (h k l).0) (ne_eqb (bond_at inst k).v i (h k l).1)))

  joined_not_bare : (set : ℕ → Bool) (i c : ℕ) → JoinedBy inst set i c → is_bare inst i ≡ false
  joined_not_bare set i c j = grind (arith, not_bare)

  -- a spin that reaches another one has a bond
  reaching_not_bare : (set : ℕ → Bool) (i c : ℕ) → i ≢ c → Reached inst set i c → is_bare inst i ≡ false
  reaching_not_bare set i c ne ([], e) = absurd (ne e)
  reaching_not_bare set i c ne (x ∷ path, w) = joined_not_bare set i x w.0

  -- there are no more bare spins than spins
  pub bare_few : bare_count inst ≤ inst.n
  bare_few = omega (arith, count_by-le-length (is_bare inst) (range_with_len 0 inst.n), length-range_with_len 0 inst.n)

  -- without a bond all spins are bare, and there is no dart
  pub faces_alone : bond_count inst ≡ 0 → face_count inst ≡ inst.n
  faces_alone none = grind (arith, all_miss, counted_all)

  module _ (good : IsInstance inst) where
    -- a spin is bare where its list of darts is empty
    pub bare_by_list : (i : ℕ) → i < inst.n → is_bare inst i ≡ eqb (length (darts_of inst i)) 0
    bare_by_list i l = elim (cases_eq (length (darts_of inst i)) 0) [
      | inl none ↦
          all_miss i (λ k b. (
            (λ e. let p = place_at inst good i (2 * k) (omega (arith, b)) (tail_first inst k ∙ e) in let low : p.0 < length
                (darts_of inst i) = p.1 in omega (arith, low, none)),
            (λ e. let p = place_at inst good i (2 * k + 1) (omega (arith, b)) (tail_second inst k ∙ e) in let low : p.0 < length
                (darts_of inst i) = p.1 in omega (arith, low, none)),
          ))
          ∙ sym (eq-eqb (length (darts_of inst i)) 0 none)
      | inr some ↦ by_dart (get_or (darts_of inst i) 0 0) (in_list inst good i 0 l (omega (arith, some))).0
          (in_list inst good i 0 l (omega (arith, some))).1 ∙ sym (ne_eqb (length (darts_of inst i)) 0 some)
    ]
      where
        by_dart : (d : ℕ) → d < dart_count inst → tail inst d ≡ i → is_bare inst i ≡ false
        by_dart d b t =
            let (k, which) = dart_cases d in
            elim which [
              | inl e ↦ not_bare i k (omega (arith, b, e)) (inl (sym (tail_first inst k) ∙ ap (tail inst) (sym e) ∙ t))
              | inr e ↦ not_bare i k (omega (arith, b, e)) (inr (sym (tail_second inst k) ∙ ap (tail inst) (sym e) ∙ t))
            ]

    -- a bond has two ends
    pub two_spins : 0 < bond_count inst → 2 ≤ inst.n
    two_spins some =
        let b : IsBond inst.n (bond_at inst 0) = good.draft.joined 0 (record { u = 0; v = 0; j = pos 0 }) some in
        apart (bond_at inst 0).u (bond_at inst 0).v b.first_end b.second_end b.ends_differ
      where
        apart : (u v : ℕ) → u < inst.n → v < inst.n → u ≢ v → 2 ≤ inst.n
        apart u v p q ne = omega arith

    module _ (connected : IsConnected inst) where
      -- a connected instance without a bond has one spin
      pub one_spin : bond_count inst ≡ 0 → inst.n ≡ 1
      one_spin none = elim (cases_lt 1 inst.n) [
        | inl more ↦ absurd (alone (connected 1 more))
        | inr few ↦ omega (arith, few, good.draft.has_spin)
      ]
        where
          alone : Reached inst all_bonds 0 1 → ⊥
          alone ([], e) = omega arith
          alone (c ∷ path, w) = let l : w.0.bond < bond_count inst = w.0.below in omega arith

      -- and so one face
      pub one_face : bond_count inst ≡ 0 → face_count inst ≡ 1
      one_face none = faces_alone none ∙ one_spin none

      -- with a bond it has no bare spin: each face has darts
      pub faces_bonded : 0 < bond_count inst → face_count inst ≡ faces_before inst (dart_count inst)
      faces_bonded some =
          let bare : bare_count inst ≡ 0 = counted_same (is_bare inst) (λ _. false) inst.n each ∙ counted_none inst.n in
          omega (arith, bare)
        where
          other : (i c : ℕ) → i < inst.n → c < inst.n → i ≢ c → is_bare inst i ≡ false
          other i c l m ne = reaching_not_bare all_bonds i c ne (reached_across inst all_bonds 0 i c (connected i l) (connected c m))

          each : (i : ℕ) → i < inst.n → is_bare inst i ≡ false
          each i l = elim (cases_eq i 0) [
            | inl first ↦ other i 1 l (two_spins some) (λ e. omega (arith, first, e))
            | inr ne ↦ other i 0 l (omega (arith, l)) ne
          ]

-- other couplings leave the bare spins as they are
pub bare_same : (inst : Ising) (bonds : List Bond) → HasSameEnds inst bonds → IsInstance inst → bare_count (with_bonds inst bonds) ≡ bare_count inst
bare_same inst bonds same good =
    counted_same (is_bare (with_bonds inst bonds)) (is_bare inst) inst.n
    (λ i l. bare_by_list (with_bonds inst bonds) (recoupled_instance inst bonds same good) i l ∙ sym (bare_by_list inst good i l))
