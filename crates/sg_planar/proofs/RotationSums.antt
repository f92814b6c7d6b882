-- Sums over the darts of a rotation: `next` only moves them, round one cycle at each spin. So an instance with numbered
-- faces is an embedding.
use Rattle.std.proofs.Common.{ap₂, ◌≡◌, ℕ, zero, suc, ◌+◌, ◌*◌, ◌%◌, ◌<◌, Bool, true, false, cond, ◌&&◌, eqb, List, [], ◌∷◌, refl, sym, ◌∙◌, ap, arith, All, length, get_or}
use Rattle.std.specs.List.{range_with_len}
use Rattle.std.proofs.Math.Nat.{mod_self, mod-eq_of_lt}
use Rattle.std.proofs.lemmas.List.Elements.{All-from_get_or}
use Rattle.std.proofs.lemmas.Bool.{lt-ltb}
use Rattle.sg_base.specs.Parity.{xor, odd, parity_by, parity_below}
use Rattle.sg_base.proofs.ParityLaws.{odd-count_by, parity_by-same, parity_below-same, parity_below_pick, parity_exchange}
use Rattle.sg_base.proofs.Ranges.{parity_by_range}
use Rattle.sg_base.proofs.Recounting.{parity_below_first, parity_by_index, parity_by_counts, parity_below_by_pairs, All_range_at}
use Rattle.sg_model.specs.Ising.{Ising, bond_at, bond_count}
use Rattle.sg_model.specs.Rotation.{dart_count, tail, is_dart_of, darts_of, following, next}
use Rattle.sg_base.specs.Sets.{DifferByCount}
use Rattle.sg_model.specs.WellFormed.{IsInstance}
use Rattle.sg_model.specs.Connected.{JoinedBy, IsWalk, Reached, IsConnected, all_bonds}
use Rattle.sg_model.proofs.Darts.{tail_first, tail_second, rev_first, rev_second}
use Rattle.sg_model.proofs.CyclicLists.{following_at}
use Rattle.sg_model.proofs.Rotations.{spin_distinct, in_list, tail_below, place_of, next_is, next_in_list}
use Rattle.sg_planar.proofs.FaceNumbers.{AreFaceNumbers}
use Rattle.sg_planar.proofs.Embeddings.{IsEmbedding, SpinsConnected}

-- to go one step on round a cycle changes no sum over it
pub following_sum : (h : ℕ → Bool) (xs : List ℕ) → DifferByCount xs → parity_by (λ d. h (following xs d)) xs ≡ parity_by h xs
following_sum h xs once =
    parity_by_index (λ d. h (following xs d)) xs
    ∙ parity_below-same (λ i. h (following xs (get_or xs i 0))) (λ i. g ((i + 1) % length xs)) (length xs) (λ i l. ap h (following_at xs once i l))
    ∙ turned (length xs)
    ∙ sym (parity_by_index h xs)
  where
    g : ℕ → Bool
    g i = h (get_or xs i 0)

    turned : (n : ℕ) → parity_below (λ i. g ((i + 1) % n)) n ≡ parity_below g n
    turned zero = refl
    turned (suc q) =
        let last : (q + 1) % suc q ≡ 0 = let e : q + 1 ≡ suc q = omega arith in ap (λ n. n % suc q) e ∙ mod_self (suc q) in
        ap₂ xor (ap g last) (parity_below-same (λ i. g ((i + 1) % suc q)) (λ i. g (suc i)) q (λ i l. ap g (inside i l))) ∙ sym (parity_below_first g q)
      where
        inside : (i : ℕ) → i < q → (i + 1) % suc q ≡ suc i
        inside i l = let b : i + 1 < suc q = omega arith in mod-eq_of_lt b ∙ omega arith

-- what stays over each step of a cycle is one value on it
pub constant_on_cycle : (g : ℕ → Bool) (xs : List ℕ) → DifferByCount xs → All (λ d. g (following xs d) ≡ g d) xs →
    (i : ℕ) → i < length xs → g (get_or xs i 0) ≡ g (get_or xs 0 0)
constant_on_cycle g xs once same zero l = refl
constant_on_cycle g xs once same (suc i) l = grind (arith, constant_on_cycle g xs once same i, mod-eq_of_lt, following_at)

module _ (inst : Ising) (good : IsInstance inst) where
  -- a sum over the list of a spin is one over the darts that leave it
  spin_sum : (g : ℕ → Bool) (i : ℕ) → i < inst.n → parity_by g (darts_of inst i) ≡ parity_below (λ d. g d && eqb (tail inst d) i) (dart_count inst)
  spin_sum g i l =
      parity_by_counts g (dart_count inst) (darts_of inst i)
      (All-from_get_or (λ x. x < dart_count inst) (darts_of inst i) 0 (λ j b. (in_list inst good i j l b).0))
      ∙ parity_below-same (λ d. g d && parity_by (λ x. eqb x d) (darts_of inst i)) (λ d. g d && eqb (tail inst d) i) (dart_count inst)
      (λ d b. ap (λ w. g d && w) (sym (odd-count_by (λ x. eqb x d) (darts_of inst i)) ∙ ap odd (good.rotation.each_once i d l)
      ∙ odd_cond (is_dart_of inst i d) ∙ ap (λ w. w && eqb (tail inst d) i) (lt-ltb d (dart_count inst) b)))
    where
      odd_cond : (b : Bool) → odd (cond b 1 0) ≡ b
      odd_cond true = refl
      odd_cond false = refl

  -- the lists of all spins together hold each dart once
  darts_sum : (g : ℕ → Bool) → parity_below (λ i. parity_by g (darts_of inst i)) inst.n ≡ parity_below g (dart_count inst)
  darts_sum g =
      parity_below-same (λ i. parity_by g (darts_of inst i)) (λ i. parity_by (λ d. g d && eqb (tail inst d) i) (range_with_len 0 (dart_count inst))) inst.n
      (λ i l. spin_sum g i l ∙ sym (parity_by_range (λ d. g d && eqb (tail inst d) i) (dart_count inst)))
      ∙ sym (parity_exchange (λ d i. g d && eqb (tail inst d) i) (range_with_len 0 (dart_count inst)) inst.n)
      ∙ parity_by_range (λ d. parity_below (λ i. g d && eqb (tail inst d) i) inst.n) (dart_count inst)
      ∙ parity_below-same (λ d. parity_below (λ i. g d && eqb (tail inst d) i) inst.n) g (dart_count inst)
      (λ d l. parity_below_pick (λ i. g d) (tail inst d) inst.n (tail_below inst good d l))

  next_sum : (g : ℕ → Bool) → parity_below (λ d. g (next inst d)) (dart_count inst) ≡ parity_below g (dart_count inst)
  next_sum g =
      sym (darts_sum (λ d. g (next inst d)))
      ∙ parity_below-same (λ i. parity_by (λ d. g (next inst d)) (darts_of inst i)) (λ i. parity_by g (darts_of inst i)) inst.n each
      ∙ darts_sum g
    where
      each : (i : ℕ) → i < inst.n → parity_by (λ d. g (next inst d)) (darts_of inst i) ≡ parity_by g (darts_of inst i)
      each i l =
          parity_by-same (λ d. g (next inst d)) (λ d. g (following (darts_of inst i) d)) (darts_of inst i)
          (All-from_get_or (λ d. g (next inst d) ≡ g (following (darts_of inst i) d)) (darts_of inst i) 0
          (λ j b. ap g (next_is inst good (get_or (darts_of inst i) j 0)
          ∙ ap (λ t. following (darts_of inst t) (get_or (darts_of inst i) j 0)) (in_list inst good i j l b).1)))
          ∙ following_sum g (darts_of inst i) (spin_distinct inst good i l)

  -- what `next` leaves is one value on the darts of a spin
  one_cycle : (g : ℕ → Bool) → ((d : ℕ) → d < dart_count inst → g (next inst d) ≡ g d) →
      (d e : ℕ) → d < dart_count inst → e < dart_count inst → tail inst d ≡ tail inst e → g d ≡ g e
  one_cycle g same d e ld le t = at_first d ld ∙ ap (λ i. g (get_or (darts_of inst i) 0 0)) t ∙ sym (at_first e le)
    where
      at_place : (i : ℕ) → i < inst.n → (j : ℕ) → j < length (darts_of inst i) →
          g (following (darts_of inst i) (get_or (darts_of inst i) j 0)) ≡ g (get_or (darts_of inst i) j 0)
      at_place i b j q = grind (arith, in_list, next_is)

      at_first : (x : ℕ) → x < dart_count inst → g x ≡ g (get_or (darts_of inst (tail inst x)) 0 0)
      at_first x l =
          let p : (j : ℕ) × (j < length (darts_of inst (tail inst x))) × (get_or (darts_of inst (tail inst x)) j 0 ≡ x) = place_of inst good x l in
          let b : tail inst x < inst.n = tail_below inst good x l in
          ap g (sym p.2)
          ∙ constant_on_cycle g (darts_of inst (tail inst x)) (spin_distinct inst good (tail inst x) b)
          (All-from_get_or (λ y. g (following (darts_of inst (tail inst x)) y) ≡ g y) (darts_of inst (tail inst x)) 0 (at_place (tail inst x) b)) p.0 p.1

  -- numbered faces make an instance an embedding
  pub numbered_embedding : (face : ℕ → ℕ) (F : ℕ) → AreFaceNumbers inst face F → IsEmbedding inst.n (bond_count inst) F (tail inst) (next inst) face
  numbered_embedding face F numbers = record {
    tail_below = tail_below inst good;
    next_tail = λ d l. (next_in_list inst good d l).1;
    next_sum = λ h. sym (parity_below_by_pairs (λ d. h (next inst d)) (bond_count inst)) ∙ next_sum h ∙ parity_below_by_pairs h (bond_count inst);
    one_cycle = one_cycle;
    face_next = λ k l. (
      ap (λ d. face (next inst d)) (sym (rev_second k)) ∙ numbers.along (2 * k + 1) (omega arith),
      ap (λ d. face (next inst d)) (sym (rev_first k)) ∙ numbers.along (2 * k) (omega arith),
    );
    face_below = numbers.below;
    face_used = numbers.used;
  }

  -- the walks of a connected instance reach every spin
  pub spins_connected : IsConnected inst → SpinsConnected inst.n (bond_count inst) (tail inst)
  spins_connected reach B at_root same x l =
      let r : Reached inst all_bonds 0 x = reach x l in
      along r.0 0 x r.1 (at_root 0 (omega arith) refl)
    where
      across : (k : ℕ) → k < bond_count inst → B (bond_at inst k).u ≡ B (bond_at inst k).v
      across k b =
          ap B (sym (tail_first inst k))
          ∙ All_range_at (λ k. B (tail inst (2 * k)) ≡ B (tail inst (2 * k + 1))) (bond_count inst) same k b ∙ ap B (tail_second inst k)

      one : (a c : ℕ) → JoinedBy inst all_bonds a c → B a ≡ true → B c ≡ true
      one a c j h = grind (arith, across)

      along : (path : List ℕ) (a b : ℕ) → IsWalk inst all_bonds a path b → B a ≡ true → B b ≡ true
      along [] a b w h = ap B (sym w) ∙ h
      along (c ∷ cs) a b w h = along cs c b w.1 (one a c w.0 h)
