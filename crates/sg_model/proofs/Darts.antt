-- The spins that darts leave.
use Rattle.std.proofs.Common.{◌≡◌, ◌≢◌, ℕ, ◌+◌, ◌*◌, ◌/◌, ◌%◌, ◌<◌, true, eqb, ltb, refl, ◌∙◌, ap, arith}
use Rattle.std.proofs.lemmas.Bool.{eq-eqb, lt-ltb, and_from}
use Rattle.sg_model.specs.Ising.{Ising, bond_at}
use Rattle.sg_model.specs.Rotation.{dart_count, is_dart_of, rev, tail, head_of}

module _ (inst : Ising) where
  -- an even dart leaves the first end of its bond
  pub tail_even : (d : ℕ) → d % 2 ≡ 0 → tail inst d ≡ (bond_at inst (d / 2)).u
  unfolding tail
  tail_even d even = rw even refl

  -- an odd one leaves the second
  pub tail_odd : (d : ℕ) → d % 2 ≢ 0 → tail inst d ≡ (bond_at inst (d / 2)).v
  unfolding tail
  tail_odd d odd = let e : d % 2 ≡ 1 = omega arith in rw e refl

  -- dart 2k leaves the first end of bond k
  pub tail_first : (k : ℕ) → tail inst (2 * k) ≡ (bond_at inst k).u
  tail_first k = let half : 2 * k / 2 ≡ k = omega arith in tail_even (2 * k) (omega arith) ∙ ap (λ b. (bond_at inst b).u) half

  -- dart 2k + 1 leaves the second
  pub tail_second : (k : ℕ) → tail inst (2 * k + 1) ≡ (bond_at inst k).v
  tail_second k = grind (arith, tail_odd)

  -- a dart of spin i
  pub is_dart_of-parts : (i d : ℕ) → is_dart_of inst i d ≡ true → (d < dart_count inst) × (tail inst d ≡ i)
  is_dart_of-parts i d h = grind arith

  -- a dart that leaves a spin is one of its darts
  pub is_dart_of-from : (i d : ℕ) → d < dart_count inst → tail inst d ≡ i → is_dart_of inst i d ≡ true
  is_dart_of-from i d l e = and_from (ltb d (dart_count inst)) (eqb (tail inst d) i) (lt-ltb d (dart_count inst) l) (eq-eqb (tail inst d) i e)

-- the other dart of 2k is 2k + 1
pub rev_first : (k : ℕ) → rev (2 * k) ≡ 2 * k + 1
unfolding rev
rev_first k = let even : 2 * k % 2 ≡ 0 = omega arith in rw even refl

-- and the other way round
pub rev_second : (k : ℕ) → rev (2 * k + 1) ≡ 2 * k
unfolding rev
rev_second k = let odd : (2 * k + 1) % 2 ≡ 1 = omega arith in rw odd (omega arith)

module _ (inst : Ising) where
  -- the spin that a dart leads to is the other end of its bond
  pub head_even : (d : ℕ) → d % 2 ≡ 0 → head_of inst d ≡ (bond_at inst (d / 2)).v
  head_even d even =
      let e : d ≡ 2 * (d / 2) = omega arith in
      ap (head_of inst) e ∙ ap (tail inst) (rev_first (d / 2)) ∙ tail_second inst (d / 2)

  -- an odd dart leads to the first end of its bond
  pub head_odd : (d : ℕ) → d % 2 ≢ 0 → head_of inst d ≡ (bond_at inst (d / 2)).u
  head_odd d odd =
      let e : d ≡ 2 * (d / 2) + 1 = omega arith in
      ap (head_of inst) e ∙ ap (tail inst) (rev_second (d / 2)) ∙ tail_first inst (d / 2)
