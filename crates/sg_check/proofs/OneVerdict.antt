-- A stated proof has one verdict: the first test that it fails, or Yes.
use Rattle.std.proofs.Common.{◌≡◌, ◌≢◌, inl, inr, ℕ, zero, suc, ◌<◌, ◌≤◌, pos, ◌+ℤ◌, [], refl, sym, ap, ap₂, subst, ◌∙◌, arith, All}
use Rattle.std.proofs.lemmas.Bool.{cases_eq, cases_order}
use Rattle.sg_model.specs.Ising.{Ising}
use Rattle.sg_model.specs.Energy.{energy, weight}
use Rattle.sg_model.specs.Spins.{IsAssignment}
use Rattle.sg_check.specs.declared.packing.ResultText.{ResultText}
use Rattle.sg_check.specs.declared.verdict.Verdict.{Verdict}
use Rattle.sg_check.specs.declared.verdict.Verdict.TheVariants.{Yes, SpinCount, Energy, LoopShape, LoopEven, LoopSign, Load, Sum}
use Rattle.sg_check.specs.Loop.{IsEven, IsEvenAt, IsOddlyNegative}
use Rattle.sg_check.specs.Packing.{load, packed_weight}
use Rattle.sg_check.specs.Verdict.{HasShape, IsFirstFailure, IsVerdict, PassesLoads, loop_at}

-- one number is the first that fails
pub failure-one : (Passes : ℕ → Type 0) (n i j : ℕ) → IsFirstFailure Passes n i → IsFirstFailure Passes n j → i ≡ j
failure-one Passes n i j p q = elim (cases_order i j) [
  | inl same ↦ same
  | inr (inl less) ↦ absurd (p.fails (q.earlier i less))
  | inr (inr more) ↦ absurd (q.fails (p.earlier j more))
]

module _ (inst : Ising) (text : ResultText) where
  -- the tests in their order
  abbrev Test : ℕ → Type 0
  Test zero = IsAssignment inst text.spins
  Test (suc zero) = energy inst text.spins ≡ text.energy
  Test (suc (suc zero)) = All (HasShape inst) text.loops
  Test (suc (suc (suc zero))) = All (λ l. IsEven inst l.bonds) text.loops
  Test (suc (suc (suc (suc zero)))) = All (λ l. IsOddlyNegative inst l.bonds) text.loops
  Test (suc (suc (suc (suc (suc zero))))) = PassesLoads inst text.loops
  Test (suc (suc (suc (suc (suc (suc rest)))))) = pos (packed_weight text.loops) ≡ text.energy +ℤ pos (weight inst)

  -- the test that a verdict fails, past the last for Yes
  abbrev stage : Verdict → ℕ
  stage (SpinCount found) = 0
  stage (Energy found) = 1
  stage (LoopShape index) = 2
  stage (LoopEven index spin) = 3
  stage (LoopSign index) = 4
  stage (Load bond sum) = 5
  stage (Sum found wanted) = 6
  stage Yes = 7

  -- all tests before one of them are passed
  abbrev Upto : ℕ → Type 0
  Upto zero = Unit {0}
  Upto (suc k) = Upto k × Test k

  at : (n k : ℕ) → Upto n → k < n → Test k
  at zero k h l = absurd (omega (arith, l))
  at (suc n) k h l = elim (cases_eq k n) [
    | inl same ↦ subst Test (sym same) h.1
    | inr other ↦ at n k h.0 (omega (arith, l, other))
  ]

  passed : (v : Verdict) → IsVerdict inst text v → Upto (stage v)
  passed (SpinCount found) h = tt
  passed (Energy found) h = (tt, h.0)
  passed (LoopShape index) h = ((tt, h.0.assignment), h.0.stated)
  passed (LoopEven index spin) h = (((tt, h.0.assignment), h.0.stated), h.1)
  passed (LoopSign index) h = ((((tt, h.0.assignment), h.0.stated), h.1), h.2)
  passed (Load bond sum) h = (((((tt, h.0.assignment), h.0.stated), h.1.shaped), h.1.even), h.1.odd)
  passed (Sum found wanted) h = ((((((tt, h.0.assignment), h.0.stated), h.1.shaped), h.1.even), h.1.odd), h.2)
  passed Yes h =
      let shaped : All (HasShape inst) text.loops = λ k d l. record { positive = h.packs.positive k d l; set = (h.packs.frustrated k d l).set } in
      let even : All (λ l. IsEven inst l.bonds) text.loops = λ k d l. (h.packs.frustrated k d l).even in
      (((((((tt, h.assignment), h.stated), shaped), even), λ k d l. (h.packs.frustrated k d l).odd), h.packs.within), h.tight)

  failed : (v : Verdict) → v ≢ Yes → IsVerdict inst text v → Test (stage v) → ⊥
  failed (SpinCount found) other h t = h.1 (h.0 ∙ t.count)
  failed (Energy found) other h t = h.2 (h.1 ∙ t)
  failed (LoopShape index) other h t = h.1.fails (t index (record { y = pos 0; bonds = [] }) h.1.below)
  failed (LoopEven index spin) other h t = h.2.fails (t index (record { y = pos 0; bonds = [] }) h.2.below)
  failed (LoopSign index) other h t = h.3.fails (t index (record { y = pos 0; bonds = [] }) h.3.below)
  failed (Load bond sum) other h t = h.2.fails (t bond h.2.below)
  failed (Sum found wanted) other h t = h.5 (h.3 ∙ t ∙ sym h.4)
  failed Yes other h t = other refl

  stage-le : (v : Verdict) → stage v ≤ 7
  stage-le Yes = omega arith
  stage-le _ = omega arith

  yes-last : (v : Verdict) (n : ℕ) → v ≡ Yes → stage v < n → n ≤ 7 → ⊥
  yes-last v n is less most = let e : stage v ≡ 7 = ap stage is in omega (arith, e, less, most)

  -- two verdicts are of one test
  same-stage : (v w : Verdict) → IsVerdict inst text v → IsVerdict inst text w → stage v ≡ stage w
  same-stage v w p q = elim (cases_order (stage v) (stage w)) [
    | inl same ↦ same
    | inr (inl less) ↦ absurd (failed v (λ is. yes-last v (stage w) is less (stage-le w)) p (at (stage w) (stage v) (passed w q) less))
    | inr (inr more) ↦ absurd (failed w (λ is. yes-last w (stage v) is more (stage-le v)) q (at (stage v) (stage w) (passed v p) more))
  ]

  -- and name the same numbers
  pub one_verdict : (v w : Verdict) → IsVerdict inst text v → IsVerdict inst text w → v ≡ w
  one_verdict Yes Yes p q = refl
  one_verdict (SpinCount a) (SpinCount b) p q = ap SpinCount (p.0 ∙ sym q.0)
  one_verdict (Energy a) (Energy b) p q = ap Energy (p.1 ∙ sym q.1)
  one_verdict (LoopShape i) (LoopShape j) p q = ap LoopShape (failure-one _ _ i j p.1 q.1)
  one_verdict (LoopEven i s) (LoopEven j t) p q =
      let same : i ≡ j = failure-one _ _ i j p.2 q.2 in
      ap₂ LoopEven same (failure-one (IsEvenAt inst (loop_at text.loops j).bonds) inst.n s t (rw same at p.3) q.3)
  one_verdict (LoopSign i) (LoopSign j) p q = ap LoopSign (failure-one _ _ i j p.3 q.3)
  one_verdict (Load b x) (Load c y) p q =
      let same : b ≡ c = failure-one _ _ b c p.2 q.2 in
      ap₂ Load same (p.3 ∙ ap (λ k. pos (load text.loops k)) same ∙ sym q.3)
  one_verdict (Sum f x) (Sum g y) p q = ap₂ Sum (p.3 ∙ sym q.3) (p.4 ∙ sym q.4)
  one_verdict v w p q = let same : stage v ≡ stage w = same-stage v w p q in absurd (omega (arith, same))
