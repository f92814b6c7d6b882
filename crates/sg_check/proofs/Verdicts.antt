-- The verdict is Yes exactly where the proof holds.
use Rattle.std.proofs.Common.{◌≡◌, pos, ◌+ℤ◌, [], refl, sym, ◌∙◌, subst}
use Rattle.sg_model.specs.Ising.{Ising}
use Rattle.sg_model.specs.WellFormed.{IsInstance}
use Rattle.sg_model.specs.Energy.{IsGroundState, IsLeastEnergy, weight}
use Rattle.sg_check.specs.declared.packing.ResultText.{ResultText}
use Rattle.sg_check.specs.declared.verdict.Verdict.{Verdict}
use Rattle.sg_check.specs.declared.verdict.Verdict.TheVariants.{Yes, SpinCount, Energy, LoopShape, LoopEven, LoopSign, Load, Sum}
use Rattle.sg_check.specs.Packing.{Proves, packed_weight}
use Rattle.sg_check.specs.Verdict.{StatesEnergy, PassesLoops, PassesLoads, IsVerdict}
use Rattle.sg_check.proofs.WeakDuality.{proves_ground_state, proves_least_energy}

module _ (inst : Ising) (text : ResultText) where
  abbrev pub Holds : Type 0
  Holds = Proves inst text.spins text.energy text.loops

  -- all tests passed are a proof
  pub proof_from_tests : StatesEnergy inst text → PassesLoops inst text.loops → PassesLoads inst text.loops
      → pos (packed_weight text.loops) ≡ text.energy +ℤ pos (weight inst) → Holds
  proof_from_tests energy loops loads sum = record {
    assignment = energy.assignment;
    stated = energy.stated;
    packs = record {
      positive = λ k d l. (loops.shaped k d l).positive;
      frustrated = λ k d l. record { set = (loops.shaped k d l).set; even = loops.even k d l; odd = loops.odd k d l };
      within = loads;
    };
    tight = sum;
  }

  -- a proof passes every test
  pub yes_from_proof : (v : Verdict) → IsVerdict inst text v → Holds → v ≡ Yes
  yes_from_proof Yes h proof = refl
  yes_from_proof (SpinCount found) h proof = absurd (h.1 (h.0 ∙ proof.assignment.count))
  yes_from_proof (Energy found) h proof = absurd (h.2 (h.1 ∙ proof.stated))
  yes_from_proof (LoopShape index) h proof = absurd (h.1.fails (record {
    positive = proof.packs.positive index (record { y = pos 0; bonds = [] }) h.1.below;
    set = (proof.packs.frustrated index (record { y = pos 0; bonds = [] }) h.1.below).set;
  }))
  yes_from_proof (LoopEven index spin) h proof = absurd (h.2.fails (proof.packs.frustrated index (record { y = pos 0; bonds = [] }) h.2.below).even)
  yes_from_proof (LoopSign index) h proof = absurd (h.3.fails (proof.packs.frustrated index (record { y = pos 0; bonds = [] }) h.3.below).odd)
  yes_from_proof (Load bond sum) h proof = absurd (h.2.fails (proof.packs.within bond h.2.below))
  yes_from_proof (Sum found wanted) h proof = absurd (h.5 (h.3 ∙ proof.tight ∙ sym h.4))

  -- a yes says that the spins have the stated energy, and that the loops prove it
  pub proof_from_yes : (v : Verdict) → IsVerdict inst text v → v ≡ Yes → Holds
  proof_from_yes v h e = subst (IsVerdict inst text) e h

  -- what a yes means
  pub ground_state_from_yes : IsInstance inst → (v : Verdict) → IsVerdict inst text v → v ≡ Yes → IsGroundState inst text.spins
  ground_state_from_yes good v h e = proves_ground_state inst good text.spins text.energy text.loops (proof_from_yes v h e)

  -- a yes says that no assignment has less energy than the stated one
  pub least_energy_from_yes : IsInstance inst → (v : Verdict) → IsVerdict inst text v → v ≡ Yes → IsLeastEnergy inst text.energy
  least_energy_from_yes good v h e = proves_least_energy inst good text.spins text.energy text.loops (proof_from_yes v h e)
