-- Euler's number of an instance, and bounds by Euler's formula on a connected one.
use Rattle.std.proofs.Common.{inl, inr, ◌≡◌, ℕ, ◌+◌, ◌-◌, ◌*◌, ◌<◌, ◌≤◌, pos, ◌-ℤ◌, [], ◌∷◌, length, arith, refl}
use Rattle.std.proofs.lemmas.Int.{ints}
use Rattle.std.proofs.lemmas.Bool.{cases_eq}
use Rattle.sg_model.specs.Ising.{Ising, bond_count}
use Rattle.sg_model.specs.Rotation.{dart_count, next, tail}
use Rattle.sg_model.specs.WellFormed.{IsInstance}
use Rattle.sg_model.specs.Connected.{IsConnected}
use Rattle.sg_model.proofs.LeastSpins.{connected_leasts, leasts_few}
use Rattle.sg_faces.specs.Faces.{Labelling, IsFaceLabels, face_count, faces_before}
use Rattle.sg_faces.specs.Euler.{IsEuler, euler}
use Rattle.sg_faces.proofs.BareSpins.{faces_bonded, one_face, one_spin, two_spins}
use Rattle.sg_faces.proofs.SameFaces.{one_euler}
use Rattle.sg_planar.proofs.PlanarDuality.{euler_bound_embedding}
use Rattle.sg_planar.proofs.FaceNumbers.{AreFaceNumbers, face_numbers}
use Rattle.sg_planar.proofs.RotationSums.{numbered_embedding, spins_connected}

-- where the Euler number is 2: spins and faces are two more than bonds
euler_sum : (n f m : ℕ) → pos (n + f) -ℤ pos m ≡ pos 2 → n + f ≡ m + 2
euler_sum n f m h = omega (arith, ints)

module _ (inst : Ising) (good : IsInstance inst) (connected : IsConnected inst) where
  -- a connected instance in the plane has two more spins and faces than bonds
  pub connected_sum : IsEuler inst (pos 2) → inst.n + face_count inst ≡ bond_count inst + 2
  connected_sum genus_zero =
      let one : IsEuler inst (euler inst 1) = record { leasts = 0 ∷ []; components = connected_leasts inst good.draft.has_spin connected; value = refl } in
      let sum : inst.n + face_count inst ≡ bond_count inst + 2 * (1 - 1) + 2 =
      euler_sum inst.n (face_count inst) (bond_count inst + 2 * (1 - 1)) (one_euler inst (euler inst 1) (pos 2) one genus_zero) in
      omega (arith, sum)

  -- no connected rotation system has an Euler number above 2
  pub euler_bound_faces : inst.n + face_count inst ≤ bond_count inst + 2
  euler_bound_faces = elim (cases_eq (bond_count inst) 0) [
    | inl none ↦ omega (arith, one_spin inst good connected none, one_face inst good connected none)
    | inr ne ↦ omega (arith, with_bond (omega arith) (face_numbers inst good), faces_bonded inst good connected (omega arith))
  ]
    where
      with_bond : 0 < bond_count inst → ((face : ℕ → ℕ) × AreFaceNumbers inst face (faces_before inst (dart_count inst))) →
          inst.n + faces_before inst (dart_count inst) ≤ bond_count inst + 2
      with_bond some (face, numbers) =
          let first : face 0 < faces_before inst (dart_count inst) = numbers.below 0 (omega arith) in
          euler_bound_embedding inst.n (bond_count inst) (faces_before inst (dart_count inst)) (tail inst) (next inst) face
          (numbered_embedding inst good face (faces_before inst (dart_count inst)) numbers) good.draft.has_spin (spins_connected inst good connected)
          (omega arith)

  module _ (faces : Labelling) (labels : IsFaceLabels inst faces) where
    -- in the plane a connected instance with a bond has no more faces than bonds
    pub faces_few : IsEuler inst (pos 2) → 0 < bond_count inst → faces.count ≤ bond_count inst
    faces_few genus_zero some = omega (arith, connected_sum genus_zero, two_spins inst good some, labels.counts)

-- where the Euler number is 2: each component has no more faces than bonds and a spin
within_sum : (n f m c : ℕ) → 1 ≤ n → c ≤ n → pos 2 ≡ pos (n + f) -ℤ pos (m + 2 * (c - 1)) → f ≤ n + m
within_sum n f m c some few h = omega (arith, ints)

-- in the plane there are no more faces than spins and bonds, whatever the components
pub faces_within : (inst : Ising) → IsInstance inst → (faces : Labelling) → IsFaceLabels inst faces → IsEuler inst (pos 2)
    → faces.count ≤ inst.n + bond_count inst
faces_within inst good faces labels e =
    let within : face_count inst ≤ inst.n + bond_count inst =
    within_sum inst.n (face_count inst) (bond_count inst) (length e.leasts) good.draft.has_spin (leasts_few inst e.leasts e.components) e.value in
    omega (arith, within, labels.counts)
