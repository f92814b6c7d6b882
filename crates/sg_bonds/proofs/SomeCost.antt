-- Each bond has a cost: some assignment has the least energy of all, and with a force at a bond that of all with a product there.
use Rattle.sg_bonds.proofs.Common.{inl, inr, ℕ, zero, suc, ◌+◌, ◌-◌, ◌*◌, ◌^◌, ◌<◌, ◌≤◌, ℤ, pos, negsuc, ◌+ℤ◌, ◌-ℤ◌, ◌*ℤ◌, ◌≤ℤ◌, List, refl, arith}
use Rattle.sg_bonds.proofs.Common.{unsigned_abs, ints, by_lt_z, sum_limit, Ising, bond_at, bond_count, IsInstance, IsUpOrDown, IsGroundState, energy, weight}
use Rattle.sg_model.specs.Changes.{with_coupling}
use Rattle.sg_model.specs.Codes.{coded}
use Rattle.sg_model.proofs.EnergyBounds.{least_of_ground_state}
use Rattle.sg_model.proofs.PlainSearch.{beats-found, beats-kept, ground_state}
use Rattle.sg_model.proofs.Recoupled.{coupling_ends}
use Rattle.sg_model.proofs.SameEnds.{recoupled_instance}
use Rattle.sg_bonds.specs.Cost.{IsCost, IsLeastWith}
use Rattle.sg_bonds.proofs.CostNumbers.{signed_size}
use Rattle.sg_bonds.proofs.ForcedMinimum.{forced_minimum}

-- one of the first values of a function is the least of them
least_value : (f : ℕ → ℤ) (n : ℕ) → (k : ℕ) × ((j : ℕ) → j < n + 1 → f k ≤ℤ f j)
least_value f zero = (0, λ j l. beats-kept f (f 0) (f 0) 0 refl (omega (arith, ints)) (λ i m. absurd (omega (arith, m))) j l)
least_value f (suc n) =
    let (k, least) = least_value f n in
    by_lt_z (f (n + 1)) (f k)
    (λ less. (n + 1, λ j l. beats-found f (f k) (f (n + 1)) (n + 1) refl less least j (omega (arith, l))))
    (λ more. (k, λ j l. beats-kept f (f k) (f (n + 1)) (n + 1) refl more least j (omega (arith, l))))

-- each instance has a ground state
pub some_ground_state : (inst : Ising) → IsInstance inst → (s : List ℤ) × IsGroundState inst s
some_ground_state inst good =
    let (half, least) = least_value (λ k. energy inst (coded inst.n (2 * k))) (2 ^ (inst.n - 1)) in
    (coded inst.n (2 * half), ground_state inst half good (λ k l. least k (omega (arith, l))))

module _ (inst : Ising) (good : IsInstance inst) (k : ℕ) (inside : k < bond_count inst) (small : weight inst ≤ sum_limit) where
  some_least_with : (p : ℤ) → IsUpOrDown p → (e : ℤ) × IsLeastWith inst k p e
  some_least_with p up =
      let size : unsigned_abs (p *ℤ pos (weight inst + 1)) < 2 ^ 63 = omega (arith, signed_size p (pos (weight inst + 1)) up) in
      let forced : Ising = with_coupling inst k (p *ℤ pos (weight inst + 1)) in
      let sound = recoupled_instance inst forced.bonds (coupling_ends inst k (p *ℤ pos (weight inst + 1)) inside good.draft.joined size) good in
      let (s, ground) = some_ground_state forced sound in (
        (energy forced s +ℤ pos (weight inst + 1)) -ℤ (p *ℤ (bond_at inst k).j),
        forced_minimum inst good k inside p up (weight inst + 1) (omega arith) (energy forced s)
            (least_of_ground_state forced s (energy forced s) ground refl),
      )

  -- each bond has a cost
  pub some_cost : (c : ℤ) × IsCost inst k c
  some_cost =
      let (like, least_like) = some_least_with (pos 1) (inl refl) in
      let (unlike, least_unlike) = some_least_with (negsuc 0) (inr refl) in
      (pos (unsigned_abs (unlike -ℤ like)), record { like = like; unlike = unlike; least_like = least_like; least_unlike = least_unlike; apart = refl })
