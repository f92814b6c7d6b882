-- What a least join of the frustrated faces gives by its weight: the least energy, and spins that have it.
use Rattle.std.proofs.Common.{◌≡◌, ℕ, ◌*◌, ◌≤◌, ℤ, pos, ◌+ℤ◌, ◌-ℤ◌, List, Result, Ok, Err, IfOk, ◌∙◌, ap, subst, arith, unsigned_abs}
use Rattle.std.proofs.lemmas.Int.{ints}
use Rattle.sg_model.specs.Ising.{Ising}
use Rattle.sg_model.specs.WellFormed.{IsInstance}
use Rattle.sg_model.specs.Connected.{IsConnected}
use Rattle.sg_model.specs.Spins.{IsAssignment, spin}
use Rattle.sg_model.specs.Energy.{IsLeastEnergy, weight}
use Rattle.sg_model.proofs.EnergyBounds.{energy_size}
use Rattle.sg_graph.specs.Web.{Graph, total_weight, weight_of}
use Rattle.sg_graph.specs.Join.{IsLeastJoin}
use Rattle.sg_graph.proofs.OnceLists.{rising_light}
use Rattle.sg_planar.specs.Fit.{Embedding, IsPlanar}
use Rattle.sg_planar.specs.BrokenLists.{BreaksExactly}
use Rattle.sg_dual.specs.Dual.{dual_web, frustrated_faces}
use Rattle.sg_dual.proofs.DualWebs.{dual_weight}
use Rattle.sg_tjoin.specs.declared.LeastJoin.{LeastJoin}
use Rattle.sg_ground.specs.Solution.{IsState}
use Rattle.sg_ground.specs.TightJoin.{IsWeighedJoin}
use Rattle.sg_ground.proofs.BrokenJoins.{energy_of_join, ground_by_join, least_energy_by_join}
use Rattle.sg_ground.proofs.FirstUp.{leasts_up}

-- no least energy is larger in size than the weight of all bonds
pub least_size : (inst : Ising) (e : ℤ) → IsInstance inst → IsLeastEnergy inst e → unsigned_abs e ≤ weight inst
least_size inst e good found = omega (arith, energy_size inst found.reached.0 good found.reached.1, ap unsigned_abs found.reached.2)

module _ (p : Embedding) (planar : IsPlanar p) where
  -- a least join of the terminals in the web, where these are the dual and the frustrated faces
  pub dual_join : (web : Graph) (terminals edges : List ℕ) (w : ℤ) → web ≡ dual_web p.instance p.faces → terminals ≡ frustrated_faces p.instance p.faces →
      IsLeastJoin web terminals edges → w ≡ pos (weight_of web edges) → IsWeighedJoin p edges w
  dual_join web terminals edges w same_web same_terminals least value = record {
    least = rw (← same_web, ← same_terminals) least;
    weight = value ∙ ap (λ g. pos (weight_of g edges)) same_web;
    light =
        omega (
          arith,
          ap unsigned_abs value,
          rising_light web edges least.join.below least.join.rising,
          dual_weight p.instance p.faces,
          ap total_weight same_web,
          planar.sum,
        );
  }

  pub any_join : {E : Type 0} (r : Result LeastJoin E) (web : Graph) (terminals : List ℕ) → web ≡ dual_web p.instance p.faces →
      terminals ≡ frustrated_faces p.instance p.faces → IfOk r (λ (j : LeastJoin). IsLeastJoin web terminals j.edges) →
      IfOk r (λ (j : LeastJoin). j.weight ≡ pos (weight_of web j.edges)) → IfOk r (λ (j : LeastJoin). IsWeighedJoin p j.edges j.weight)
  any_join (Ok j) web terminals same_web same_terminals least value = dual_join web terminals j.edges j.weight same_web same_terminals least value
  any_join (Err e) web terminals same_web same_terminals least value = tt

  module _ (connected : IsConnected p.instance) (edges : List ℕ) (w : ℤ) (join : IsWeighedJoin p edges w)
      (e : ℤ) (value : e ≡ (w +ℤ w) -ℤ pos (weight p.instance)) where
    energy_by_weight : pos (2 * weight_of (dual_web p.instance p.faces) edges) -ℤ pos (weight p.instance) ≡ e
    energy_by_weight = twice e w (weight_of (dual_web p.instance p.faces) edges) (weight p.instance) value join.weight
      where
        twice : (e w : ℤ) (k v : ℕ) → e ≡ (w +ℤ w) -ℤ pos v → w ≡ pos k → pos (2 * k) -ℤ pos v ≡ e
        twice e w k v h l = omega (arith, ints)

    -- the energy by the join's weight is the least
    pub least_by_weight : IsLeastEnergy p.instance e
    least_by_weight = subst (IsLeastEnergy p.instance) energy_by_weight (least_energy_by_join p planar connected edges join.least)

    -- spins that break just the join are a ground state of this energy
    pub state_by_weight : (s : List ℤ) → IsAssignment p.instance s → spin s 0 ≡ pos 1 → BreaksExactly p.instance s edges → IsState p.instance s e
    state_by_weight s assigned first_up breaks = record {
      ground_state = ground_by_join p.instance p.faces planar.instance planar.faces s edges assigned breaks join.least;
      stated = energy_of_join p.instance p.faces planar.instance planar.faces s edges assigned breaks join.least.join ∙ energy_by_weight;
      size = least_size p.instance e planar.instance least_by_weight;
      leasts_up = leasts_up p.instance connected s first_up;
    }
