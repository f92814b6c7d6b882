-- What a least join of the frustrated faces gives: spins that break exactly its bonds are a ground state, and the odd cuts that prove the
-- join are the loops that prove it.
use Rattle.std.proofs.Common.{inl, inr, ◌≡◌, ℕ, ◌*◌, ◌<◌, ◌≤◌, ◌^◌, pos, ℤ, ◌+ℤ◌, ◌-ℤ◌, true, List, map, Result, Ok, Err, IfOk, sym, ◌∙◌, ap, arith, sum_by}
use Rattle.std.proofs.Common.{to_z, of_z, w64, FitsSigned, unsigned_abs}
use Rattle.std.specs.Int.{w128}
use Rattle.std.proofs.lemmas.Bool.{cases_eq}
use Rattle.std.proofs.lemmas.Int.{fits_signed_from_abs, ints, to_z-of_z}
use Rattle.sg_model.specs.Ising.{Ising, bond_count}
use Rattle.sg_model.specs.Connected.{IsConnected}
use Rattle.sg_model.specs.Spins.{IsAssignment}
use Rattle.sg_model.specs.Energy.{energy, weight}
use Rattle.sg_model.proofs.EnergyBounds.{energy_size}
use Rattle.sg_graph.specs.declared.cut.Cut.{Cut}
use Rattle.sg_graph.specs.Web.{Graph, weight_of}
use Rattle.sg_graph.specs.Join.{IsLeastJoin}
use Rattle.sg_graph.specs.OddCut.{CutsPack, odd_cut_weight}
use Rattle.sg_check.specs.Packing.{packed_weight}
use Rattle.sg_planar.specs.Fit.{Embedding, IsPlanar}
use Rattle.sg_planar.specs.BrokenLists.{BreaksExactly}
use Rattle.sg_planar.proofs.EulerBounds.{faces_few}
use Rattle.sg_dual.proofs.DualWebs.{one_face_alone}
use Rattle.sg_dual.specs.Dual.{dual_web, frustrated_faces}
use Rattle.sg_tjoin.specs.declared.Join.{Join}
use Rattle.sg_ground.specs.Loops.{loop_of}
use Rattle.sg_ground.specs.Solution.{IsSolution, IsState}
use Rattle.sg_ground.specs.TightJoin.{IsTightJoin}
use Rattle.sg_ground.proofs.BrokenJoins.{energy_of_join}
use Rattle.sg_ground.proofs.Packings.{loops_weight, packs_loops, short_loops}
use Rattle.sg_ground.proofs.WeighedJoins.{dual_join}

module _ (p : Embedding) (planar : IsPlanar p) (connected : IsConnected p.instance) where
  few_faces : 0 < bond_count p.instance → p.faces.count ≤ bond_count p.instance
  few_faces some = faces_few p.instance planar.instance connected p.faces planar.faces planar.genus_zero some

  -- the dual has no more faces than the program can number
  pub faces_fit : p.faces.count ≤ 2 ^ 24
  faces_fit = elim (cases_eq (bond_count p.instance) 0) [
    | inl none ↦ omega (arith, one_face_alone p.instance p.faces planar.faces planar.instance connected none)
    | inr some ↦ omega (arith, few_faces (omega arith), planar.instance.draft.few_bonds)
  ]

  -- a least join of the terminals in the web, where these are the dual and the frustrated faces
  pub tight_join : (web : Graph) (terminals edges : List ℕ) (w : ℤ) (cuts : List Cut) →
      web ≡ dual_web p.instance p.faces → terminals ≡ frustrated_faces p.instance p.faces → IsLeastJoin web terminals edges →
      w ≡ pos (weight_of web edges) → CutsPack web terminals cuts → sum_by odd_cut_weight cuts ≡ 2 * weight_of web edges → IsTightJoin p edges w cuts
  tight_join web terminals edges w cuts same_web same_terminals least value packs tight = record {
    join = dual_join p planar web terminals edges w same_web same_terminals least value;
    packs = rw (← same_web, ← same_terminals) packs;
    tight = tight ∙ ap (λ g. 2 * weight_of g edges) same_web;
  }

  pub any_tight : {E : Type 0} (r : Result Join E) (web : Graph) (terminals : List ℕ) → web ≡ dual_web p.instance p.faces →
      terminals ≡ frustrated_faces p.instance p.faces → IfOk r (λ (j : Join). IsLeastJoin web terminals j.edges) →
      IfOk r (λ (j : Join). j.weight ≡ pos (weight_of web j.edges)) → IfOk r (λ (j : Join). CutsPack web terminals j.cuts) →
      IfOk r (λ (j : Join). sum_by odd_cut_weight j.cuts ≡ 2 * weight_of web j.edges) → IfOk r (λ (j : Join). IsTightJoin p j.edges j.weight j.cuts)
  any_tight (Ok j) web terminals dual frustrated least value packs tight =
      tight_join web terminals j.edges j.weight j.cuts dual frustrated least value packs tight
  any_tight (Err e) web terminals dual frustrated least value packs tight = tt

  -- a state that breaks just the edges of a join, with the cuts that weigh twice as much
  pub solution_from_join : (s : List ℤ) (e w : ℤ) (edges : List ℕ) (cuts : List Cut) →
      BreaksExactly p.instance s edges → IsState p.instance s e → IsTightJoin p edges w cuts → IsSolution true p.instance s e (map loop_of cuts)
  solution_from_join s e w edges cuts breaks state join = record {
    state = state;
    packs = packs_loops p.instance p.faces planar.instance planar.faces cuts join.packs;
    short = short_loops p.instance p.faces planar.instance planar.faces cuts join.packs connected few_faces;
    tight = λ so. tight_sum e (packed_weight (map loop_of cuts)) (weight_of (dual_web p.instance p.faces) edges) (weight p.instance)
        (loops_weight cuts ∙ join.tight)
        (sym state.stated
        ∙ energy_of_join p.instance p.faces planar.instance planar.faces s edges state.ground_state.assignment breaks join.join.least.join);
  }
    where
      tight_sum : (e : ℤ) (t b w : ℕ) → t ≡ 2 * b → e ≡ pos (2 * b) -ℤ pos w → pos t ≡ e +ℤ pos w
      tight_sum e t b w p q = omega (arith, ints)

-- the energies of a planar instance fit 64 bits
module _
    (p : Embedding) (inst : Ising) (s : List ℤ) (e : ℤ) (planar : IsPlanar p)
    (same : inst ≡ p.instance) (assigned : IsAssignment p.instance s) (value : e ≡ energy inst s) where
  energy_is : e ≡ energy p.instance s
  energy_is = value ∙ ap (λ i. energy i s) same

  small_energy : unsigned_abs e ≤ weight p.instance
  small_energy = omega (arith, energy_size p.instance s planar.instance assigned, ap unsigned_abs energy_is)

  wide_energy : to_z w128 (of_z w128 e) ≡ e
  wide_energy = to_z-of_z w128 e (fits_signed_from_abs w128 e (omega (arith, small_energy, planar.sum)))

  -- the energy fits 64 bits
  pub energy_fits : FitsSigned w64 (to_z w128 (of_z w128 e))
  energy_fits = fits_signed_from_abs w64 (to_z w128 (of_z w128 e)) (omega (arith, small_energy, planar.sum, ap unsigned_abs wide_energy))

  -- so the cast gives it
  pub cast_energy : energy p.instance s ≡ to_z w64 (of_z w64 (to_z w128 (of_z w128 e)))
  cast_energy = sym (to_z-of_z w64 (to_z w128 (of_z w128 e)) energy_fits ∙ wide_energy ∙ energy_is)
