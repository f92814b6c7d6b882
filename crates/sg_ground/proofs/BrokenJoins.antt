-- The broken bonds of an assignment are a join of the frustrated faces in the dual.
use Rattle.std.proofs.Common.{ap₂, ◌≡◌, ℕ, ℤ, pos, ◌-ℤ◌, ◌≤ℤ◌, ◌*◌, ◌<◌, ◌≤◌, Bool, false, cond, ◌&&◌, eqb, List}
use Rattle.std.proofs.Common.{map, sym, ◌∙◌, ap, subst, arith, get_or, sum_by, All}
use Rattle.std.specs.List.{range_with_len}
use Rattle.std.proofs.lemmas.Int.{ints}
use Rattle.std.proofs.lemmas.List.{get_or-map, length-map}
use Rattle.std.proofs.lemmas.List.FromFn.{get_or-range_with_len, length-range_with_len}
use Rattle.sg_base.specs.Parity.{xor, odd, parity_below}
use Rattle.sg_base.specs.Sets.{chosen_below, holds, is_marked}
use Rattle.sg_base.specs.Ends.{is_end}
use Rattle.sg_base.proofs.ParityLaws.{odd_is, odd_test, parity_below-same, parity_below-xor, parity_by-same, xor-false}
use Rattle.sg_base.proofs.RisingLists.{chosen_below_low, chosen_below_rises, holds-chosen_below}
use Rattle.sg_model.specs.Ising.{Ising, bond_at, bond_count}
use Rattle.sg_model.specs.WellFormed.{IsInstance}
use Rattle.sg_model.specs.Energy.{IsGroundState, IsLeastEnergy, energy, weight}
use Rattle.sg_model.specs.Spins.{IsAssignment, spin}
use Rattle.sg_model.specs.Broken.{is_broken}
use Rattle.sg_model.proofs.BrokenEnergy.{energy_from_broken, unit_ends}
use Rattle.sg_model.proofs.BrokenParity.{is_down, is_broken_xor}
use Rattle.sg_faces.specs.Faces.{Labelling, IsFaceLabels}
use Rattle.sg_graph.specs.declared.web.Edge.{Edge}
use Rattle.sg_graph.specs.Web.{edge_at, ends_at, weight_of}
use Rattle.sg_graph.specs.Join.{IsJoin, IsLeastJoin}
use Rattle.sg_graph.proofs.Joins.{ends_parity}
use Rattle.sg_graph.proofs.OddLists.{chosen_below-parity}
use Rattle.sg_dual.specs.Dual.{dual_web, frustrated_faces, is_frustrated, is_negative_bond, negative_sides}
use Rattle.sg_dual.proofs.DualWebs.{dual_edge_at, dual_edge_count}
use Rattle.sg_model.specs.Connected.{IsConnected}
use Rattle.sg_planar.specs.BrokenLists.{BreaksExactly}
use Rattle.sg_planar.specs.Fit.{Embedding, IsPlanar}
use Rattle.sg_planar.specs.Following.{value_of}
use Rattle.sg_planar.proofs.FollowedBonds.{values_assigned, values_break}
use Rattle.sg_planar.proofs.FittingBonds.{fitting_follows, sides_parity, xor-and}
use Rattle.sg_ground.proofs.FrustratedCuts.{far_face, meet_evenly, near_face}
use Rattle.sg_ground.proofs.JoinFits.{broken_weight_is, join_fits}

module _ (inst : Ising) (faces : Labelling) (good : IsInstance inst) (labels : IsFaceLabels inst faces) where
  -- bond k lies on face f with one side and not both
  abbrev meets : ℕ → ℕ → Bool
  meets f k = is_end (near_face inst faces k) (far_face inst faces k) f

  module _ (s : List ℤ) (assigned : IsAssignment inst s) where
    abbrev broken : ℕ → Bool
    broken k = is_broken s (bond_at inst k)

    abbrev pub broken_bonds : List ℕ
    broken_bonds = chosen_below broken (bond_count inst)

    abbrev down : ℕ → Bool
    down x = is_down (spin s x)

    abbrev unlike : ℕ → Bool
    unlike k = xor (down (bond_at inst k).u) (down (bond_at inst k).v)

    -- round a face the spins turn an even number of times
    turns_evenly : (f : ℕ) → parity_below (λ k. unlike k && meets f k) (bond_count inst) ≡ false
    turns_evenly f = meet_evenly inst faces good labels down (λ x. eqb x f)

    -- so as many of its bonds are broken as are negative, up to an even number
    broken_on : (f : ℕ) → parity_below (λ k. broken k && meets f k) (bond_count inst) ≡ odd (negative_sides inst faces f)
    broken_on f =
        parity_below-same (λ k. broken k && meets f k) (λ k. xor (is_negative_bond inst k && meets f k) (unlike k && meets f k)) (bond_count inst)
        (λ k l. ap (λ b. b && meets f k) (is_broken_xor s (bond_at inst k) (unit_ends inst s good assigned k (record { u = 0; v = 0; j = pos 0 }) l))
        ∙ xor-and (is_negative_bond inst k) (unlike k) (meets f k))
        ∙ parity_below-xor (λ k. is_negative_bond inst k && meets f k) (λ k. unlike k && meets f k) (bond_count inst)
        ∙ ap₂ xor (sym (sides_parity inst faces f (is_negative_bond inst))) (turns_evenly f)
        ∙ xor-false (odd (negative_sides inst faces f))

    -- the broken bonds of an assignment are a join of the frustrated faces
    pub IsJoin-broken : IsJoin (dual_web inst faces) (frustrated_faces inst faces) broken_bonds
    IsJoin-broken = record {
      rising = chosen_below_rises broken (bond_count inst);
      below = subst (λ m. All (λ e. e < m) broken_bonds) (sym (dual_edge_count inst faces)) (chosen_below_low broken (bond_count inst));
      odd_at = λ f l. odd_is (sum_by (ends_at (dual_web inst faces) f) broken_bonds) ∙ ap (λ b. cond {A = ℕ} b 1 0) (ends_odd f l);
    }
      where
        ends_odd : (f : ℕ) → f < faces.count → odd (sum_by (ends_at (dual_web inst faces) f) broken_bonds) ≡ holds (frustrated_faces inst faces) f
        ends_odd f l =
            ends_parity (dual_web inst faces) f broken_bonds
            ∙ parity_by-same (λ e. is_end (edge_at (dual_web inst faces) e).a (edge_at (dual_web inst faces) e).b f) (meets f) broken_bonds
            (λ i d b. ap (λ (e : Edge). is_end e.a e.b f) (dual_edge_at inst faces (get_or broken_bonds i d) (chosen_below_low broken (bond_count inst) i d b)))
            ∙ chosen_below-parity broken (meets f) (bond_count inst)
            ∙ broken_on f
            ∙ sym (odd_test (negative_sides inst faces f))
            ∙ sym (holds-chosen_below (is_frustrated inst faces) faces.count f l)

    -- and the assignment breaks just these
    pub BreaksExactly-broken : BreaksExactly inst s broken_bonds
    BreaksExactly-broken k l = sym (holds-chosen_below broken (bond_count inst) k l)

  -- the energy by the weight of a join that is just what is broken
  pub energy_of_join : (s : List ℤ) (edges : List ℕ) → IsAssignment inst s → BreaksExactly inst s edges →
      IsJoin (dual_web inst faces) (frustrated_faces inst faces) edges → energy inst s ≡ pos (2 * weight_of (dual_web inst faces) edges) -ℤ pos (weight inst)
  energy_of_join s edges assigned breaks join =
      energy_from_broken inst s good assigned ∙ ap (λ w. pos (2 * w) -ℤ pos (weight inst)) (broken_weight_is inst faces edges join s breaks)

  -- spins that break a least join are a ground state
  pub ground_by_join : (s : List ℤ) (edges : List ℕ) → IsAssignment inst s → BreaksExactly inst s edges →
      IsLeastJoin (dual_web inst faces) (frustrated_faces inst faces) edges → IsGroundState inst s
  ground_by_join s edges assigned breaks least = record {
    assignment = assigned;
    least = λ t other.
        let light = least.least (broken_bonds t other) (IsJoin-broken t other) in
        let own = energy_of_join s edges assigned breaks least.join in
        let others = energy_of_join t (broken_bonds t other) other (BreaksExactly-broken t other) (IsJoin-broken t other) in
        omega (arith, ints, light, own, others);
  }

-- in the plane each join is just what some assignment breaks
module _ (p : Embedding) (planar : IsPlanar p) (connected : IsConnected p.instance) (edges : List ℕ) where
  abbrev joined_down : (ℕ → Bool) → List Bool
  joined_down t = map t (range_with_len 0 p.instance.n)

  marked : (t : ℕ → Bool) (x : ℕ) → x < p.instance.n → is_marked (joined_down t) x ≡ t x
  marked t x l =
      get_or-map t (range_with_len 0 p.instance.n) x 0 false (omega (arith, length-range_with_len 0 p.instance.n))
      ∙ ap t (get_or-range_with_len 0 p.instance.n x 0 l ∙ omega arith)

  pub some_breaking : IsJoin (dual_web p.instance p.faces) (frustrated_faces p.instance p.faces) edges
      → (s : List ℤ) × IsAssignment p.instance s × BreaksExactly p.instance s edges
  some_breaking join =
      let (t, follows) = fitting_follows p.instance planar.instance p.faces planar.faces connected planar.genus_zero edges
      (join_fits p.instance p.faces edges join) in
      let lengths = length-map (range_with_len 0 p.instance.n) t ∙ length-range_with_len 0 p.instance.n in (
        map value_of (joined_down t),
        values_assigned p.instance (joined_down t) lengths,
        (values_break p.instance (joined_down t) lengths edges planar.instance t follows (λ x l. marked t x l)).1,
      )

  -- the least energy is twice the weight of a least join, less that of all bonds
  pub least_energy_by_join : IsLeastJoin (dual_web p.instance p.faces) (frustrated_faces p.instance p.faces) edges
      → IsLeastEnergy p.instance (pos (2 * weight_of (dual_web p.instance p.faces) edges) -ℤ pos (weight p.instance))
  least_energy_by_join least =
      let (s, assigned, breaks) = some_breaking least.join in
      let energy_is = energy_of_join p.instance p.faces planar.instance planar.faces s edges assigned breaks least.join in
      let ground = ground_by_join p.instance p.faces planar.instance planar.faces s edges assigned breaks least in
      record { reached = (s, assigned, energy_is); least = λ t other. subst (λ e. e ≤ℤ energy p.instance t) energy_is (ground.least t other) }
