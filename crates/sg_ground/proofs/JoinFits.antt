-- A join of the frustrated faces has on each face as many bonds as negative ones, up to an even number; and where just its bonds
-- are broken, the broken bonds weigh what it weighs.
use Rattle.std.proofs.Common.{◌≡◌, ℕ, ◌%◌, ◌<◌, pos, Bool, ◌&&◌, cond, List, sym, ◌∙◌, ap, subst, arith, get_or, sum_by, All, ℤ, unsigned_abs}
use Rattle.sg_base.specs.Parity.{odd}
use Rattle.sg_base.specs.Sets.{holds}
use Rattle.sg_base.specs.Ends.{is_end}
use Rattle.sg_base.proofs.MemberSums.{members_sum}
use Rattle.sg_base.proofs.ParityLaws.{odd_is, parity_below-same, parity_by-same}
use Rattle.sg_base.proofs.RisingLists.{holds-chosen_below, members_parity}
use Rattle.sg_base.proofs.SumLaws.{sum_below-same, sum_by_is_sum_below}
use Rattle.sg_model.specs.Ising.{Ising, bond_at, bond_count}
use Rattle.sg_model.proofs.BrokenEnergy.{broken_weight}
use Rattle.sg_faces.specs.Faces.{Labelling}
use Rattle.sg_faces.specs.Sides.{sides_on}
use Rattle.sg_graph.specs.declared.web.Edge.{Edge}
use Rattle.sg_graph.specs.Web.{edge_at, edge_weight, ends_at, weight_at, weight_of}
use Rattle.sg_graph.specs.Join.{IsJoin}
use Rattle.sg_graph.proofs.Joins.{ends_parity, odd_from_cond}
use Rattle.sg_dual.specs.Dual.{dual_web, frustrated_faces, is_frustrated, is_negative_bond, negative_sides}
use Rattle.sg_dual.proofs.DualWebs.{dual_edge_at, dual_edge_count}
use Rattle.sg_base.proofs.ParityLaws.{odd_test}
use Rattle.sg_planar.specs.BrokenLists.{BreaksExactly, FitsFaces}
use Rattle.sg_planar.proofs.FittingBonds.{sides_parity}
use Rattle.sg_ground.proofs.FrustratedCuts.{far_face, near_face}

and_turned : (x y : Bool) → (x && y) ≡ (y && x)
and_turned x y = grind arith

same_rest : (a b : ℕ) → odd a ≡ odd b → a % 2 ≡ b % 2
same_rest a b e = odd_is a ∙ ap (λ b. cond {A = ℕ} b 1 0) e ∙ sym (odd_is b)

module _ (inst : Ising) (faces : Labelling) (edges : List ℕ) (join : IsJoin (dual_web inst faces) (frustrated_faces inst faces) edges) where
  -- the edges of a join are bonds
  pub join_below : All (λ k. k < bond_count inst) edges
  join_below = subst (λ m. All (λ k. k < m) edges) (dual_edge_count inst faces) join.below

  -- an odd number of its edges end at a frustrated face, and an even number at another
  pub join_fits : FitsFaces inst faces edges
  join_fits f l = same_rest (sides_on inst faces f (holds edges)) (sides_on inst faces f (is_negative_bond inst)) (
      sides_parity inst faces f (holds edges)
      ∙ parity_below-same (λ k. holds edges k && meets k) (λ k. meets k && holds edges k) (bond_count inst) (λ k _. and_turned (holds edges k) (meets k))
      ∙ members_parity meets edges (bond_count inst) join_below join.rising
      ∙ parity_by-same meets (λ e. is_end (edge_at (dual_web inst faces) e).a (edge_at (dual_web inst faces) e).b f) edges
      (λ i d b. ap (λ (e : Edge). is_end e.a e.b f) (sym (dual_edge_at inst faces (get_or edges i d) (join_below i d b))))
      ∙ sym (ends_parity (dual_web inst faces) f edges)
      ∙ odd_from_cond (dual_web inst faces) (sum_by (ends_at (dual_web inst faces) f) edges) (holds (frustrated_faces inst faces) f) (join.odd_at f l)
      ∙ holds-chosen_below (is_frustrated inst faces) faces.count f l
      ∙ odd_test (negative_sides inst faces f))
    where
      meets : ℕ → Bool
      meets k = is_end (near_face inst faces k) (far_face inst faces k) f

  -- where exactly its bonds are broken, they weigh what it weighs
  pub broken_weight_is : (s : List ℤ) → BreaksExactly inst s edges → sum_by (broken_weight s) inst.bonds ≡ weight_of (dual_web inst faces) edges
  broken_weight_is s breaks =
      sum_by_is_sum_below (broken_weight s) inst.bonds (record { u = 0; v = 0; j = pos 0 })
      ∙ sum_below-same (λ k. broken_weight s (bond_at inst k)) (λ k. cond (holds edges k) (edge_weight (dual_web inst faces) k) 0) (bond_count inst) each
      ∙ members_sum (edge_weight (dual_web inst faces)) edges (bond_count inst) join_below join.rising
    where
      each : (k : ℕ) → k < bond_count inst → broken_weight s (bond_at inst k) ≡ cond (holds edges k) (edge_weight (dual_web inst faces) k) 0
      each k l =
          ap (λ b. cond b (unsigned_abs (bond_at inst k).j) 0) (breaks k l)
          ∙ ap (λ w. cond (holds edges k) w 0) (sym (ap weight_at (dual_edge_at inst faces k l)))
