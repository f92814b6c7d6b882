-- A packing of odd cuts of the dual is a packing of frustrated loops of the instance, and its loops are few.
use Rattle.std.proofs.Common.{inl, inr, ◌≡◌, ◌*◌, ◌<◌, ◌≤◌, pos, cond, List, [], map, ap, arith, sum_by, length, get_or, unsigned_abs, ◌≤ℤ◌}
use Rattle.std.proofs.lemmas.Bool.{cases_eq}
use Rattle.std.proofs.lemmas.List.{length-map}
use Rattle.std.proofs.lemmas.List.Elements.{All-map, All-weaker}
use Rattle.std.proofs.lemmas.List.Sums.{count_by-le-length}
use Rattle.sg_base.specs.Sets.{holds}
use Rattle.sg_base.proofs.ListLaws.{sum_by-map_of}
use Rattle.sg_model.specs.Ising.{Ising, bond_at, bond_count}
use Rattle.sg_model.specs.WellFormed.{IsInstance}
use Rattle.sg_model.specs.Connected.{IsConnected}
use Rattle.sg_faces.specs.Faces.{Labelling, IsFaceLabels}
use Rattle.sg_graph.specs.declared.cut.Cut.{Cut}
use Rattle.sg_graph.specs.Web.{edge_weight, weight_at}
use Rattle.sg_graph.specs.OddCut.{CutsPack, IsOddCut, cut_load, odd_cut_weight}
use Rattle.sg_dual.specs.Dual.{dual_web, frustrated_faces}
use Rattle.sg_dual.proofs.DualWebs.{dual_edge_at, dual_edge_count, one_face_alone}
use Rattle.sg_dual.proofs.Frustration.{even_frustrated, frustrated_terminals}
use Rattle.sg_graph.proofs.OnceLists.{rising_few}
use Rattle.sg_check.specs.declared.packing.Loop.{Loop}
use Rattle.sg_check.specs.Loop.{IsFrustratedLoop}
use Rattle.sg_check.specs.Packing.{Packs, IsShort, loop_weight, packed_weight}
use Rattle.sg_ground.specs.Loops.{loop_of}
use Rattle.sg_ground.proofs.FrustratedCuts.{odd_cut_is_loop}

-- the loops weigh what the cuts weigh
pub loops_weight : (cuts : List Cut) → packed_weight (map loop_of cuts) ≡ sum_by odd_cut_weight cuts
loops_weight cuts = sum_by-map_of loop_weight loop_of cuts

module _
    (inst : Ising) (faces : Labelling) (good : IsInstance inst) (labels : IsFaceLabels inst faces)
    (cuts : List Cut) (pack : CutsPack (dual_web inst faces) (frustrated_faces inst faces) cuts) where
  -- a packing of odd cuts is a packing of loops
  pub packs_loops : Packs inst (map loop_of cuts)
  packs_loops = record {
    positive = All-map (λ (l : Loop). pos 1 ≤ℤ l.y) loop_of cuts pack.positive;
    frustrated = All-map (λ (l : Loop). IsFrustratedLoop inst l.bonds) loop_of cuts
        (All-weaker (λ (c : Cut). IsOddCut (dual_web inst faces) (frustrated_faces inst faces) c.edges) (λ (c : Cut). IsFrustratedLoop inst c.edges)
        (λ c h. odd_cut_is_loop inst faces good labels c.edges h) cuts pack.odd_cuts);
    within = λ k l.
        (let size : edge_weight (dual_web inst faces) k ≡ unsigned_abs (bond_at inst k).j = ap weight_at (dual_edge_at inst faces k l) in
        let most : cut_load cuts k ≤ 2 * edge_weight (dual_web inst faces) k = pack.within k (omega (arith, l, dual_edge_count inst faces)) in
        omega (arith, sum_by-map_of (λ (l : Loop). cond (holds l.bonds k) (loop_weight l) 0) loop_of cuts));
  }

  -- no more faces are frustrated than there are
  few_frustrated : length (frustrated_faces inst faces) ≤ faces.count
  few_frustrated =
      let terminals = frustrated_terminals inst faces in rising_few faces.count (frustrated_faces inst faces) terminals.below terminals.rising

  -- with no more faces than bonds there are at most five loops for each two bonds; without a bond nothing is frustrated
  pub short_loops : IsConnected inst → (0 < bond_count inst → faces.count ≤ bond_count inst) → IsShort inst (map loop_of cuts)
  short_loops whole few = elim (cases_eq (bond_count inst) 0) [
    | inl none ↦ omega (arith, without none, length-map cuts loop_of)
    | inr some ↦ omega (arith, length-map cuts loop_of, pack.short, few_frustrated, few (omega arith))
  ]
    where
      none_frustrated : bond_count inst ≡ 0 → length (frustrated_faces inst faces) ≡ 0
      none_frustrated none = omega (arith, few_frustrated, one_face_alone inst faces labels good whole none, even_frustrated inst faces labels)

      without : bond_count inst ≡ 0 → length cuts ≡ 0
      without no_bond = elim (cases_eq (length cuts) 0) [
        | inl e ↦ e
        | inr some ↦
            let none : Cut = record { y = pos 0; edges = [] } in
            let cut : IsOddCut (dual_web inst faces) (frustrated_faces inst faces) (get_or cuts 0 none).edges = pack.odd_cuts 0 none (omega arith) in
            absurd (omega (arith, cut.odd, count_by-le-length cut.inside (frustrated_faces inst faces), none_frustrated no_bond))
      ]
