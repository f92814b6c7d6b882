-- The dual is a web: what its edges are, and what each web keeps.
use Rattle.std.proofs.Common.{inl, inr, pos, ◌≡◌, ℕ, ◌+◌, ◌*◌, ◌<◌, ◌≤◌, ◌^◌, map, get_or, All, List, [], ◌∷◌, ◌++◌, ap₂, ℤ, sym, ◌∙◌, ap, arith, unsigned_abs}
use Rattle.std.specs.List.{range_with_len}
use Rattle.std.proofs.lemmas.List.FromFn.{length-map-range_with_len, get_or-map-range_with_len, map-range_with_len_more, length-range_with_len, get_or-range_with_len}
use Rattle.std.proofs.lemmas.List.Elements.{All-map}
use Rattle.std.proofs.lemmas.Int.{ints}
use Rattle.std.proofs.lemmas.Bool.{cases_eq}
use Rattle.sg_model.specs.declared.bond.Bond.{Bond}
use Rattle.sg_model.specs.Ising.{Ising, bond_count}
use Rattle.sg_model.specs.Energy.{weight}
use Rattle.sg_model.specs.WellFormed.{IsInstance}
use Rattle.sg_model.specs.Connected.{IsConnected}
use Rattle.sg_faces.specs.Faces.{Labelling, IsFaceLabels}
use Rattle.sg_faces.proofs.Traced.{label_below}
use Rattle.sg_faces.proofs.BareSpins.{faces_alone, one_face}
use Rattle.sg_graph.specs.declared.web.Edge.{Edge}
use Rattle.sg_graph.specs.Web.{Graph, IsWeb, IsEdge, edge_at, edge_count, weight_at, total_weight}
use Rattle.sg_graph.specs.Walk.{Leads}
use Rattle.sg_base.proofs.SumLaws.{sum_by_is_sum_below}
use Rattle.sg_dual.specs.Dual.{face_of, dual_edge, dual_web}
use Rattle.sg_base.proofs.Ranges.{sum_by-map_range}

module _ (inst : Ising) (faces : Labelling) where
  -- the dual has an edge for each bond
  pub dual_edge_count : edge_count (dual_web inst faces) ≡ bond_count inst
  dual_edge_count = length-map-range_with_len (dual_edge inst faces) 0 (bond_count inst)

  -- edge k of the dual is that of bond k
  pub dual_edge_at : (k : ℕ) → k < bond_count inst → edge_at (dual_web inst faces) k ≡ dual_edge inst faces k
  dual_edge_at k l = get_or-map-range_with_len (dual_edge inst faces) 0 (bond_count inst) k k (record { a = 0; b = 0; w = pos 0 }) l (omega arith)

  -- one bond more
  pub edges_more : (k : ℕ) (edges : List Edge) (bonds : List Bond) (a b : ℕ) (w : ℤ) → bonds ≡ inst.bonds
      → edges ≡ map (dual_edge inst faces) (range_with_len 0 k) →
      a ≡ face_of faces (2 * k) → b ≡ face_of faces (2 * k + 1) → w ≡ pos (unsigned_abs (get_or bonds k (record { u = 0; v = 0; j = pos 0 })).j) →
      edges ++ record { a = a; b = b; w = w } ∷ [] ≡ map (dual_edge inst faces) (range_with_len 0 (k + 1))
  edges_more k edges bonds a b w same made a_is b_is w_is =
      let edge : ℕ → ℕ → ℤ → Edge = λ a b w. record { a = a; b = b; w = w } in
      let size = w_is ∙ ap (λ (bs : List Bond). pos (unsigned_abs (get_or bs k (record { u = 0; v = 0; j = pos 0 })).j)) same in
      ap₂ (λ (es : List Edge) (e : Edge). es ++ e ∷ []) made (ap (λ x. edge x b w) a_is ∙ ap (λ x. edge (face_of faces (2 * k)) x w) b_is
      ∙ ap (edge (face_of faces (2 * k)) (face_of faces (2 * k + 1))) size)
      ∙ sym (map-range_with_len_more (dual_edge inst faces) 0 k k (omega arith))

  -- all edges together weigh as much as the bonds
  pub dual_weight : total_weight (dual_web inst faces) ≡ weight inst
  dual_weight =
      sum_by-map_range weight_at (dual_edge inst faces) (bond_count inst)
      ∙ sym (sum_by_is_sum_below (λ (b : Bond). unsigned_abs b.j) inst.bonds (record { u = 0; v = 0; j = pos 0 }))

  -- the edge of a bond leads from the face on its one side to the face on its other
  pub dual_leads : (k : ℕ) → k < bond_count inst → Leads (dual_web inst faces) k (face_of faces (2 * k)) (face_of faces (2 * k + 1))
  dual_leads k l = record {
    below = omega (arith, dual_edge_count);
    ways = inl (ap (λ (e : Edge). e.a) (dual_edge_at k l), ap (λ (e : Edge). e.b) (dual_edge_at k l));
  }

  -- a web with these nodes and edges is the dual
  pub web_is : (nodes : ℕ) (edges : List Edge) → nodes ≡ faces.count → edges ≡ map (dual_edge inst faces) (range_with_len 0 (bond_count inst))
      → record { nodes = nodes; edges = edges } ≡ dual_web inst faces
  web_is nodes edges n e = ap₂ (λ n es. let g : Graph = record { nodes = n; edges = es } in g) n e

  module _ (labels : IsFaceLabels inst faces) where
    -- a connected instance without a bond has one face
    pub one_face_alone : IsInstance inst → IsConnected inst → bond_count inst ≡ 0 → faces.count ≡ 1
    one_face_alone good whole none = labels.counts ∙ one_face inst good whole none

    -- every instance has a face
    pub has_face : IsInstance inst → 1 ≤ faces.count
    has_face good = elim (cases_eq (bond_count inst) 0) [
      | inl none ↦ omega (arith, labels.counts, faces_alone inst none, good.draft.has_spin)
      | inr some ↦ omega (arith, label_below inst faces labels 0 (omega arith))
    ]

    dual_joined : All (IsEdge faces.count) (map (dual_edge inst faces) (range_with_len 0 (bond_count inst)))
    dual_joined = All-map (IsEdge faces.count) (dual_edge inst faces) (range_with_len 0 (bond_count inst)) (λ i d l.
        let low : i < bond_count inst = omega (arith, l, length-range_with_len 0 (bond_count inst)) in
        is_edge (get_or (range_with_len 0 (bond_count inst)) i d) (omega (arith, get_or-range_with_len 0 (bond_count inst) i d low)))
      where
        is_edge : (k : ℕ) → k < bond_count inst → IsEdge faces.count (dual_edge inst faces k)
        is_edge k l = record {
          first_end = label_below inst faces labels (2 * k) (omega arith);
          second_end = label_below inst faces labels
              (2 * k + 1) (omega arith);
          not_negative = omega (arith, ints);
        }

    -- the dual keeps what each web keeps, if faces are few and the bonds not too heavy
    pub dual_is_web : IsInstance inst → faces.count ≤ 2 ^ 24 → weight inst ≤ 2 ^ 60 → IsWeb (dual_web inst faces)
    dual_is_web good few light = record {
      has_node = has_face good;
      few_nodes = few;
      few_edges = omega (arith, dual_edge_count, good.draft.few_bonds);
      joined = dual_joined;
      light = omega (arith, dual_weight, light);
    }
