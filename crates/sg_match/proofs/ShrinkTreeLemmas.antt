-- The tree edges of a new blossom go, one after another.
use Rattle.std.proofs.Common.{◌≡◌, ℕ, true, false, not, List, [], ◌∷◌, ◌++◌, map, refl, ap, ◌∙◌, append-nil, filter}
use Rattle.std.proofs.lemmas.List.{map-append}
use Rattle.std.proofs.lemmas.List.Elements.{filter-append}
use Rattle.sg_arena.specs.Family.{Family, holds}
use Rattle.sg_match.specs.ShrunkTree.{renamed_edge, shrunk_edges}
use Rattle.sg_match.specs.declared.TreeEdge.{TreeEdge}

module _ (f : Family) (b : ℕ) (edges : List TreeEdge) (l : TreeEdge) where
  shrunk-append : shrunk_edges f b (edges ++ l ∷ []) ≡ shrunk_edges f b edges ++ shrunk_edges f b (l ∷ [])
  shrunk-append = ap (λ ls. map (renamed_edge f b) ls) (filter-append (λ l. not (holds f b l.up.from)) edges (l ∷ [])) ∙
      map-append (renamed_edge f b) (filter (λ l. not (holds f b l.up.from)) edges) (filter (λ l. not (holds f b l.up.from)) (l ∷ []))

  -- one that begins in the blossom goes
  pub shrunk-gone : holds f b l.up.from ≡ true → shrunk_edges f b (edges ++ l ∷ []) ≡ shrunk_edges f b edges
  shrunk-gone is = shrunk-append ∙ rw is (append-nil (shrunk_edges f b edges))

  -- any other stays
  pub shrunk-kept : holds f b l.up.from ≡ false → shrunk_edges f b (edges ++ l ∷ []) ≡ shrunk_edges f b edges ++ renamed_edge f b l ∷ []
  shrunk-kept is = shrunk-append ∙ rw is refl
