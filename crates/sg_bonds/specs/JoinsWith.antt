-- Minimum T-joins among those that have one edge, or that do not have it; and how they are found without that edge.
use Rattle.std.specs.Prelude.{◌≡◌, ℕ, ◌==◌, ◌&&◌, ◌≤◌, ℤ, pos, negsuc, Bool, cond, List}
use Rattle.std.specs.Ordering.{int_eq}
use Rattle.sg_base.specs.Parity.{xor}
use Rattle.sg_base.specs.Sets.{chosen_below, holds}
use Rattle.sg_base.specs.Ends.{is_end}
use Rattle.sg_model.specs.declared.bond.Bond.{Bond}
use Rattle.sg_model.specs.Connected.{IsConnected}
use Rattle.sg_model.specs.Broken.{is_negative}
use Rattle.sg_dual.specs.Dual.{dual_web, frustrated_faces}
use Rattle.sg_graph.specs.Web.{Graph, edge_at, edge_count, weight_of, with_weight}
use Rattle.sg_graph.specs.Join.{IsJoin, IsLeastJoin}
use Rattle.sg_planar.specs.Fit.{Embedding, IsPlanar}

-- a T-join that has edge k, or lacks it, as is said; and no such T-join weighs less
pub record IsLeastJoinWith (g : Graph) (terminals : List ℕ) (k : ℕ) (has : Bool) (edges : List ℕ) : Type 0 where
  pub join : IsJoin g terminals edges
  pub side : holds edges k ≡ has
  pub least : (others : List ℕ) → IsJoin g terminals others → holds others k ≡ has →
      weight_of g edges ≤ weight_of g others

-- the terminals, toggled at both ends of edge k if the T-join must contain it
abbrev pub turned_at : Graph → List ℕ → ℕ → Bool → List ℕ
turned_at g terminals k has =
    chosen_below (λ x. xor (holds terminals x) (has && is_end (edge_at g k).a (edge_at g k).b x)) g.nodes

-- the edges with edge k, or without it, as is said
abbrev pub with_edge : Graph → List ℕ → ℕ → Bool → List ℕ
with_edge g edges k has = chosen_below (λ e. cond (k == e) has (holds edges e)) (edge_count g)

-- a minimum T-join in the weighted graph where edge k has some other weight
abbrev pub IsLeastBeside : Graph → List ℕ → ℕ → List ℕ → Type 0
IsLeastBeside g terminals k edges = (w : ℤ) × IsLeastJoin (with_weight g k w) terminals edges

-- whether spins with this product break the bond
abbrev pub breaks_with : Bond → ℤ → Bool
breaks_with b p = cond (is_negative b) (int_eq p (pos 1)) (int_eq p (negsuc 0))

-- the graph and the terminals are the dual of a connected instance and its frustrated faces
pub record IsDualOf (p : Embedding) (g : Graph) (terminals : List ℕ) : Type 0 where
  pub planar : IsPlanar p
  pub connected : IsConnected p.instance
  pub web : g ≡ dual_web p.instance p.faces
  pub frustrated : terminals ≡ frustrated_faces p.instance p.faces
