-- A minimum T-join of the frustrated faces, with its weight, and with the odd cuts that prove it.
use Rattle.std.specs.Prelude.{◌≡◌, ℕ, ◌*◌, ◌≤◌, ℤ, pos, List, sum_by, unsigned_abs}
use Rattle.sg_base.specs.Limits.{forced_limit}
use Rattle.sg_graph.specs.declared.cut.Cut.{Cut}
use Rattle.sg_graph.specs.Web.{weight_of}
use Rattle.sg_graph.specs.Join.{IsLeastJoin}
use Rattle.sg_graph.specs.OddCut.{CutsPack, odd_cut_weight}
use Rattle.sg_planar.specs.Fit.{Embedding}
use Rattle.sg_dual.specs.Dual.{dual_web, frustrated_faces}

-- a minimum T-join of the frustrated faces in the dual, and its weight, which is no larger than the limit of weights
pub record IsWeighedJoin (p : Embedding) (edges : List ℕ) (w : ℤ) : Type 0 where
  pub least : IsLeastJoin (dual_web p.instance p.faces) (frustrated_faces p.instance p.faces) edges
  pub weight : w ≡ pos (weight_of (dual_web p.instance p.faces) edges)
  pub light : unsigned_abs w ≤ forced_limit

-- such a T-join, and a packing of odd cuts that weighs twice as much
pub record IsTightJoin (p : Embedding) (edges : List ℕ) (w : ℤ) (cuts : List Cut) : Type 0 where
  pub join : IsWeighedJoin p edges w
  pub packs : CutsPack (dual_web p.instance p.faces) (frustrated_faces p.instance p.faces) cuts
  pub tight : sum_by odd_cut_weight cuts ≡ 2 * weight_of (dual_web p.instance p.faces) edges
