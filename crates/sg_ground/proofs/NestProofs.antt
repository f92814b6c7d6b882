-- A nest that proves a join proves the spins that break just its edges.
use Rattle.std.proofs.Common.{◌≡◌, ℕ, ◌*◌, ℤ, Option, Some, None, List, IfSome, ap, sym, ◌∙◌}
use Rattle.sg_model.specs.Energy.{IsGroundState}
use Rattle.sg_model.specs.Spins.{IsAssignment}
use Rattle.sg_planar.specs.BrokenLists.{BreaksExactly}
use Rattle.sg_planar.specs.Fit.{Embedding, IsPlanar}
use Rattle.sg_graph.specs.Join.{IsJoin, IsLeastJoin}
use Rattle.sg_graph.specs.Web.{Graph}
use Rattle.sg_dual.specs.Dual.{dual_web, frustrated_faces}
use Rattle.sg_nest.specs.Nest.{NestProves}
use Rattle.sg_nest.specs.declared.nest.Nest.{Nest}
use Rattle.sg_ground.specs.Solution.{IsState}
use Rattle.sg_ground.specs.Nested.{IsNestedState, broken_bonds}
use Rattle.sg_ground.proofs.BrokenJoins.{BreaksExactly-broken, IsJoin-broken, ground_by_join}
use Rattle.sg_ground.proofs.JoinFits.{broken_weight_is}

module _ (p : Embedding) (planar : IsPlanar p) (s : List ℤ) (assigned : IsAssignment p.instance s) where
  own_breaks : BreaksExactly p.instance s (broken_bonds p.instance s)
  own_breaks = BreaksExactly-broken p.instance p.faces planar.instance planar.faces s assigned

  -- the bonds that they break weigh as much as any join of which they break just the edges
  proves_broken : (edges : List ℕ) (nest : Nest) → BreaksExactly p.instance s edges
      → NestProves (dual_web p.instance p.faces) (frustrated_faces p.instance p.faces) edges nest
      → NestProves (dual_web p.instance p.faces) (frustrated_faces p.instance p.faces) (broken_bonds p.instance s) nest
  proves_broken edges nest breaks proves =
      let join : IsJoin (dual_web p.instance p.faces) (frustrated_faces p.instance p.faces) (broken_bonds p.instance s) =
      IsJoin-broken p.instance p.faces planar.instance planar.faces s assigned in
      record {
        join = join;
        fits = proves.fits;
        tight = proves.tight
            ∙ ap (λ w. 4 * w) (sym (broken_weight_is p.instance p.faces edges proves.join s breaks)
            ∙ broken_weight_is p.instance p.faces (broken_bonds p.instance s) join s own_breaks);
      }

  -- a state that breaks just the edges of a join, and perhaps a nest that proves these
  pub nested_by_state : (e : ℤ) (edges : List ℕ) (found : Option Nest) → BreaksExactly p.instance s edges → IsState p.instance s e
      → IfSome found (NestProves (dual_web p.instance p.faces) (frustrated_faces p.instance p.faces) edges) → IsNestedState p s e found
  nested_by_state e edges None breaks state proves = record { state = state; proves = tt }
  nested_by_state e edges (Some nest) breaks state proves = record {
    state = state;
    proves = record { assignment = assigned; stated = state.stated; nested = proves_broken edges nest breaks proves };
  }

  -- where a web, terminals and edges are the dual, the frustrated faces and the broken bonds, and the edges a least join,
  -- the spins are a ground state
  pub ground_by_broken : (web : Graph) (terminals broken : List ℕ) → web ≡ dual_web p.instance p.faces
      → terminals ≡ frustrated_faces p.instance p.faces → broken ≡ broken_bonds p.instance s → IsLeastJoin web terminals broken
      → IsGroundState p.instance s
  ground_by_broken web terminals broken same_web same_terminals same least =
      ground_by_join p.instance p.faces planar.instance planar.faces s (broken_bonds p.instance s) assigned own_breaks
      (rw (same_web, same_terminals, same) at least)
