-- A walk meets each node an even number of times but for its two ends.
use Rattle.std.proofs.lemmas.Grind.{common_steps}
use Rattle.std.proofs.Common.{ap₂, ◌≡◌, ℕ, ◌<◌, Bool, eqb, List, [], ◌∷◌, sym, ◌∙◌, ap, arith, All}
use Rattle.std.proofs.lemmas.List.Elements.{All-cons, All-nil}
use Rattle.sg_base.specs.Ends.{is_end}
use Rattle.sg_base.specs.Parity.{xor, parity_by}
use Rattle.sg_base.proofs.ParityLaws.{xor_comm, xor_self}
use Rattle.sg_graph.specs.Web.{Graph, edge_at, edge_count}
use Rattle.sg_graph.specs.Walk.{IsWebWalk, Leads}

join_ends : (s z t : Bool) → xor (xor s z) (xor z t) ≡ xor s t
join_ends s z t = grind arith

module _ (g : Graph) where
  end_of : (e s z x : ℕ) → Leads g e s z → is_end (edge_at g e).a (edge_at g e).b x ≡ xor (eqb s x) (eqb z x)
  end_of e s z x l = grind (arith, common_steps, xor_comm)

  -- a walk ends oddly at its two ends alone, and nowhere where they are one
  pub walk_parity : (es : List ℕ) (s t x : ℕ) → IsWebWalk g s es t →
      parity_by (λ e. is_end (edge_at g e).a (edge_at g e).b x) es ≡ xor (eqb s x) (eqb t x)
  walk_parity [] s t x w = sym (ap (λ n. xor (eqb s x) (eqb n x)) (sym w) ∙ xor_self (eqb s x))
  walk_parity (e ∷ es) s t x w = ap₂ xor (end_of e s w.0 x w.1) (walk_parity es w.0 t x w.2) ∙ join_ends (eqb s x) (eqb w.0 x) (eqb t x)

  -- the edges of a walk are edges of the web
  pub walk_below : (es : List ℕ) (s t : ℕ) → IsWebWalk g s es t → All (λ e. e < edge_count g) es
  walk_below [] s t w = All-nil (λ e. e < edge_count g)
  walk_below (e ∷ es) s t w = All-cons (λ e. e < edge_count g) e es w.1.below (walk_below es w.0 t w.2)
