-- Marks that the ends of edges turn.
use Rattle.std.proofs.Common.{◌≡◌, ◌∙◌, ap, eqb, get_or, take, ℕ, ◌+◌, ◌<◌, Bool, false, List, length}
use Rattle.sg_base.specs.Ends.{is_end}
use Rattle.sg_base.specs.Parity.{parity_by, xor}
use Rattle.sg_base.proofs.OneMore.{turned_more}
use Rattle.sg_base.proofs.ParityLaws.{xor-false}
use Rattle.sg_graph.specs.declared.web.Edge.{Edge}
use Rattle.sg_graph.specs.Web.{Graph, edge_at}

-- one edge more of the list, whose ends are turned
pub ends_more : (g : Graph) (list : List ℕ) (j : ℕ) (edge : Edge) (old now new : Bool) (x : ℕ) → j < length list →
    edge ≡ edge_at g (get_or list j 0) →
    now ≡ xor old (parity_by (λ e. is_end (edge_at g e).a (edge_at g e).b x) (take j list)) →
    new ≡ xor now (xor (eqb edge.a x) (xor (eqb edge.b x) false)) →
    new ≡ xor old (parity_by (λ e. is_end (edge_at g e).a (edge_at g e).b x) (take (j + 1) list))
ends_more g list j edge old now new x low same was turned =
    turned_more (λ e. is_end (edge_at g e).a (edge_at g e).b x) list j 0 old now new low was
    (turned ∙ ap (xor now) (ap (xor (eqb edge.a x)) (xor-false (eqb edge.b x)) ∙ ap (λ (e : Edge). is_end e.a e.b x) same))
