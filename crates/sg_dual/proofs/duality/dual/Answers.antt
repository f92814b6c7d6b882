use Rattle.std.proofs.Common.{ap, length, ◌∙◌, ◌%◌, sym, subst}
use Rattle.sg_graph.specs.Web.{Graph, IsWeb}
use Rattle.sg_graph.specs.Walk.{IsConnectedWeb}
use Rattle.sg_graph.specs.Join.{AreTerminals}
use Rattle.sg_dual.specs.Dual.{dual_web}
use Rattle.sg_dual.proofs.DualWebs.{dual_is_web, web_is}
use Rattle.sg_dual.proofs.Frustration.{even_frustrated, frustrated_terminals}
use Rattle.sg_dual.proofs.FacesJoined.{dual_connected}
use Rattle.sg_dual.proofs.duality.dual.Goals as goal

pub new-requires : goal.new-requires
new-requires c =
    subst IsWeb (sym (web_is c.args.inst.now c.args.faces.now c.count.result c.in_ok-edges.edges c.count.ensures c.in_ok-edges.ensures.edges))
    (dual_is_web c.args.inst.now c.args.faces.now c.requires.labels c.dual_edges.ensures.instance c.requires.few c.requires.light)

pub returns-clause-web : goal.returns-clause-web
returns-clause-web c = c.new.ensures ∙ web_is c.args.inst.now c.args.faces.now c.count.result c.in_ok-edges.edges c.count.ensures c.in_ok-edges.ensures.edges

pub returns-clause-terminals : goal.returns-clause-terminals
returns-clause-terminals c =
    subst (λ (g : Graph). AreTerminals g c.in_ok-terminals.terminals) (sym (returns-clause-web c))
    (subst (AreTerminals (dual_web c.args.inst.now c.args.faces.now)) (sym c.in_ok-terminals.ensures)
    (frustrated_terminals c.args.inst.now c.args.faces.now))

pub returns-clause-even : goal.returns-clause-even
returns-clause-even c = ap (λ ts. length ts % 2) c.in_ok-terminals.ensures ∙ even_frustrated c.args.inst.now c.args.faces.now c.requires.labels

pub returns-clause-connected : goal.returns-clause-connected
returns-clause-connected c = λ whole.
    subst IsConnectedWeb (sym (returns-clause-web c)) (dual_connected c.args.inst.now c.args.faces.now c.dual_edges.ensures.instance c.requires.labels whole)
