use Rattle.sg_bonds.proofs.Common.{◌≡◌, ℕ, List, Bool, ap, length, ◌∙◌, with_items_is, chosen_below, is_marked}
use Rattle.std.proofs.lemmas.Result.{IfOk-weaker}
use Rattle.sg_bonds.specs.JoinsWith.{turned_at}
use Rattle.sg_bonds.proofs.JoinsFound.{turned_places}
use Rattle.sg_bonds.proofs.joins.terminals_turned.Goals as goal

pub returns : goal.returns
returns c =
    let new : List Bool = c.turn_terminals.new.marks in
    let long : length new ≡ c.args.web.now.nodes =
    c.turn_terminals.auto.marks ∙ c.deref_mut.ensures.len ∙ c.in_ok-marks.ensures.len ∙ c.nodes.ensures.value in
    let read : c.deref.result.now ≡ new =
    c.deref.ensures.value ∙ with_items_is c.in_ok-marks.marks new (c.turn_terminals.auto.marks ∙ c.deref_mut.ensures.len) in
    let places_are : chosen_below (is_marked c.deref.result.now) (length c.deref.result.now)
    ≡ turned_at c.args.web.now c.args.terminals.now c.args.edge c.args.has =
    ap (λ (m : List Bool). chosen_below (is_marked m) (length m)) read
    ∙ turned_places c.args.web.now c.as_slice.result.now c.args.edge c.args.has new long c.turn_terminals.ensures.turned
    ∙ ap (λ (ts : List ℕ). turned_at c.args.web.now ts c.args.edge c.args.has) c.as_slice.ensures in
    IfOk-weaker c.places.result (λ (list : List ℕ). list ≡ chosen_below (is_marked c.deref.result.now) (length c.deref.result.now))
    (λ (list : List ℕ). list ≡ turned_at c.args.web.now c.args.terminals.now c.args.edge c.args.has) (λ list e. e ∙ places_are) c.places.ensures
