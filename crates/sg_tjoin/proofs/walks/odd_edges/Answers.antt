use Rattle.std.proofs.Common.{ap, arith, get_or, length, rules, subst, sym, ◌+◌, ◌<◌, ◌≡◌, ◌∙◌, ℕ}
use Rattle.std.proofs.lemmas.Grind.{elements}
use Rattle.std.proofs.lemmas.List.{get_or_read, with_items_is}
use Rattle.std.proofs.lemmas.Result.{IfOk-weaker}
use Rattle.sg_base.specs.Sets.{chosen_below, is_marked}
use Rattle.sg_graph.specs.Join.{IsJoin}
use Rattle.sg_graph.specs.Table.{length_to}
use Rattle.sg_graph.specs.Web.{edge_count, weight_of}
use Rattle.sg_moat.specs.Input.{blank_table, table_at}
use Rattle.sg_tjoin.specs.Doubled.{apart}
use Rattle.sg_tjoin.specs.Turns.{AreTurned, TurnsWalk}
use Rattle.sg_tjoin.proofs.Turning.{AreTurned-more, AreTurned-skip, chosen_bare, IsJoin-turned, turned_weight}
use Rattle.sg_tjoin.proofs.walks.odd_edges.Goals as goal
use Rattle.sg_tjoin.proofs.walks.odd_edges.Goals.{After-places, then-i-mate+in_ok-turn_walk, else-i-mate}

pub loop-i-preserved : goal.loop-i-preserved
loop-i-preserved c =
    let g = c.args.web.now in
    let terminals = c.args.terminals.now in
    let tables = c.args.tables.now in
    let mates = c.args.mates.now in
    let i = c.loop-i.i in
    elim c.if-i-mate.branch [
      | then-i-mate+in_ok-turn_walk w ↦
          let low : i < length terminals = omega (arith, c.loop-i-test.true, c.requires.pairing.count) in
          let is : w.index-tables-i.result ≡ table_at tables i = get_or_read tables i w.index-tables-i.result
          (omega (arith, low, c.requires.tables.count)) w.index-tables-i.is blank_table in
          let to : ℕ = get_or terminals (get_or mates i 0) 0 in
          let turned : TurnsWalk g (get_or terminals i 0) to (apart terminals tables i (get_or mates i 0)) c.loop-i.odd.items w.turn_walk.new.odd =
          subst (λ s. TurnsWalk g s to (apart terminals tables i (get_or mates i 0)) c.loop-i.odd.items w.turn_walk.new.odd) (c.requires.tables.sources i low)
          (subst (λ t. TurnsWalk g t.source to (length_to t to) c.loop-i.odd.items w.turn_walk.new.odd) is
          (subst (λ xs. TurnsWalk g w.index-tables-i.result.source to
          (length_to w.index-tables-i.result to) xs w.turn_walk.new.odd) w.deref_mut.ensures.value w.in_ok-turn_walk.ensures)) in
          let items : c.if-i-mate.odd.items ≡ w.turn_walk.new.odd = ap (λ v. v.items) w.odd-is
          ∙ with_items_is c.loop-i.odd w.turn_walk.new.odd (search rules) in
          subst (λ xs. AreTurned g terminals tables mates (i + 1) xs) (sym items)
          (AreTurned-more g terminals tables mates i c.loop-i.odd.items c.loop-i.invariant w.turn_walk.new.odd w.if-i-mate.true turned)
      | else-i-mate w ↦ rw w.odd-is (AreTurned-skip g terminals tables mates i c.loop-i.odd.items c.loop-i.invariant w.if-i-mate.false)
    ]

-- all pairs were turned
all_turned : (c : After-places) →
    AreTurned c.args.web.now c.args.terminals.now c.args.tables.now c.args.mates.now (length c.args.terminals.now) c.loop-i.odd.items
all_turned c =
    let all : c.loop-i.i ≡ length c.args.terminals.now = omega (arith, c.requires.pairing.count) in
    rw all at c.loop-i.invariant

-- the edges that are marked
chosen_is : (c : After-places) →
    chosen_below (is_marked c.deref.result.now) (length c.deref.result.now) ≡ chosen_below (is_marked c.loop-i.odd.items) (edge_count c.args.web.now)
chosen_is c =
    ap (λ ms. chosen_below (is_marked ms) (length ms)) c.deref.ensures.value ∙ ap (chosen_below (is_marked c.loop-i.odd.items)) (all_turned c).count

pub returns-clause-join : goal.returns-clause-join
returns-clause-join c =
    let now = (goal.at.returns-clause-join c).After-places in
    let join = IsJoin-turned c.args.web.now c.args.terminals.now c.args.tables.now c.args.mates.now c.loop-i.odd.items c.requires.terminals
    c.requires.pairing (all_turned now) in
    IfOk-weaker c.places.result _ _ (λ list same. subst (IsJoin c.args.web.now c.args.terminals.now) (sym (same ∙ chosen_is now)) join) c.places.ensures

pub returns-clause-light : goal.returns-clause-light
returns-clause-light c =
    let now = (goal.at.returns-clause-light c).After-places in
    let light = turned_weight c.args.web.now c.args.terminals.now c.args.tables.now c.args.mates.now c.loop-i.odd.items c.requires.terminals
    c.requires.pairing (all_turned now) in
    IfOk-weaker c.places.result _ _ (λ list same. omega (arith, light, ap (weight_of c.args.web.now) (same ∙ chosen_is now))) c.places.ensures

pub returns-clause-bare : goal.returns-clause-bare
returns-clause-bare c =
    let now = (goal.at.returns-clause-bare c).After-places in
    IfOk-weaker c.places.result _ _ (λ list same none. same ∙ chosen_is now
    ∙ chosen_bare c.args.web.now c.args.terminals.now c.args.tables.now c.args.mates.now c.loop-i.odd.items c.requires.terminals c.requires.pairing
    (all_turned now) none) c.places.ensures

pub turn_walk-requires-clause-reached : goal.turn_walk-requires-clause-reached
turn_walk-requires-clause-reached c = grind (arith, elements)
