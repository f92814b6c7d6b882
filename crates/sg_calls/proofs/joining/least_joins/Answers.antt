use Rattle.std.proofs.Common.{◌≡◌, ◌∙◌, ◌+◌, ◌<◌, ◌≤◌, [], ◌∷◌, ◌++◌, arith, rules, ap, length, subst, sym, w64, to_z-of_z, length-append}
use Rattle.std.proofs.lemmas.Result.{err_from_is_err_and}
use Rattle.sg_base.specs.Limits.{forced_limit, table_limit}
use Rattle.sg_graph.specs.Incidence.{list_at}
use Rattle.sg_graph.specs.Join.{AreTerminals, IsLeastJoin}
use Rattle.sg_graph.specs.Walk.{IsConnectedWeb}
use Rattle.sg_graph.specs.Web.{Graph, total_weight}
use Rattle.sg_tjoin.specs.Allowance.{IfTooLarge, table_bytes}
use Rattle.sg_tjoin.proofs.TableBounds.{IfTooLarge-weaker}
use Rattle.sg_calls.specs.Joins.{SomeTablesExceed}
use Rattle.sg_calls.proofs.JoinLemmas.{joins-more, weights-more}
use Rattle.sg_calls.proofs.joining.least_joins.Goals as goal

pub least_weight_within-requires-clause-connected : goal.least_weight_within-requires-clause-connected
least_weight_within-requires-clause-connected c = subst (λ (g : Graph). IsConnectedWeb g) (sym c.loop-i.invariant.same) c.requires.connected

pub least_weight_within-requires-clause-light : goal.least_weight_within-requires-clause-light
least_weight_within-requires-clause-light c = subst (λ (g : Graph). total_weight g ≤ forced_limit) (sym c.loop-i.invariant.same) c.requires.light

pub least_weight_within-requires-clause-terminals : goal.least_weight_within-requires-clause-terminals
least_weight_within-requires-clause-terminals c =
    let inside : c.loop-i.i < length c.args.lists.now = omega (arith, c.loop-i-test.true, c.len-i-end.ensures) in
    subst (λ (g : Graph). AreTerminals g c.in_ok-terminals.terminals) (sym c.loop-i.invariant.same)
    (rw c.in_ok-terminals.ensures (c.requires.lists.nodes c.loop-i.i inside))

pub least_weight_within-requires-clause-even : goal.least_weight_within-requires-clause-even
least_weight_within-requires-clause-even c =
    let inside : c.loop-i.i < length c.args.lists.now = omega (arith, c.loop-i-test.true, c.len-i-end.ensures) in
    rw c.in_ok-terminals.ensures (c.requires.lists.even c.loop-i.i inside)

pub returns-in_err-join-clause-too_large : goal.returns-in_err-join-clause-too_large
returns-in_err-join-clause-too_large c =
    let p = err_from_is_err_and c.from_residual-in_err-join.result c.from_residual-in_err-join.ensures.1 in
    let lists = c.args.lists.now in
    let nodes = c.args.web.now.nodes in
    let inside : c.loop-i.i < length lists = omega (arith, c.loop-i-test.true, c.len-i-end.ensures) in
    let some : (table_limit < table_bytes (length c.in_ok-terminals.terminals) nodes) → SomeTablesExceed table_limit lists nodes =
    λ more. record { list = c.loop-i.i; within = inside; exceed = rw c.in_ok-terminals.ensures at more } in
    let large = subst (λ (g : Graph). IfTooLarge (table_limit < table_bytes (length c.in_ok-terminals.terminals) g.nodes) c.in_err-join.field-0.0)
    c.loop-i.invariant.same c.in_err-join.ensures.too_large in
    rw (p.1, p.2) (IfTooLarge-weaker some c.in_err-join.field-0.0 large)

pub loop-i-preserved : goal.loop-i-preserved
loop-i-preserved c =
    let i = c.loop-i.i in
    let g = c.args.web.now in
    let lists = c.args.lists.now in
    let old = c.loop-i.found.value.joins in
    let edges = c.in_ok-join.join.edges in
    let own : IsLeastJoin g (list_at lists i) edges = rw c.in_ok-terminals.ensures at (
    subst (λ (h : Graph). IsLeastJoin h c.in_ok-terminals.terminals edges) c.loop-i.invariant.same c.in_ok-join.ensures.least) in
    let count : length old ≡ i = c.loop-i.invariant.count in
    let long : length (old ++ edges ∷ []) ≡ i + 1 = length-append old (edges ∷ []) ∙ ap (λ m. m + 1) count in
    let next = joins-more g lists old i count edges c.loop-i.invariant.each own in
    let weigh = weights-more g lists old i count edges c.loop-i.found.value.weights c.loop-i.invariant.weights in
    record {
      same = c.least_weight_within.ensures.same ∙ c.loop-i.invariant.same;
      count = rw (c.in_ok-push.ensures.ok, c.as_slice.ensures) long;
      each = rw (c.in_ok-push.ensures.ok, c.as_slice.ensures) next;
      weights = rw (
        c.in_ok-push-2.ensures.ok,
        to_z-of_z {w = w64} {z = c.in_ok-join.join.weight} (search rules),
        c.in_ok-push.ensures.ok,
        c.as_slice.ensures,
        c.in_ok-join.ensures.weight,
        c.loop-i.invariant.same,
      ) weigh;
    }

pub returns-clause-least : goal.returns-clause-least
returns-clause-least c =
    let end : c.loop-i.i ≡ length c.args.lists.now = omega (arith, c.loop-i-test.false, c.loop-i.auto.i-end, c.len-i-end.ensures) in
    rw c.into_value.ensures (record {
      count = c.loop-i.invariant.count ∙ end;
      each = λ j low. c.loop-i.invariant.each j (omega (arith, low, end));
    })
