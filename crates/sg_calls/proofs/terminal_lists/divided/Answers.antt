use Rattle.std.proofs.Common.{◌≡◌, ◌∙◌, ◌<◌, ◌+◌, ◌-◌, ℕ, List, inl, inr, arith, ap, length}
use Rattle.std.proofs.lemmas.Bool.{cases_eq}
use Rattle.std.proofs.lemmas.Result.{err_from_is_err_and}
use Rattle.sg_graph_text.specs.Graph.{terminals_of}
use Rattle.sg_calls.specs.Crossing.{entries_of}
use Rattle.sg_calls.specs.Networks.{list_count, terminal_lists}
use Rattle.sg_calls.proofs.RowLemmas.{made-more}
use Rattle.sg_calls.proofs.StartLemmas.{below_last}
use Rattle.sg_calls.proofs.JoinLemmas.{list-fails, list-is, lists-count, lists-pass}
use Rattle.sg_calls.proofs.terminal_lists.divided.Goals as goal

pub entries_at-requires-clause-last : goal.entries_at-requires-clause-last
entries_at-requires-clause-last c =
    let count = list_count c.args.starts.now in
    below_last c.args.starts.now count (length c.args.entries.now) (count - (c.loop-k.k + 1)) (c.loop-k.k + 1) c.requires.division (omega arith)

pub returns-in_err-terminals-clause-refuses : goal.returns-in_err-terminals-clause-refuses
returns-in_err-terminals-clause-refuses c =
    let p = err_from_is_err_and c.from_residual.result c.from_residual.ensures.1 in
    let inside : c.loop-k.k < list_count c.args.starts.now = omega (arith, c.loop-k-test.true, c.loop-k.auto.k-end) in
    rw (p.1, p.2) (
    list-fails c.args.nodes c.args.starts.now c.args.entries.now c.loop-k.k c.in_err-terminals.field-0.0 inside c.loop-k.invariant.passes
    (rw c.entries_at.ensures at c.in_err-terminals.ensures.fault))

pub loop-k-preserved : goal.loop-k-preserved
loop-k-preserved c =
    let k = c.loop-k.k in
    let made : ℕ → List ℕ = λ i. terminals_of c.args.nodes (entries_of c.args.starts.now c.args.entries.now i) in
    let one : c.as_slice.result.now ≡ made k = c.as_slice.ensures ∙ c.in_ok-terminals.ensures.value ∙ ap (terminals_of c.args.nodes) c.entries_at.ensures in
    record {
      lists = made-more made c.loop-k.lists _ c.as_slice.result.now k c.loop-k.invariant.lists c.in_ok-push.ensures.ok one;
      passes = λ i low. elim (cases_eq i k) [
        | inl same ↦ rw same (rw c.entries_at.ensures at c.in_ok-terminals.ensures.passes)
        | inr other ↦ c.loop-k.invariant.passes i (omega (arith, low, other))
      ];
      even = λ i low. elim (cases_eq i k) [
        | inl same ↦ rw same (rw (c.in_ok-terminals.ensures.value, c.entries_at.ensures) at c.in_ok-terminals.ensures.even)
        | inr other ↦ c.loop-k.invariant.even i (omega (arith, low, other))
      ];
    }

pub returns-clause-value : goal.returns-clause-value
returns-clause-value c =
    let end : c.loop-k.k ≡ list_count c.args.starts.now = omega (arith, c.loop-k-test.false, c.loop-k.auto.k-end) in
    rw end at c.loop-k.invariant.lists

pub returns-clause-even : goal.returns-clause-even
returns-clause-even c =
    let n = c.args.nodes in
    let starts = c.args.starts.now in
    let entries = c.args.entries.now in
    let end : c.loop-k.k ≡ list_count starts = omega (arith, c.loop-k-test.false, c.loop-k.auto.k-end) in
    let value : c.loop-k.lists ≡ terminal_lists n starts entries = rw end at c.loop-k.invariant.lists in
    let same = ap length value ∙ lists-count n starts entries in
    λ i below.
    let inside : i < list_count starts = omega (arith, below, same) in
    rw (value, list-is n starts entries i inside) (c.loop-k.invariant.even i (omega (arith, inside, end)))

pub returns-clause-passes : goal.returns-clause-passes
returns-clause-passes c =
    let end : c.loop-k.k ≡ list_count c.args.starts.now = omega (arith, c.loop-k-test.false, c.loop-k.auto.k-end) in
    lists-pass c.args.nodes c.args.starts.now c.args.entries.now (λ i inside. c.loop-k.invariant.passes i (omega (arith, inside, end)))
