use Rattle.std.proofs.Common.{rules, arith, ◌≡◌, ◌<◌, ◌∙◌, ◌+◌, ◌++◌, [], ap, List, ℕ, flat_map, length, take, get_or}
use Rattle.std.proofs.Math.Seq.{take-length}
use Rattle.std.proofs.lemmas.Option.{get_or_from_slice_get}
use Rattle.sg_calls.proofs.RowLemmas.{entries_more, starts_more}
use Rattle.sg_calls.proofs.tables.joined.Goals as goal

pub loop-spin-preserved : goal.loop-spin-preserved
loop-spin-preserved c =
    let lists = c.args.rotation.now in
    let spin = c.loop-spin.spin in
    let joined = c.loop-spin.darts.items ++ c.at.result.now in
    let so_far : c.len.result ≡ length joined = search rules in
    let inside : spin < length lists = omega (arith, c.loop-spin-test.true, c.len-spin-end.ensures) in
    let here : get_or lists spin [] ≡ c.at.result.now = get_or_from_slice_get lists spin c.at.result.now [] c.at.ensures in
    let more : joined ≡ flat_map (λ list. list) (take (spin + 1) lists) =
    rw here at (entries_more (λ (list : List ℕ). list) lists c.loop-spin.darts.items spin [] inside c.loop-spin.invariant.darts) in
    record {
      starts = rw c.in_ok-push-2.ensures.items (rw so_far (starts_more (λ (list : List ℕ). list) lists c.loop-spin.starts.items joined (spin + 1)
          c.loop-spin.invariant.starts more));
      darts = rw c.in_ok-extend_from_slice.ensures.items more;
    }

pub returns : goal.returns
returns c =
    let lists = c.args.rotation.now in
    let end : c.loop-spin.spin ≡ length lists = omega (arith, c.loop-spin-test.false, c.loop-spin.auto.spin-end, c.len-spin-end.ensures) in
    record {
      begun = rw end at c.loop-spin.invariant.starts;
      bound = (rw end at c.loop-spin.invariant.darts) ∙ ap (λ (l : List (List ℕ)). flat_map (λ list. list) l) (take-length lists);
    }
