use Rattle.std.proofs.Common.{rules, arith, ◌≡◌, ◌∙◌, ◌+◌, ◌++◌, ap, List, flat_map, length, take, get_or}
use Rattle.std.proofs.Math.Seq.{take-length}
use Rattle.sg_check.specs.declared.packing.Loop.{Loop}
use Rattle.sg_calls.proofs.RowLemmas.{entries_more, starts_more}
use Rattle.sg_calls.proofs.rows.rows_of.Goals as goal

pub loop-each-preserved : goal.loop-each-preserved
loop-each-preserved c =
    let loops = c.args.loops.now in
    let k = c.loop-each.each-index in
    let joined = c.loop-each.bonds.items ++ c.as_slice.result.now in
    let so_far : c.len.result ≡ length joined = search rules in
    let its_bonds : c.as_slice.result.now ≡ (get_or loops k c.each-item.result).bonds = search rules in
    let more : joined ≡ flat_map (λ (each : Loop). each.bonds) (take (k + 1) loops) = rw its_bonds (entries_more (λ (each : Loop). each.bonds) loops
    c.loop-each.bonds.items k c.each-item.result c.loop-each-test.true c.loop-each.invariant.bonds) in
    record {
      starts = rw c.in_ok-push-2.ensures.items (rw so_far (starts_more (λ (each : Loop). each.bonds) loops c.loop-each.starts.items joined (k + 1)
          c.loop-each.invariant.starts more));
      bonds = rw c.in_ok-extend_from_slice.ensures.items more;
    }

pub returns : goal.returns
returns c =
    let loops = c.args.loops.now in
    let end : c.loop-each.each-index ≡ length loops = omega (arith, c.loop-each-test.false, c.loop-each.auto.each-index-end) in
    record {
      weighed = c.in_ok-weights.ensures;
      joined = record {
        begun = rw end at c.loop-each.invariant.starts;
        bound = (rw end at c.loop-each.invariant.bonds) ∙ ap (λ (l : List Loop). flat_map (λ each. each.bonds) l) (take-length loops);
      };
    }
