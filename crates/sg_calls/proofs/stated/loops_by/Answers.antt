use Rattle.std.proofs.Common.{rules, get_or, pos, refl, w64, to_z-of_z, ◌≡◌, ◌∙◌, ◌+◌, ◌-◌, arith, ap, sym, length, take}
use Rattle.std.proofs.Math.Seq.{take-length}
use Rattle.sg_check.specs.declared.packing.Loop.{Loop}
use Rattle.sg_calls.specs.Crossing.{entries_of}
use Rattle.sg_calls.proofs.StartLemmas.{all_items, below_last, one_item}
use Rattle.sg_calls.proofs.StatedLemmas.{weights_more}
use Rattle.sg_calls.proofs.stated.loops_by.Goals as goal

pub entries_at-requires-clause-last : goal.entries_at-requires-clause-last
entries_at-requires-clause-last c =
    below_last c.args.starts.now (length c.args.weights.now) (length c.args.bonds.now) (length c.args.weights.now - (c.loop-k.k + 1)) (c.loop-k.k + 1)
    c.requires (omega arith)

pub loop-k-preserved : goal.loop-k-preserved
loop-k-preserved c =
    let k = c.loop-k.k in
    let starts = c.args.starts.now in
    let weights = c.args.weights.now in
    let bonds = c.args.bonds.now in
    let y = get_or weights k (pos 0) in
    let each : Loop = record { y = y; bonds = c.from_vec.result } in
    let own : c.from_vec.result ≡ entries_of starts bonds k = c.from_vec.ensures ∙ c.in_ok-own.ensures.items ∙ c.entries_at.ensures in
    rw c.in_ok-push.ensures.ok (rw (to_z-of_z {w = w64} {z = y} (search rules)) (record {
      front = one_item (λ (l : Loop). l.bonds) c.loop-k.loops starts bonds (length weights) k each c.requires c.loop-k-test.true
          c.loop-k.invariant.front own;
      weights = weights_more c.loop-k.loops each weights k c.loop-k-test.true c.loop-k.invariant.weights refl;
    }))

pub returns-clause-rows : goal.returns-clause-rows
returns-clause-rows c =
    let weights = c.args.weights.now in
    let end : c.loop-k.k ≡ length weights = omega (arith, c.loop-k-test.false, c.loop-k.auto.k-end) in
    record {
      weighed = sym (c.loop-k.invariant.weights ∙ ap (λ n. take n weights) end ∙ take-length weights);
      joined = all_items (λ (l : Loop). l.bonds) c.loop-k.loops c.args.starts.now c.args.bonds.now (length weights) c.requires
          (rw end at c.loop-k.invariant.front);
    }
