use Rattle.std.proofs.Common.{◌≡◌, ◌+◌, ◌-◌, arith, length}
use Rattle.sg_calls.specs.Crossing.{entries_of}
use Rattle.sg_calls.proofs.RowLemmas.{made-more}
use Rattle.sg_calls.proofs.StartLemmas.{below_last}
use Rattle.sg_calls.proofs.graphs.rotation_of.Goals as goal

pub entries_at-requires-clause-last : goal.entries_at-requires-clause-last
entries_at-requires-clause-last c =
    below_last c.args.starts.now c.args.n (length c.args.darts.now) (c.args.n - (c.loop-spin.spin + 1)) (c.loop-spin.spin + 1) c.requires (omega arith)

pub loop-spin-preserved : goal.loop-spin-preserved
loop-spin-preserved c =
    made-more (entries_of c.args.starts.now c.args.darts.now) c.loop-spin.rotation _ c.entries_at.result.now c.loop-spin.spin c.loop-spin.invariant
    c.in_ok-push.ensures.ok c.entries_at.ensures

pub returns : goal.returns
returns c =
    let end : c.loop-spin.spin ≡ c.args.n = omega (arith, c.loop-spin-test.false, c.loop-spin.auto.spin-end) in
    rw end at c.loop-spin.invariant
