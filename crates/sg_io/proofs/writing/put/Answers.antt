use Rattle.std.proofs.Common.{◌-◌, List, ℕ, length, take, drop, sym, subst, ◌∙◌, arith, length-drop, length-take}
use Rattle.sg_io.specs.Devices.{Grows}
use Rattle.sg_io.proofs.DeviceLemmas.{Grows-more, take-joined}
use Rattle.sg_io.proofs.writing.put.Goals as goal

pub loop-at-preserved : goal.loop-at-preserved
loop-at-preserved g c =
    let written = g.K.Sink.written in
    let bytes = c.args.bytes.now in
    let at = c.loop-at.at in
    let more = take c.in-Took.count (take (length bytes - at) (drop at bytes)) in
    record {
      within = omega (arith, c.in-Took.ensures.count, length-take (length bytes - at) (drop at bytes), length-drop at bytes);
      grown = subst (λ (w : List ℕ). Grows w (written c.args.sink.now) (written c.write.new.self))
          (sym (take-joined at c.in-Took.count bytes c.loop-at.invariant.within))
          (Grows-more (take at bytes) more (written c.args.sink.now) (written c.loop-at.sink) (written c.write.new.self)
          c.loop-at.invariant.grown c.in-Took.ensures.bytes);
      counted = c.in-Took.ensures.counted ∙ c.loop-at.invariant.counted;
    }
