-- `place_of`: the node stands in the ring.
use Rattle.std.proofs.Common.{◌<◌, length, sym, ◌∙◌, arith}
use Rattle.std.proofs.Math.ListN.{length-map}
use Rattle.std.proofs.lemmas.List.{get_or-map}
use Rattle.sg_arena.specs.Family.{blank_link}
use Rattle.sg_match.proofs.rings.place_of.Goals as goal

pub unreachable-requires : goal.unreachable-requires
unreachable-requires c =
    let low : c.requires.0 < length c.args.ring.now = omega (arith, c.requires.1, length-map c.args.ring.now (λ l. l.node)) in
    c.loop-i.invariant c.requires.0 (omega (arith, low, c.loop-i-test.false))
    (sym (get_or-map (λ l. l.node) c.args.ring.now c.requires.0 blank_link c.args.node low) ∙ c.requires.2)
