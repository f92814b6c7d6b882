use Rattle.std.proofs.Common.{rules, w64, to_z-of_z}
use Rattle.sg_laws.proofs.Rounds.{round_read}
use Rattle.sg_laws.proofs.table.TableDisorder.draw.Goals as goal

pub returns-clause-stream : goal.returns-clause-stream
returns-clause-stream c =
    let behind = rw c.deref.ensures.value at c.place_after-self-inside.ensures.same in
    let value = to_z-of_z {w = w64} {z = c.index-draw.result.now} (search rules) in
    rw (← c.self.view_is) (round_read c.self.inside.draws.items c.self.inside.place c.place_after-self-inside.result c.index-draw.result.now _
    c.self.invariant.within c.index-draw.ensures value behind)
