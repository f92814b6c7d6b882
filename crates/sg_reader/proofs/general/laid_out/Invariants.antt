use Rattle.std.proofs.Common.{◌≡◌, map, take}
use Rattle.sg_reader.specs.Body.{given_darts}
use Rattle.sg_reader.proofs.general.laid_out.Given as goal

-- the lists so far
abbrev pub invariant-loop-list : goal.invariant-loop-list
invariant-loop-list l = l.rotation ≡ map given_darts (take l.list-index l.lists)
