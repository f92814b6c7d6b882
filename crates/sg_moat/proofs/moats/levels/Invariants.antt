-- The cuts of the sets so far.
use Rattle.sg_moat.specs.Gathers.{Gathers}
use Rattle.sg_moat.proofs.moats.levels.Given as goal

abbrev pub invariant-loop-name : goal.invariant-loop-name
invariant-loop-name l = Gathers l.family l.web l.tables l.name l.cuts
