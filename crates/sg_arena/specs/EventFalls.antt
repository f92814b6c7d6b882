-- Each event is of a family of fewer events.
use Rattle.std.specs.Prelude.{ℕ, ◌*◌, ◌≤◌, max}
use Rattle.std.proofs.Common.{arith, length-append}
use Rattle.sg_arena.specs.Event.{after}
use Rattle.sg_arena.specs.History.{events}
use Rattle.sg_arena.specs.declared.history.Event.{Event}
use Rattle.sg_arena.specs.declared.history.Event.TheVariants.{Opened, Leaf, Shrunk, Expanded, Raised}
use Rattle.sg_arena.specs.declared.history.Change.TheDeep.{deep-Event}

-- what an event is of has fewer events before it
pub falls : (e : Event) → max (deep-Event e) 0 ≤ 2 * events (after e)
falls (Opened room) = omega arith
falls (Leaf before name) = omega (arith, length-append {A = ℕ})
falls (Shrunk before name cycle) = omega arith
falls (Expanded before name) = omega arith
falls (Raised before outer inner delta) = omega arith
