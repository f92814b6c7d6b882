-- What one call has made of a family.
use Rattle.std.specs.Prelude.{None, Some}
use Rattle.sg_arena.specs.Family.{Family}
use Rattle.sg_arena.specs.Changes.{blossom_of, with_slot}
use Rattle.sg_arena.specs.History.{bare, with_leaf, after_raise}
use Rattle.sg_arena.specs.declared.history.Event.{Event}
use Rattle.sg_arena.specs.declared.history.Event.TheVariants.{Opened, Leaf, Shrunk, Expanded, Raised}

-- the family after the event
abbrev pub after : Event → Family
after (Opened room) = bare room
after (Leaf before name) = with_leaf before.value name
after (Shrunk before name cycle) = with_slot before.value name (Some (blossom_of before.value cycle))
after (Expanded before name) = with_slot before.value name None
after (Raised before outer inner delta) = after_raise before.value outer inner delta
