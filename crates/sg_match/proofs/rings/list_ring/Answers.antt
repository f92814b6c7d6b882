-- `list_ring`: the way round ends where the child comes again.
use Rattle.std.proofs.Common.{List, [], ap, arith, length, length-append, subst, sym, ◌++◌, ◌<◌, ◌∙◌, ◌∷◌, ◌≡◌, ◌≤◌}
use Rattle.sg_arena.specs.Family.{cycle_of}
use Rattle.sg_arena.specs.declared.Link.{Link}
use Rattle.sg_match.proofs.RotateLemmas.{IsTurning, IsTurning-done, IsTurning-init, IsTurning-more, cycle_room, turning-less}
use Rattle.sg_match.proofs.rings.list_ring.Goals as goal
use Rattle.sg_match.proofs.rings.list_ring.Goals.{In-loop-next}

pub loop-next-init : goal.loop-next-init
loop-next-init c =
    let made : c.push_reserved.new.self.items ≡ c.link.result ∷ [] = c.push_reserved.ensures.items ∙
    ap (λ (xs : List Link). xs ++ c.link.result ∷ []) c.clear.ensures.items in
    record {
      room = c.push_reserved.ensures.capacity ∙ c.clear.ensures.capacity;
      turning = λ blossom i at. subst (λ xs. IsTurning c.args.arena.now blossom i xs c.after-next.result) (sym made)
          (IsTurning-init c.args.arena.now c.requires.family blossom i c.args.child at c.after-next.result c.link.result (c.link.ensures blossom i at)
          (c.after-next.ensures blossom i at));
    }

pub link-requires-in-loop-next : goal.link-requires-in-loop-next
link-requires-in-loop-next c =
    let is = c.requires.child in
    let turning = c.loop-next.invariant.turning is.0 is.1 is.2 in
    (is.0, turning.place, turning.here)

-- the ring has room for one link more
ring_fits : (c : In-loop-next) → length c.loop-next.ring.items < length c.args.arena.now.nodes
ring_fits c =
    let is = c.requires.child in
    let f = c.args.arena.now in
    let turning = c.loop-next.invariant.turning is.0 is.1 is.2 in
    let less : length c.loop-next.ring.items < length (cycle_of f is.0) =
    turning-less f c.requires.family is.0 is.1 c.args.child is.2 c.loop-next.ring.items c.loop-next.next turning c.loop-next-test.true in
    let room : length (cycle_of f is.0) ≤ length f.nodes = cycle_room f (cycle_of f is.0) (c.requires.family.cycles is.0 (omega (arith, less))) in
    omega (arith, less, room)

pub push_reserved-requires-in-loop-next : goal.push_reserved-requires-in-loop-next
push_reserved-requires-in-loop-next c =
    let fits = ring_fits (goal.at.push_reserved-requires-in-loop-next c).In-loop-next in
    omega (arith, fits, c.requires.room, c.loop-next.invariant.room)

pub after-next-requires-in-loop-next : goal.after-next-requires-in-loop-next
after-next-requires-in-loop-next c =
    let is = c.requires.child in
    let turning = c.loop-next.invariant.turning is.0 is.1 is.2 in
    (is.0, turning.place, turning.here)

pub loop-next-smaller : goal.loop-next-smaller
loop-next-smaller c =
    let fits = ring_fits (goal.at.loop-next-smaller c).In-loop-next in
    omega (arith, fits, ap (λ xs. length xs) c.push_reserved-in-loop-next.ensures.items, length-append c.loop-next.ring.items (c.link-in-loop-next.result ∷ []))

pub loop-next-preserved : goal.loop-next-preserved
loop-next-preserved c = record {
  room = c.push_reserved-in-loop-next.ensures.capacity ∙ c.loop-next.invariant.room;
  turning = λ blossom i at.
      let turning = c.loop-next.invariant.turning blossom i at in
      subst (λ xs. IsTurning c.args.arena.now blossom i xs c.after-next-in-loop-next.result) (sym c.push_reserved-in-loop-next.ensures.items)
      (IsTurning-more c.args.arena.now c.requires.family blossom i c.args.child at c.loop-next.ring.items c.loop-next.next turning c.loop-next-test.true
      c.after-next-in-loop-next.result c.link-in-loop-next.result
      (c.link-in-loop-next.ensures blossom turning.place turning.here) (c.after-next-in-loop-next.ensures blossom turning.place turning.here));
}

pub returns-clause-items : goal.returns-clause-items
returns-clause-items c blossom i at =
    IsTurning-done c.args.arena.now c.requires.family blossom i c.args.child at c.loop-next.ring.items c.loop-next.next
    (c.loop-next.invariant.turning blossom i at) c.loop-next-test.false

pub returns-clause-capacity : goal.returns-clause-capacity
returns-clause-capacity c = c.loop-next.invariant.room
