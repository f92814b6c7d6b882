-- `pair_inside`: the children are a ring from that on which holds the end of the pair.
use Rattle.std.proofs.Common.{◌≡◌, ◌<◌, Contains, length, ap, ◌∙◌, subst, sym}
use Rattle.sg_arena.specs.Family.{Holds, cycle_of, link_at}
use Rattle.sg_arena.specs.declared.Link.{Link}
use Rattle.sg_match.proofs.NodeLemmas.{node_in}
use Rattle.sg_match.proofs.RotateLemmas.{from_ring}
use Rattle.sg_match.proofs.mates.pair_inside.Goals as goal
use Rattle.sg_match.proofs.mates.pair_inside.Goals.{After-list_ring}
use Rattle.sg_match.specs.Path.{nodes_of}
use Rattle.sg_match.specs.Rings.{ring_pair, rotated}

listed : (c : After-list_ring) → c.list_ring.new.ring.items ≡ rotated c.child.ensures.child.0 (cycle_of c.args.arena.now c.args.blossom)
listed c = let at = c.child.ensures.child in c.list_ring.ensures.items c.args.blossom at.0 at.1

pub place_of-place-requires : goal.place_of-place-requires
place_of-place-requires c =
    let cycle = cycle_of c.args.arena.now c.args.blossom in
    let base = c.child.ensures.child in
    let at = c.requires.child in
    let kid = from_ring base.0 cycle at.0 base.1.within at.1.within in
    subst (λ xs. Contains (nodes_of xs) c.args.child) (sym (c.deref.ensures.value ∙ listed (goal.at.place_of-place-requires c).After-list_ring))
    (subst (λ n. Contains (nodes_of (rotated base.0 cycle)) n) (ap (λ (l : Link). l.node) kid.2 ∙ at.1.here) (node_in (rotated base.0 cycle) kid.0 kid.1))

pub returns-clause-inside : goal.returns-clause-inside
returns-clause-inside c =
    let base = c.child.ensures.child in
    let place = c.place_of-place.result in
    let ring = listed (goal.at.returns-clause-inside c).After-list_ring in
    record {
      start = base.0;
      low = base.1.within;
      base = subst (λ n. Holds c.args.arena.now n c.args.pair.from) (sym base.1.here) c.child.ensures.holds;
      place = place;
      within = subst (λ xs. place < length xs) (c.deref.ensures.value ∙ ring) c.place_of-place.ensures.within;
      here = subst (λ xs. (link_at xs place).node ≡ c.args.child) (c.deref.ensures.value ∙ ring) c.place_of-place.ensures.here;
      is = c.pair_at.ensures ∙ ap (λ xs. ring_pair xs c.args.pair place) (c.deref-2.ensures.value ∙ ring);
    }
