-- `grow`: a tree edge for a top and its mate.
use Rattle.std.proofs.Common.{rules, List, sym, subst}
use Rattle.sg_match.proofs.Engine.grow.Goals as goal
use Rattle.sg_match.proofs.GrowOrAugmentStep.{IsAfter, pair_leaf, grown, edge_fits, with_tree}
use Rattle.sg_match.specs.declared.TreeEdge.{TreeEdge}

pub top-outer-requires : goal.top-outer-requires
top-outer-requires c = pair_leaf _ _ _ _ _ _ c.self.invariant.engine _ c.self.view_is _ _ _ _ c.requires.tight_edge _ c.requires.pair

pub push_reserved-requires : goal.push_reserved-requires
push_reserved-requires c =
    let low = edge_fits _ _ _ _ _ _ c.self.invariant.engine _ c.self.view_is _ _ _ _ c.requires.tight_edge in
    let room = c.self.invariant.edges in
    search rules

after : (c : goal.After-push_reserved) →
    IsAfter (with_tree c.self.inside.arena c.self.inside.near.table c.self.inside.pairs.items c.self.inside.exposed.items c.self.inside.root
    c.push_reserved.new.self.items) c.args.self.now
after c =
    subst (λ (xs : List TreeEdge). IsAfter
    (with_tree c.self.inside.arena c.self.inside.near.table c.self.inside.pairs.items c.self.inside.exposed.items c.self.inside.root xs) c.args.self.now)
    (sym c.push_reserved.ensures.items)
    (grown _ _ _ _ _ _ c.self.invariant.engine _ c.self.view_is _ _ _ _ c.requires.tight_edge _ c.requires.pair c.top-outer.result c.top-outer.ensures.top
    c.top-outer.ensures.holds)

pub invariant_of-self : goal.invariant_of-self
invariant_of-self c = let engine = (after c).0 in search rules

pub returns-clause-engine : goal.returns-clause-engine
returns-clause-engine c = (after c).0

pub returns-clause-less : goal.returns-clause-less
returns-clause-less c = (after c).1
