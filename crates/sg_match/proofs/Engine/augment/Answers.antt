-- `augment`: the pairs are flipped, and no tree stands.
use Rattle.std.proofs.Common.{rules, ◌<◌, List, None, length, sym, subst, ℕ, ◌∙◌, arith}
use Rattle.std.proofs.lemmas.Grind.{common_steps}
use Rattle.std.proofs.lemmas.List.{with_items_is}
use Rattle.std.specs.Vec.{with_items}
use Rattle.sg_match.proofs.Engine.augment.Goals as goal
use Rattle.sg_match.proofs.GrowOrAugmentStep.{IsAfter, IsEngine-augmented, edge_tops, root_top, with_tree}
use Rattle.sg_match.specs.Augmented.{HasTwoTops}
use Rattle.sg_match.specs.Tree.{tree_edge_at}
use Rattle.sg_match.specs.declared.TreeEdge.{TreeEdge}

pub augment_path-requires-clause-root : goal.augment_path-requires-clause-root
augment_path-requires-clause-root c = root_top _ _ _ _ _ _ c.self.invariant.engine _ c.self.view_is _ _ _ _ c.requires.tight_edge

pub augment_path-requires-clause-edges : goal.augment_path-requires-clause-edges
augment_path-requires-clause-edges c =
    subst (λ (ls : List TreeEdge). (i : ℕ) → i < length ls → HasTwoTops c.self.inside.arena (tree_edge_at ls i)) (sym c.deref.ensures.value)
    (edge_tops _ _ _ _ _ _ c.self.invariant.engine _ c.self.view_is _ _ _ _ c.requires.tight_edge)

after : (c : goal.After-clear) →
    IsAfter (with_tree c.self.inside.arena c.self.inside.near.table (with_items c.self.inside.pairs c.augment_path.new.pairs).items c.take_name.new.names.items
    None c.clear.new.self.items) c.args.self.now
after c =
    IsEngine-augmented _ _ _ _ _ _ c.self.invariant.engine _ c.self.view_is _ _ _ _ c.requires.tight_edge c.requires.unpaired _ _ _ _ _ _
    c.deref_mut.ensures.value
    c.deref.ensures.value
    (with_items_is c.self.inside.pairs c.augment_path.new.pairs (c.augment_path.auto.pairs ∙ c.deref_mut.ensures.len))
    c.clear.ensures.items
    c.augment_path.ensures
    c.take_name.ensures.taken

pub invariant_of-self : goal.invariant_of-self
invariant_of-self c = let engine = (after c).0 in search rules

pub returns-clause-engine : goal.returns-clause-engine
returns-clause-engine c = (after c).0

pub returns-clause-less : goal.returns-clause-less
returns-clause-less c = (after c).1

pub augment_path-requires-clause-names : goal.augment_path-requires-clause-names
augment_path-requires-clause-names c = grind (arith, common_steps)
