use Rattle.std.proofs.Common.{◌+◌, ◌≡◌, ap, sym, subst, arith, rules, ◌∙◌}
use Rattle.std.proofs.lemmas.Grind.{common_steps}
use Rattle.std.proofs.lemmas.List.{get_or_read, with_items_is}
use Rattle.sg_moat.specs.Depths.{AreDepths, Lowers}
use Rattle.sg_moat.specs.Input.{blank_table, table_at}
use Rattle.sg_moat.proofs.SetDepths.{depth_by, depths-end, depths-lower, depths-skip}
use Rattle.sg_moat.proofs.depths.depths_of.Goals as goal
use Rattle.sg_moat.proofs.depths.depths_of.Goals.{in-Some, in_default}

pub loop-leaf-preserved : goal.loop-leaf-preserved
loop-leaf-preserved c =
    let f = c.args.family.now in
    let tables = c.args.tables.now in
    let n = c.args.web.now.nodes in
    let old = c.loop-leaf.depths.items in
    elim c.match-inner_duals.branch [
      | in-Some w ↦
          let is : w.index-tables-leaf.result ≡ table_at tables c.loop-leaf.leaf =
          get_or_read tables c.loop-leaf.leaf w.index-tables-leaf.result c.loop-leaf-test.true w.index-tables-leaf.is blank_table in
          let lowered : Lowers (table_at tables c.loop-leaf.leaf) w.in-Some.inner n old w.lower.new.depths =
          subst (λ t. Lowers t w.in-Some.inner n old w.lower.new.depths) is
          (subst (λ ds. Lowers w.index-tables-leaf.result w.in-Some.inner n ds w.lower.new.depths) w.deref_mut.ensures.value w.lower.ensures) in
          subst (AreDepths n (depth_by f tables c.args.name n (c.loop-leaf.leaf + 1)))
          (sym (ap (λ v. v.items) w.depths-is ∙ with_items_is c.loop-leaf.depths w.lower.new.depths (search rules)))
          (depths-lower f tables c.args.name n c.loop-leaf.leaf w.in-Some.inner old w.lower.new.depths w.in-Some.ensures.0 w.in-Some.ensures.1 lowered
          c.loop-leaf.invariant)
      | in_default w ↦
          subst (AreDepths n (depth_by f tables c.args.name n (c.loop-leaf.leaf + 1))) (sym (ap (λ v. v.items) w.depths-is))
          (depths-skip f tables c.args.name n c.loop-leaf.leaf old w.in_default.ensures c.loop-leaf.invariant)
    ]

pub returns : goal.returns
returns c =
    grind (arith, depths-end, depth_by, c.requires.leaves, c.loop-leaf-test.false, c.loop-leaf.auto.leaf-end, c.room-room.ensures.family, c.loop-leaf.invariant)

pub loop-leaf-init : goal.loop-leaf-init
loop-leaf-init c = grind (arith, common_steps)
