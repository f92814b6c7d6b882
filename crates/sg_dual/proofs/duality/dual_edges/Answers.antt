use Rattle.std.proofs.Common.{FitsSigned, w64, to_z-of_z, rules, ◌<◌, ap, arith, length, ◌∙◌}
use Rattle.sg_model.specs.declared.bond.Bond.{Bond}
use Rattle.sg_model.specs.Ising.{bond_count}
use Rattle.sg_dual.proofs.DualWebs.{edges_more}
use Rattle.sg_dual.proofs.duality.dual_edges.Goals as goal

pub loop-k-preserved : goal.loop-k-preserved
loop-k-preserved c =
    let same = c.loop-k.invariant.list in
    let low : c.loop-k.k < bond_count c.args.inst.now = omega (arith, ap (length {A = Bond}) same) in
    let fits : FitsSigned w64 c.size.result = search rules in
    record {
      list = same;
      made = c.in_ok-push.ensures.ok ∙ edges_more c.args.inst.now c.args.faces.now c.loop-k.k c.loop-k.edges c.as_slice-bond-items.result.now
          c.of.result c.of-in-loop-k.result _ same c.loop-k.invariant.made c.of.ensures c.of-in-loop-k.ensures (to_z-of_z fits ∙ c.size.ensures);
    }
