use Rattle.sg_bonds.proofs.Common.{◌≡◌, ◌↔◌, ◌+◌, ◌∙◌, true, List, Bool, ap, length, subst, sym, length_push, Ising, has}
use Rattle.sg_bonds.specs.Cost.{IsRigid}
use Rattle.sg_bonds.proofs.ToldBonds.{marks_push}
use Rattle.sg_bonds.proofs.telling.gather.Goals as goal

pub loop-bond-preserved : goal.loop-bond-preserved
loop-bond-preserved c =
    let inst : Ising = c.args.study.now.planar.now.instance in record {
      count = ap length c.in_ok-add_mark.ensures ∙ length_push c.loop-bond.set.items c.in_ok-mark.mark ∙ ap (λ n. n + 1) c.loop-bond.invariant.count;
      each = λ k l. subst (λ (set : List Bool). (has set k ≡ true) ↔ IsRigid inst k) (sym c.in_ok-add_mark.ensures)
          (marks_push inst c.loop-bond.set.items c.in_ok-mark.mark c.loop-bond.bond c.loop-bond.invariant.count c.loop-bond.invariant.each
          c.in_ok-mark.ensures.rigid k l);
    }
