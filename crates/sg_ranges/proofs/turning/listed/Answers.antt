use Rattle.std.proofs.Common.{◌≡◌, ◌<◌, ◌+◌, ◌*◌, ◌∷◌, ◌++◌, [], length, get_or, pos, sym, ◌∙◌, ap, subst, arith}
use Rattle.std.proofs.lemmas.Grind.{common_steps}
use Rattle.std.proofs.lemmas.List.{length_push}
use Rattle.sg_base.specs.Limits.{sum_limit}
use Rattle.sg_model.specs.Ising.{bond_count}
use Rattle.sg_bonds.proofs.CostNumbers.{kept_small}
use Rattle.sg_ranges.specs.Turn.{IsTurn, IsDouble}
use Rattle.sg_ranges.proofs.MovedCouplings.{cost_halves, double_kept, turn_from_cost, turn_parts, turns_more}
use Rattle.sg_ranges.proofs.turning.listed.Goals as goal

pub turn-turning-requires-clause-cost : goal.turn-turning-requires-clause-cost
turn-turning-requires-clause-cost c =
    let bonds : c.as_slice-bond-items.result.now ≡ c.args.inst.now.bonds = c.as_slice-bond-items.ensures ∙ c.bonds.ensures.value in
    let low : c.loop-k.k < bond_count c.args.inst.now = omega (arith, c.loop-k-test.true, ap length bonds) in
    let cost = get_or c.args.costs.now c.loop-k.k (pos 0) in
    let halves : IsDouble sum_limit cost = cost_halves c.args.inst.now c.bonds.ensures.instance c.loop-k.k low cost sum_limit c.requires.sum
    (c.requires.costs.each c.loop-k.k low) in
    subst (IsDouble sum_limit) (sym (double_kept cost sum_limit (omega arith) halves)) halves

pub loop-k-preserved : goal.loop-k-preserved
loop-k-preserved c =
    let bonds : c.as_slice-bond-items.result.now ≡ c.args.inst.now.bonds = c.as_slice-bond-items.ensures ∙ c.bonds.ensures.value in
    let low : c.loop-k.k < bond_count c.args.inst.now = omega (arith, c.loop-k-test.true, ap length bonds) in
    let cost = get_or c.args.costs.now c.loop-k.k (pos 0) in
    let halves : IsDouble sum_limit cost = cost_halves c.args.inst.now c.bonds.ensures.instance c.loop-k.k low cost sum_limit c.requires.sum
    (c.requires.costs.each c.loop-k.k low) in
    let told = rw (bonds, double_kept cost sum_limit (omega arith) halves) at c.turn-turning.ensures.twice in
    let found : IsTurn c.args.inst.now c.loop-k.k c.turn-turning.result =
    turn_from_cost c.args.inst.now c.bonds.ensures.instance c.loop-k.k low c.turn-turning.result cost c.args.least.now c.requires.ground_state
    (c.requires.costs.each c.loop-k.k low) told in
    let pushed : c.push.new.self ≡ c.loop-k.turns ++ c.turn-turning.result ∷ [] =
    c.in_ok-push.ensures.ok ∙ ap (λ x. c.loop-k.turns ++ x ∷ [])
    (kept_small c.turn-turning.result (2 * sum_limit) c.turn-turning.ensures.size (omega arith)) in
    record {
      count = ap length pushed ∙ length_push c.loop-k.turns c.turn-turning.result ∙ ap (λ n. n + 1) c.loop-k.invariant.count;
      each = λ i l. subst (λ turns. IsTurn c.args.inst.now i (get_or turns i (pos 0))) (sym pushed)
          (turns_more c.args.inst.now c.loop-k.turns c.turn-turning.result c.loop-k.k c.loop-k.invariant.count c.loop-k.invariant.each found i l);
    }

pub returns-clause-turning_points : goal.returns-clause-turning_points
returns-clause-turning_points c =
    let bonds : c.as_slice-bond-items.result.now ≡ c.args.inst.now.bonds = c.as_slice-bond-items.ensures ∙ c.bonds.ensures.value in
    λ k l.
    turn_parts c.args.inst.now c.bonds.ensures.instance k l (get_or c.loop-k.turns k (pos 0))
    (c.loop-k.invariant.each k (omega (arith, l, c.loop-k-test.false, ap length bonds)))

pub turn-turning-requires-clause-coupling : goal.turn-turning-requires-clause-coupling
turn-turning-requires-clause-coupling c = grind (arith, common_steps)
