-- `take_nearer`: each leaf takes the nearer one.
use Rattle.std.proofs.Common.{◌≡◌, ◌-ℤ◌, ◌≤ℤ◌, ◌⊎◌, true, false, subst, arith, to_z, of_z}
use Rattle.std.specs.Int.{w128}
use Rattle.std.proofs.lemmas.Int.{to_z-of_z}
use Rattle.sg_slack.specs.Kept.{key_of, nearest_at}
use Rattle.sg_slack.proofs.NearLemmas.{rest-next, taken-next, wrapped_difference}
use Rattle.sg_slack.proofs.near.take_nearer.Goals as goal

key_is : (c : goal.After-nearer_member) →
    to_z w128 (of_z w128 (to_z w128 (of_z w128 c.from.result) -ℤ to_z w128 (of_z w128 c.args.member.base))) ≡ key_of c.args.costs.now c.args.member c.loop-v.v
key_is c = grind (arith, wrapped_difference, to_z-of_z, c.from.ensures, c.cost.ensures)

pub loop-v-preserved : goal.loop-v-preserved
loop-v-preserved c =
    let costs = c.args.costs.now in
    let v = c.loop-v.v in
    let old = nearest_at c.loop-v.nearest v in
    let n = c.nearer_member.result in
    let first = c.args.first in
    let here = subst (λ k. ((n ≡ record { leaf = c.args.member.leaf; key = k }) × ((first ≡ true) ⊎ (k ≤ℤ old.key))) ⊎
    ((n ≡ old) × (first ≡ false) × (old.key ≤ℤ k))) (key_is c) c.nearer_member.ensures in
    record {
      taken = taken-next costs c.args.member first c.args.nearest.now c.loop-v.nearest v n (omega arith) (omega arith) c.loop-v.invariant.taken
          c.loop-v.invariant.rest here;
      rest = rest-next costs c.args.member first c.args.nearest.now c.loop-v.nearest v n (omega arith) (omega arith) c.loop-v.invariant.taken
          c.loop-v.invariant.rest here;
    }
