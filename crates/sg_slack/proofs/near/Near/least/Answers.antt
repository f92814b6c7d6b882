-- `least`: the nearest member of a free leaf has the least slack to it.
use Rattle.std.proofs.Common.{arith, ◌≡◌, ℕ, ◌<◌, List, length, subst, sym, rules, to_z, of_z}
use Rattle.std.specs.Int.{w128}
use Rattle.std.proofs.lemmas.Int.{to_z-of_z}
use Rattle.sg_slack.proofs.NearLemmas.{Least-kept, key-kept}
use Rattle.sg_slack.specs.Members.{Agree, IsMember, Known}
use Rattle.sg_slack.specs.Scan.{IsNearestFree}
use Rattle.sg_slack.specs.Slack.{IsOuterFree, Least, mark_at}
use Rattle.sg_slack.specs.declared.Mark.TheVariants.{Outer}
use Rattle.sg_slack.specs.declared.near.Nearest.{Nearest}
use Rattle.sg_slack.proofs.near.Near.least.Goals as goal

pub returns : goal.returns
returns c =
    let e = c.self.inside in
    let totals = c.args.total.now in
    let marks = c.args.mark.now in
    let ms = e.members.items in
    let some : 0 < length ms = search rules in
    let members = subst (λ (s : Known). (u : ℕ) → u < s.table.size → (mark_at marks u ≡ Outer → IsMember s.members u) × (IsMember s.members u →
    mark_at marks u ≡ Outer)) (sym c.self.view_is) c.requires.members in
    let agree = subst (λ (s : Known). Agree s.members totals) (sym c.self.view_is) c.requires.agree in
    let scanned = subst (λ (xs : List Nearest). Least e.costs totals (IsNearestFree e.costs xs marks) c.nearest_kept.result) c.deref.ensures.value
    c.nearest_kept.ensures in
    subst (λ (s : Known). Least s.table totals (IsOuterFree s.table marks) c.nearest_kept.result) c.self.view_is
    (Least-kept c.self.invariant.near totals marks members agree c.nearest_kept.result some scanned)

pub nearest_kept-requires-clause-keys : goal.nearest_kept-requires-clause-keys
nearest_kept-requires-clause-keys c =
    let e = c.self.inside in
    let totals = c.args.total.now in
    let some : 0 < length e.members.items = search rules in
    let agree = subst (λ (s : Known). Agree s.members totals) (sym c.self.view_is) c.requires.agree in
    let rise_is : to_z w128 (of_z w128 e.rise) ≡ e.rise = to_z-of_z w128 e.rise (search rules) in
    λ v low. grind (arith, key-kept, c.deref.ensures.value, c.self.invariant.near)
