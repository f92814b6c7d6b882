use Rattle.std.proofs.Common.{◌<◌, ◌*◌, ◌+◌, ◌∙◌, List, ℤ, subst, sym, w64, to_z, of_z, set, length-set}
use Rattle.std.proofs.lemmas.Int.{to_z-of_z}
use Rattle.sg_slack.proofs.TableLemmas.{SetsPair-written, symmetric_set}
use Rattle.sg_slack.proofs.Costs.set.Goals as goal

pub invariant_of-self : goal.invariant_of-self
invariant_of-self c =
    let n = c.self.inside.size in
    let old : List ℤ = c.self.inside.entries.items in
    let cost : ℤ = to_z w64 (of_z w64 c.args.cost) in
    let first : List ℤ = set old (c.args.u * n + c.args.v) cost in
    let low_u = subst (λ t. c.args.u < t.size) (sym c.self.view_is) c.requires.u in
    let low_v = subst (λ t. c.args.v < t.size) (sym c.self.view_is) c.requires.v in (
      length-set first (c.args.v * n + c.args.u) cost ∙ length-set old (c.args.u * n + c.args.v) cost ∙ c.self.invariant.0,
      c.self.invariant.1,
      symmetric_set (record { size = n; entries = old }) (record { size = n; entries = set first (c.args.v * n + c.args.u) cost })
          c.args.u c.args.v cost
          (SetsPair-written n old c.args.u c.args.v cost c.self.invariant.0 low_u low_v) c.self.invariant.2,
    )

pub returns : goal.returns
returns c =
    let low_u = subst (λ t. c.args.u < t.size) (sym c.self.view_is) c.requires.u in
    let low_v = subst (λ t. c.args.v < t.size) (sym c.self.view_is) c.requires.v in
    rw (to_z-of_z w64 c.args.cost c.ranges.cost, ← c.self.view_is)
    (SetsPair-written c.self.inside.size c.self.inside.entries.items c.args.u c.args.v c.args.cost c.self.invariant.0 low_u low_v)
