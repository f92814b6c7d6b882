-- `nearest`: the tables say of the leaves what the tree says.
use Rattle.std.proofs.Common.{◌≡◌, ◌<◌, ◌∙◌, subst, sym, arith}
use Rattle.sg_base.specs.Naturals.{nat_of}
use Rattle.sg_match.proofs.NearestStep.{CanScan-listed, IsMarked-stands, IsNearest-scanned, SumsFit-listed}
use Rattle.sg_match.specs.Marks.{AreRightMarks}
use Rattle.sg_match.specs.Scans.{CanScan, IsScanned}
use Rattle.sg_slack.specs.Slack.{SumsFit, mark_at}
use Rattle.sg_slack.specs.declared.Mark.TheVariants.{Outer}
use Rattle.sg_slack.specs.Table.{Table}
use Rattle.sg_match.proofs.dual_change.nearest.Goals as goal
use Rattle.sg_match.proofs.dual_change.nearest.Goals.{After-costs, After-mark_leaves}

marked : (c : After-mark_leaves) → AreRightMarks c.args.arena.now c.args.tree.now.root c.args.tree.now.edges.now c.mark_leaves.new.marks
marked c =
    let can = c.requires.stands in
    let listed = c.list_leaves.ensures in
    IsMarked-stands c.args.arena.now c.args.tree.now.root c.args.tree.now.edges.now c.list_leaves.new.tops c.list_leaves.new.totals c.mark_leaves.new.marks
    can.feasible.family can.shape listed (c.mark_leaves.ensures.count ∙ listed.top_count)
    (λ leaf low. c.mark_leaves.ensures.marked leaf (omega (arith, low, listed.top_count)))

-- the costs are those from the beginning
same_table : (c : After-costs) → c.costs.result.now ≡ c.args.near.now.table
same_table c = c.costs.ensures ∙ c.add_outer.ensures.table ∙ c.follow.ensures.table

fit : (c : After-mark_leaves) → SumsFit c.args.near.now.table c.list_leaves.new.totals
fit c =
    let can = c.requires.stands in
    SumsFit-listed c.args.arena.now c.args.near.now.table c.args.tree.now.root c.args.tree.now.edges.now c.list_leaves.new.tops c.list_leaves.new.totals
    c.mark_leaves.new.marks c.requires.metric c.requires.leaves can.feasible can.shape c.list_leaves.ensures (marked c)

pub least-free-requires-clause-fits : goal.least-free-requires-clause-fits
least-free-requires-clause-fits c =
    subst (λ (t : Table). SumsFit t c.list_leaves.new.totals) (sym (c.add_outer.ensures.table ∙ c.follow.ensures.table))
    (fit (goal.at.least-free-requires-clause-fits c).After-mark_leaves)

pub least-free-requires-clause-members : goal.least-free-requires-clause-members
least-free-requires-clause-members c = λ u low. (
  c.add_outer.ensures.every u (subst (λ (t : Table). u < t.size) c.add_outer.ensures.table low),
  (λ is. subst (λ n. mark_at c.mark_leaves.new.marks n ≡ Outer) is.2 (c.add_outer.ensures.outer is.0 is.1).1),
)

pub scan-requires-clause-fits : goal.scan-requires-clause-fits
scan-requires-clause-fits c =
    let at = goal.at.scan-requires-clause-fits c in
    subst (λ (t : Table). SumsFit t c.list_leaves.new.totals) (sym (same_table at.After-costs)) (fit at.After-mark_leaves)

pub scan-requires-clause-can : goal.scan-requires-clause-can
scan-requires-clause-can c =
    let f = c.args.arena.now in
    let can = c.requires.stands in
    let at = goal.at.scan-requires-clause-can c in
    subst (λ (t : Table). CanScan t c.list_leaves.new.tops c.list_leaves.new.totals c.mark_leaves.new.marks) (sym (same_table at.After-costs))
    (CanScan-listed f c.args.near.now.table c.args.tree.now.root c.args.tree.now.edges.now c.list_leaves.new.tops c.list_leaves.new.totals
    c.mark_leaves.new.marks c.requires.metric c.requires.leaves can.feasible can.shape c.list_leaves.ensures (marked at.After-mark_leaves) can.alike
    can.free.0 can.free.1 can.free.2 can.free.3 can.free.4)

pub returns-clause-nearest : goal.returns-clause-nearest
returns-clause-nearest c =
    let f = c.args.arena.now in
    let can = c.requires.stands in
    let at = goal.at.returns-clause-nearest c in
    let scanned = subst (λ (t : Table). IsScanned t c.list_leaves.new.tops c.list_leaves.new.totals c.mark_leaves.new.marks (nat_of c.scan.result.amount)
    c.scan.result.event) (same_table at.After-costs) c.scan.ensures.scanned in
    IsNearest-scanned f c.args.near.now.table c.args.tree.now.root c.args.tree.now.edges.now c.list_leaves.new.tops c.list_leaves.new.totals
    c.mark_leaves.new.marks c.requires.metric c.requires.leaves can.feasible can.shape c.list_leaves.ensures (marked at.After-mark_leaves)
    (nat_of c.scan.result.amount) c.scan.result.event scanned
