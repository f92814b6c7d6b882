use Rattle.std.proofs.Common.{◌≤◌, All, sym, subst, arith}
use Rattle.sg_moat.specs.Depths.{depth_at}
use Rattle.sg_moat.specs.Slices.{Sliced}
use Rattle.sg_moat.proofs.SetDepths.{Adds-none, Adds-slices, depths_full, dual_small}
use Rattle.sg_moat.proofs.moats.add_set.Goals as goal

pub returns-then-y-eq0 : goal.returns-then-y-eq0
returns-then-y-eq0 c =
    Adds-none c.args.family.now c.args.web.now c.args.tables.now c.args.name c.args.cuts.now (omega (arith, c.dual_under-y.ensures, c.if-y-eq0.true))

pub slice-requires-clause-full : goal.slice-requires-clause-full
slice-requires-clause-full c =
    subst (λ ds. All (λ d. d ≤ c.dual_under-y.result) ds) (sym c.deref.ensures.value)
    (depths_full c.args.family.now c.args.tables.now c.args.name c.args.web.now.nodes c.dual_under-y.result c.dual_under-y.ensures
    c.in_ok-depths.depths.items c.in_ok-depths.ensures)

pub slice-requires-clause-small : goal.slice-requires-clause-small
slice-requires-clause-small c = grind (arith, dual_small, c.dual_under-y.ensures, c.room-room.ensures.family, c.args.name, c.if-y-eq0.false)

pub returns : goal.returns
returns c =
    Adds-slices c.args.family.now c.args.web.now c.args.tables.now c.args.name c.room-room.ensures.family c.nodes-nodes.ensures.web
    c.in_ok-depths.depths.items c.in_ok-depths.ensures c.dual_under-y.result c.dual_under-y.ensures (omega (arith, c.if-y-eq0.false)) c.args.cuts.now
    c.slice.new.cuts
    (subst (λ ds. Sliced c.args.web.now (depth_at ds) c.dual_under-y.result c.args.cuts.now c.slice.new.cuts) c.deref.ensures.value
    c.in_ok-slice.ensures)
