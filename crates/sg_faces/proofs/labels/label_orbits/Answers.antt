use Rattle.std.proofs.Common.{◌≡◌, ◌<◌, length, get_or, arith, sym, ap, subst, ◌∙◌, rules}
use Rattle.std.proofs.lemmas.List.{get_or_read, with_items_is}
use Rattle.sg_faces.specs.Tables.{LabelsOrbits, least_before}
use Rattle.sg_faces.proofs.OrbitWalks.{all_labelled, count_new, count_old, count_small, later_limit}
use Rattle.sg_faces.proofs.labels.label_orbits.Goals as goal
use Rattle.sg_faces.proofs.labels.label_orbits.Goals.{then-index, else-index}

pub label_orbit-requires-clause-room : goal.label_orbit-requires-clause-room
label_orbit-requires-clause-room c =
    omega (arith, count_small c.args.table.now c.loop-start.count c.loop-start.start c.loop-start.invariant.counted)

pub overflow_add-count : goal.overflow_add-count
overflow_add-count c = omega (arith, count_small c.args.table.now c.loop-start.count c.loop-start.start c.loop-start.invariant.counted)

pub loop-start-preserved : goal.loop-start-preserved
loop-start-preserved c =
    let table = c.args.table.now in
    let labels = c.loop-start.labels.items in
    let at = c.loop-start.start in
    let h = c.loop-start.invariant in
    let in_labels : at < length labels = omega (arith, h.labelled.lengths) in
    let read : c.index.result.now ≡ get_or labels at 0 = get_or_read labels at c.index.result.now in_labels c.index.ensures 0 in
    elim c.if-index.branch [
      | then-index w ↦
          let items_are : c.if-index.labels.items ≡ w.label_orbit.new.labels =
          ap (λ v. v.items) w.labels-is ∙ with_items_is c.loop-start.labels w.label_orbit.new.labels (search rules) in
          rw (items_are, w.count-is) (record {
            labelled = w.label_orbit.ensures;
            counted = count_new table labels c.loop-start.count at c.requires.is_move c.loop-start-test.true h.labelled h.counted
                (sym read ∙ w.if-index.true);
          })
      | else-index w ↦
          rw (w.labels-is, w.count-is) (record {
            labelled = later_limit table labels at h.labelled (λ e. w.if-index.false (read ∙ e));
            counted = count_old table labels c.loop-start.count at c.requires.is_move c.loop-start-test.true h.labelled h.counted
                (λ e. w.if-index.false (read ∙ e));
          })
    ]

pub returns : goal.returns
returns c =
    let table = c.args.table.now in
    let ended : c.loop-start.start ≡ length table = omega arith in
    rw (c.new.ensures.labels, c.new.ensures.count)
    (all_labelled table c.loop-start.labels.items c.requires.is_move (subst (LabelsOrbits table c.loop-start.labels.items) ended
    c.loop-start.invariant.labelled) c.loop-start.count (c.loop-start.invariant.counted ∙ ap (least_before table) ended))
