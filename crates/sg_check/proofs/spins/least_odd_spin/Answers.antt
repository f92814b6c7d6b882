use Rattle.std.proofs.Common.{◌≡◌, ◌∙◌, ap, length, arith}
use Rattle.std.proofs.lemmas.List.{length-replicate}
use Rattle.sg_base.specs.Parity.{parity_by}
use Rattle.sg_check.proofs.OddSpins.{ends_at, is_marked_odd, least_odd, turned_twice}
use Rattle.sg_check.proofs.spins.least_odd_spin.Goals as goal

pub returns-clause-none : goal.returns-clause-none
returns-clause-none c = (least_odd c.args.inst.now c.args.list.now _ _ (is_marked_odd c.args.inst.now _ _ _ c.requires.no_marks c.flip_ends.ensures)
    c.least_marked_end-spin.ensures.found c.least_marked_end-spin.ensures.least).0

pub returns-clause-some : goal.returns-clause-some
returns-clause-some c = (least_odd c.args.inst.now c.args.list.now _ _ (is_marked_odd c.args.inst.now _ _ _ c.requires.no_marks c.flip_ends.ensures)
    c.least_marked_end-spin.ensures.found c.least_marked_end-spin.ensures.least).1

pub returns-clause-marks : goal.returns-clause-marks
returns-clause-marks c =
    let all : length c.args.marks.now ≡ c.args.inst.now.n = ap length c.requires.no_marks ∙ length-replicate _ _ in
    turned_twice _ (λ i. parity_by (ends_at c.args.inst.now i) c.args.list.now) _ _ _ all (omega (arith, all, c.flip_ends.auto.marks))
    (omega (arith, all, c.flip_ends.auto.marks, c.flip_ends-2.auto.marks)) c.flip_ends.ensures c.flip_ends-2.ensures
